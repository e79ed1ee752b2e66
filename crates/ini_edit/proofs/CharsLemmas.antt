-- The characters of words in the code.
use Rattle.std.proofs.Common.{◌≡◌, [], ◌∷◌, refl}
use Rattle.std.specs.Str.{chars}
use Rattle.ini_text.specs.Grammar.CharacterKinds.{backslash, carriage_return, double_quote, line_feed}
use Rattle.ini_text.specs.Grammar.CharacterKinds.{semicolon, space}

pub chars-none : chars [] ≡ []
unfolding chars
chars-none = refl

pub chars-backslash : chars (92 ∷ []) ≡ backslash ∷ []
unfolding chars
chars-backslash = refl

pub chars-space : chars (32 ∷ []) ≡ space ∷ []
unfolding chars
chars-space = refl

pub chars-return : chars (13 ∷ []) ≡ carriage_return ∷ []
unfolding chars
chars-return = refl

pub chars-feed : chars (10 ∷ []) ≡ line_feed ∷ []
unfolding chars
chars-feed = refl

pub chars-semicolon : chars (59 ∷ []) ≡ semicolon ∷ []
unfolding chars
chars-semicolon = refl

pub chars-double : chars (34 ∷ []) ≡ double_quote ∷ []
unfolding chars
chars-double = refl
