-- The characters that stand between the parts of an entry.
use Rattle.std.proofs.Common.{◌≡◌, [], ◌∷◌, refl}
use Rattle.std.specs.Str.{chars}
use Rattle.ini_text.specs.Grammar.CharacterKinds.{tab}
use Rattle.ini_words.specs.Lines.{text_in}
use Rattle.ini_words.specs.declared.lines.form.Form.{Form}
use Rattle.ini_words.specs.declared.lines.form.Form.TheVariants.{Escaped, AsIs, Null}

pub chars-nothing : chars [] ≡ []
unfolding chars
chars-nothing = refl

pub chars-tab : chars (tab ∷ []) ≡ tab ∷ []
unfolding chars
chars-tab = refl

pub chars-nul : chars (0 ∷ []) ≡ 0 ∷ []
unfolding chars
chars-nul = refl

pub nothing-in : (form : Form) → text_in form [] ≡ []
nothing-in Escaped = refl
nothing-in AsIs = refl
nothing-in Null = refl
