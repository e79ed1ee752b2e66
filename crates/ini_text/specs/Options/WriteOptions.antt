-- Line ends, and the options of writing that are used where none are given.
use Rattle.std.specs.Prelude.{◌≡◌, ℕ, List, [], ◌∷◌, codes}
use Rattle.ini_text.specs.Grammar.CharacterKinds.{carriage_return, line_feed}
use Rattle.ini_text.specs.declared.write.policy.EscapePolicy.{EscapePolicy}
use Rattle.ini_text.specs.declared.write.policy.EscapePolicy.TheVariants.{Basics}
use Rattle.ini_text.specs.declared.write.option.LineSeparator.{LineSeparator}
use Rattle.ini_text.specs.declared.write.option.LineSeparator.TheVariants.{SystemDefault, CR, CRLF}
use Rattle.ini_text.specs.declared.write.option.WriteOption.{WriteOption}

-- LF, LF, CR LF
abbrev pub line_end : LineSeparator → List ℕ
line_end SystemDefault = line_feed ∷ []
line_end CR = line_feed ∷ []
line_end CRLF = carriage_return ∷ line_feed ∷ []

-- the basic escapes, LF at line ends, and `=` alone between a key and its value
pub record IsDefaultWriteOption (option : WriteOption) : Type 0 where
  pub escape_policy : option.escape_policy ≡ Basics
  pub line_separator : option.line_separator ≡ SystemDefault
  pub kv_separator : option.kv_separator.now ≡ codes "="

-- the same options with this policy
abbrev pub with_policy : EscapePolicy → WriteOption → WriteOption
with_policy policy option = record option { escape_policy = policy }
