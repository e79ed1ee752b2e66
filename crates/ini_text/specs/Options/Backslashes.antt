-- What a backslash is to the reader of a text.
use Rattle.std.specs.Prelude.{Bool, true, false, ℕ, ◌==◌, ◌&&◌}
use Rattle.ini_text.specs.Grammar.CharacterKinds.{backslash}

pub data Backslash : Type 0 where
  -- it begins an escape
  Escape : Backslash
  -- it and the character after it stay, and that character ends nothing
  Kept : Backslash
  -- it is a character like any other
  Raw : Backslash

-- a backslash takes the character after it along
abbrev pub is_special : Backslash → Bool
is_special Escape = true
is_special Kept = true
is_special Raw = false

abbrev pub reads_escapes : Backslash → Bool
reads_escapes Escape = true
reads_escapes Kept = false
reads_escapes Raw = false

-- the character is a backslash that takes the next one along
abbrev pub begins_escape : Backslash → ℕ → Bool
begins_escape b c = c == backslash && is_special b
