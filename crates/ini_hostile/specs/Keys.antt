-- The texts of the odd keys.
use Rattle.std.specs.Prelude.{ℕ, List, map}
use Rattle.std.specs.Char.{to_ascii_lowercase}

-- the text with its ASCII letters in lower case
abbrev pub lower : List ℕ → List ℕ
lower text = map to_ascii_lowercase text
