-- Pairs as assignments to variables of a shell.
use Rattle.std.specs.Prelude.{◌==◌, ◌++◌, ℕ, Bool, false, if◌then◌else◌, List, [], ◌∷◌, codes}
use Rattle.std.specs.Prelude.{encode_utf8_all, flat_map, map, Option, None, Some}
use Rattle.std.specs.Char.{is_ascii_alphanumeric, is_ascii_digit}
use Rattle.ini.specs.Properties.{Pairs}
use Rattle.ini.specs.Texts.{Text}
use Rattle.ini_words.specs.Words.{Word}

-- a byte of a variable: a letter or a digit of ASCII, else `_`
abbrev pub name_byte : ℕ → ℕ
name_byte byte = if is_ascii_alphanumeric byte then byte else 0x5F

abbrev pub named_bytes : Text → Word
named_bytes text = map name_byte (encode_utf8_all text)

abbrev pub is_digit_among : Word → Bool
is_digit_among [] = false
is_digit_among (first ∷ more) = is_ascii_digit first

-- a digit begins the text
abbrev pub is_digit_first : Text → Bool
is_digit_first text = is_digit_among (encode_utf8_all text)

-- the section's name in a variable, which a digit doesn't begin
abbrev pub variable_of_name : Text → Word
variable_of_name name = (if is_digit_first name then codes "_" else []) ++ named_bytes name

-- the variable: the section's name, nothing of the general one's, `_`, and the key
abbrev pub variable : Option Text → Text → Word
variable None key = 0x5F ∷ named_bytes key
variable (Some name) key = variable_of_name name ++ 0x5F ∷ named_bytes key

-- a byte within apostrophes
abbrev pub quoted_byte : ℕ → Word
quoted_byte byte = if byte == 0x27 then codes "'\\''" else byte ∷ []

abbrev pub quoted_bytes : Text → Word
quoted_bytes text = flat_map quoted_byte (encode_utf8_all text)

-- an assignment, on a line
abbrev pub shell_line : Option Text → Text → Text → Word
shell_line name key value = variable name key ++ (codes "='" ++ (quoted_bytes value ++ codes "'\n"))

-- those of a section's pairs
abbrev pub shell_pairs : Option Text → Pairs → Word
shell_pairs name ps = flat_map (λ p. shell_line name p.0 p.1) ps

abbrev pub shell_section : Option Text × Pairs → Word
shell_section s = shell_pairs s.0 s.1
