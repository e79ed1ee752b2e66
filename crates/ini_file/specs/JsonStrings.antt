-- What stands of a text in a string of JSON.
use Rattle.std.specs.Prelude.{◌==◌, ◌||◌, ℕ, ◌+◌, ◌/◌, ◌%◌, if◌then◌else◌, nat_lt, List, [], ◌∷◌, ◌++◌}
use Rattle.std.specs.Prelude.{codes, flat_map}

-- the hexadecimal digit of a number below 16
abbrev pub hex_digit : ℕ → ℕ
hex_digit n = if nat_lt n 10 then 0x30 + n else 0x37 + n

-- the two digits of a byte
abbrev pub hex_digits : ℕ → List ℕ
hex_digits byte = hex_digit (byte / 16) ∷ hex_digit (byte % 16) ∷ []

-- a byte of a string
abbrev pub json_byte : ℕ → List ℕ
json_byte byte =
    if byte == 0x22 || byte == 0x5C then 0x5C ∷ byte ∷ []
    else if nat_lt byte 0x20 then codes "\\u00" ++ hex_digits byte
    else byte ∷ []

-- a string, of the bytes of a text
abbrev pub json_string : List ℕ → List ℕ
json_string bytes = codes "\"" ++ (flat_map json_byte bytes ++ codes "\"")
