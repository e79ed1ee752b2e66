-- The escaped text of a character and of a text.
use Rattle.std.specs.Prelude.{ℕ, zero, suc, ◌/◌, ◌%◌, ◌^◌, ◌||◌, ◌==◌, nat_lt, if◌then◌else◌, List, [], ◌∷◌}
use Rattle.std.specs.Prelude.{Option, Some, None, flat_map, chars, encode_utf8_all}
use Rattle.std.specs.Char.{digit_char}
use Rattle.ini_text.specs.Grammar.CharacterKinds.{backslash, letter_x}
use Rattle.ini_text.specs.Escaping.Policies.{is_escaped, is_reserved}
use Rattle.ini_text.specs.declared.write.policy.EscapePolicy.{EscapePolicy}

-- the one character that follows the backslash, where one is enough: \\ \; \# \= \: \0 \a \b \t \n \v \f \r
abbrev pub letter_of : ℕ → Option ℕ
letter_of c =
    if c == backslash || is_reserved c then Some c
    else if c == 0x00 then Some 0x30
    else if c == 0x07 then Some 0x61
    else if c == 0x08 then Some 0x62
    else if c == 0x09 then Some 0x74
    else if c == 0x0A then Some 0x6E
    else if c == 0x0B then Some 0x76
    else if c == 0x0C then Some 0x66
    else if c == 0x0D then Some 0x72
    else None

-- the last n hexadecimal digits of a number, in lower case
abbrev pub hex_digits : ℕ → ℕ → List ℕ
hex_digits zero number = []
hex_digits (suc n) number = digit_char (number / 16 ^ n % 16) ∷ hex_digits n number

-- four digits up to U+FFFF, five up to U+FFFFF, six above
abbrev pub digit_count : ℕ → ℕ
digit_count c = if nat_lt c 0x1_0000 then 4 else if nat_lt c 0x10_0000 then 5 else 6

-- the escape by that one character, and else by \x and digits
abbrev pub escape_by : Option ℕ → ℕ → List ℕ
escape_by (Some letter) c = backslash ∷ letter ∷ []
escape_by None c = backslash ∷ letter_x ∷ hex_digits (digit_count c) c

-- the escape of a character
unfoldable pub escape : ℕ → List ℕ
escape c = escape_by (letter_of c) c

-- what is written for a text: the characters that the policy escapes as their escapes, the others as they
-- are
abbrev pub escaped : EscapePolicy → List ℕ → List ℕ
escaped policy text = flat_map (λ c. if is_escaped policy c then escape c else c ∷ []) text

-- the same in UTF-8: the bytes that go out for the bytes of a text
abbrev pub escaped_bytes : EscapePolicy → List ℕ → List ℕ
escaped_bytes policy bytes = encode_utf8_all (escaped policy (chars bytes))
