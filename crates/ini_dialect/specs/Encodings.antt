-- The bytes of a text in an encoding. Decoding is the inverse, so it needs no definition of its own.
use Rattle.std.specs.Prelude.{◌≡◌, ℕ, ◌+◌, ◌/◌, ◌%◌, ◌<◌, true, ◌&&◌, ◌||◌, ◌==◌, nat_le, nat_lt}
use Rattle.std.specs.Prelude.{if◌then◌else◌, List, [], ◌∷◌, ◌++◌, flat_map, length, Option, None, Some}
use Rattle.std.specs.Prelude.{Result, Err, ⊤, encode_utf8, option_and_then, position}
use Rattle.std.specs.Char.{IsScalar}
use Rattle.std.specs.Char.Escape.{encode_utf16}
use Rattle.std.specs.Option.{option_map}
use Rattle.std.specs.Str.{all_scalars}
use Rattle.ini_text.specs.Grammar.Positions.{column_of, line_of}
use Rattle.ini_dialect.specs.declared.coding.DecodeError.{DecodeError}
use Rattle.ini_dialect.specs.declared.coding.DecodeError.TheVariants.{Malformed}
use Rattle.ini_dialect.specs.declared.coding.EncodeError.{EncodeError}
use Rattle.ini_dialect.specs.declared.coding.EncodeError.TheVariants.{NoBytes}
use Rattle.ini_dialect.specs.declared.encoding.Encoding.{Encoding}
use Rattle.ini_dialect.specs.declared.encoding.Encoding.TheVariants.{Latin1, Utf16Be, Utf16Le, Utf8}
use Rattle.ini_dialect.specs.declared.encoding.Encoding.TheVariants.{Windows1252}

-- what windows-1252 has for the bytes 0x80 to 0x9F, in order
abbrev pub windows_characters : List ℕ
windows_characters =
    0x20AC ∷ 0x81 ∷ 0x201A ∷ 0x192 ∷ 0x201E ∷ 0x2026 ∷ 0x2020 ∷ 0x2021
    ∷ 0x2C6 ∷ 0x2030 ∷ 0x160 ∷ 0x2039 ∷ 0x152 ∷ 0x8D ∷ 0x17D ∷ 0x8F
    ∷ 0x90 ∷ 0x2018 ∷ 0x2019 ∷ 0x201C ∷ 0x201D ∷ 0x2022 ∷ 0x2013 ∷ 0x2014
    ∷ 0x2DC ∷ 0x2122 ∷ 0x161 ∷ 0x203A ∷ 0x153 ∷ 0x9D ∷ 0x17E ∷ 0x178 ∷ []

-- the byte of a character in windows-1252: its number, but for those of the table
abbrev pub windows_byte : ℕ → Option ℕ
windows_byte c =
    if nat_lt c 0x80 || (nat_le 0xA0 c && nat_lt c 0x100) then Some c
    else option_map (λ i. 0x80 + i) (position (λ w. w == c) windows_characters)

-- a unit of UTF-16, its low byte first or last
abbrev pub low_first : ℕ → List ℕ
low_first u = u % 256 ∷ u / 256 ∷ []

abbrev pub low_last : ℕ → List ℕ
low_last u = u / 256 ∷ u % 256 ∷ []

-- the bytes of a character, where it has some
abbrev pub bytes_of : Encoding → ℕ → Option (List ℕ)
bytes_of Utf8 c = Some (encode_utf8 c)
bytes_of Utf16Le c = Some (flat_map low_first (encode_utf16 c))
bytes_of Utf16Be c = Some (flat_map low_last (encode_utf16 c))
bytes_of Latin1 c = if nat_lt c 256 then Some (c ∷ []) else None
bytes_of Windows1252 c = option_map (λ b. b ∷ []) (windows_byte c)

-- the bytes of a text, where all of its characters have some
abbrev pub encoded : Encoding → List ℕ → Option (List ℕ)
encoded encoding [] = Some []
encoded encoding (c ∷ cs) =
    option_and_then (λ b. option_map (λ bs. b ++ bs) (encoded encoding cs)) (bytes_of encoding c)

-- the bytes are those of the text
pub record IsDecoded (encoding : Encoding) (bytes text : List ℕ) : Type 0 where
  pub characters : all_scalars text ≡ true
  pub has_bytes : encoded encoding text ≡ Some bytes

-- the bytes are those of no text
abbrev pub IsNoText : Encoding → List ℕ → Type 0
IsNoText encoding bytes = (text : List ℕ) → ¬ (IsDecoded encoding bytes text)

-- no character's bytes stand at the front
abbrev pub BeginsNothing : Encoding → List ℕ → Type 0
BeginsNothing encoding bytes = (c : ℕ) (own more : List ℕ) → IsScalar c → bytes_of encoding c ≡ Some own
    → ¬ (bytes ≡ own ++ more)

-- the bytes are those of a text up to a place where no character begins, which is at this line and column
pub record IsMalformedAt (encoding : Encoding) (bytes : List ℕ) (line column : ℕ) : Type 0 where
  pub front : List ℕ
  pub start : List ℕ
  pub rest : List ℕ
  pub split : bytes ≡ start ++ rest
  pub decoded : IsDecoded encoding start front
  pub some_left : 0 < length rest
  pub stuck : BeginsNothing encoding rest
  pub line_is : line ≡ line_of front
  pub column_is : column ≡ column_of front

-- the text has a character without bytes, the first one at this line and column
pub record IsUnencodableAt (encoding : Encoding) (text : List ℕ) (character line column : ℕ) : Type 0 where
  pub front : List ℕ
  pub start : List ℕ
  pub rest : List ℕ
  pub split : text ≡ front ++ character ∷ rest
  pub front_bytes : encoded encoding front ≡ Some start
  pub no_bytes : bytes_of encoding character ≡ None
  pub line_is : line ≡ line_of front
  pub column_is : column ≡ column_of front

-- what holds of the place of a refusal
abbrev pub IfMalformed : {X : Type 0} → Result X DecodeError → (ℕ → ℕ → Type 0) → Type 0
IfMalformed (Err (Malformed line column)) P = P line column
IfMalformed _ P = ⊤

abbrev pub IfNoBytes : {X : Type 0} → Result X EncodeError → (ℕ → ℕ → ℕ → Type 0) → Type 0
IfNoBytes (Err (NoBytes character line column)) P = P character line column
IfNoBytes _ P = ⊤
