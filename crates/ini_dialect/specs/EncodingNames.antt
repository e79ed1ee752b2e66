-- What each encoding is called, and which one a byte order mark tells.
use Rattle.std.specs.Prelude.{ℕ, List, [], ◌∷◌, codes, if◌then◌else◌, nat_eq, Option, None, Some, unwrap_or}
use Rattle.std.specs.List.{starts_with}
use Rattle.std.specs.Map.{lookup}
use Rattle.std.specs.Str.{bytes_eq}
use Rattle.ini_dialect.specs.Encodings.{bytes_of}
use Rattle.ini_dialect.specs.declared.encoding.Encoding.{Encoding}
use Rattle.ini_dialect.specs.declared.encoding.Encoding.TheVariants.{Latin1, Utf16Be, Utf16Le, Utf8}
use Rattle.ini_dialect.specs.declared.encoding.Encoding.TheVariants.{Windows1252}

abbrev pub name_of : Encoding → List ℕ
name_of Utf8 = codes "utf-8"
name_of Utf16Le = codes "utf-16le"
name_of Utf16Be = codes "utf-16be"
name_of Latin1 = codes "latin1"
name_of Windows1252 = codes "windows1252"

-- the names, and what each stands for
abbrev pub encodings : List (List ℕ × Encoding)
encodings =
    (name_of Utf8, Utf8) ∷ (name_of Utf16Le, Utf16Le) ∷ (name_of Utf16Be, Utf16Be)
    ∷ (name_of Latin1, Latin1) ∷ (name_of Windows1252, Windows1252) ∷ []

-- what a name stands for
abbrev pub encoding_of : List ℕ → Option Encoding
encoding_of name = lookup (bytes_eq name) encodings

-- the byte order mark: the bytes of U+FEFF, and none where it has none
abbrev pub mark_of : Encoding → List ℕ
mark_of encoding = unwrap_or (bytes_of encoding 0xFEFF) []

-- the encoding whose mark is at the front of bytes
abbrev pub marked : List ℕ → Option Encoding
marked bytes =
    if starts_with nat_eq bytes (mark_of Utf8) then Some Utf8
    else if starts_with nat_eq bytes (mark_of Utf16Le) then Some Utf16Le
    else if starts_with nat_eq bytes (mark_of Utf16Be) then Some Utf16Be
    else None
