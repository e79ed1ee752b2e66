-- The byte order mark, which may stand before a text: as bytes, and as a character.
use Rattle.std.specs.Prelude.{ℕ, Bool, ◌==◌, if◌then◌else◌, nat_eq, List, [], ◌∷◌, drop, length}
use Rattle.std.specs.List.{starts_with}

-- the byte order mark: the bytes EF BB BF
abbrev pub byte_order_mark : List ℕ
byte_order_mark = 0xEF ∷ 0xBB ∷ 0xBF ∷ []

-- a byte order mark is at the bytes' front
abbrev pub has_byte_order_mark : List ℕ → Bool
has_byte_order_mark bytes = starts_with nat_eq bytes byte_order_mark

-- the bytes without one mark at their front
abbrev pub without_byte_order_mark : List ℕ → List ℕ
without_byte_order_mark bytes =
    if has_byte_order_mark bytes then drop (length byte_order_mark) bytes else bytes

-- the bytes that are read as a text
abbrev pub text_bytes : Bool → List ℕ → List ℕ
text_bytes drop_mark bytes = if drop_mark then without_byte_order_mark bytes else bytes

-- the same of a text: a mark is the character U+FEFF
abbrev pub unmarked : List ℕ → List ℕ
unmarked [] = []
unmarked (c ∷ T) = if c == 0xFEFF then T else c ∷ T
