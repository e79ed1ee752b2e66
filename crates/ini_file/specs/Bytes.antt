-- What stands in a file's bytes before its text.
use Rattle.std.specs.Prelude.{ℕ, if◌then◌else◌, List, []}
use Rattle.ini_text.specs.Parsing.ByteOrderMarks.{byte_order_mark, has_byte_order_mark}

-- the byte order mark at the bytes' front, if there is one
abbrev pub byte_order_mark_of : List ℕ → List ℕ
byte_order_mark_of bytes = if has_byte_order_mark bytes then byte_order_mark else []
