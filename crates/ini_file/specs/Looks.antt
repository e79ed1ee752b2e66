-- Where bytes are no UTF-8, and what they look like.
use Rattle.std.specs.Prelude.{◌==◌, ◌&&◌, ◌||◌, not, nat_le, nat_lt, if◌then◌else◌, ℕ, Bool, List, codes}
use Rattle.std.specs.List.{list_any}
use Rattle.ini_text.specs.Parsing.ByteOrderMarks.{has_byte_order_mark}
use Rattle.ini_file.specs.declared.looks.Look.{Look}
use Rattle.ini_file.specs.declared.looks.Look.TheVariants.{Marked, Utf16, Latin1, Windows1252, Unknown}

abbrev pub look_words : Look → List ℕ
look_words Marked = codes "this byte is no UTF-8, of which the file has the byte order mark"
look_words Utf16 =
    codes "this byte is no UTF-8; the file looks like UTF-16: use --encoding utf-16le or utf-16be"
look_words Latin1 = codes "this byte is no UTF-8; the file looks like Latin-1: use --encoding latin1"
look_words Windows1252 =
    codes "this byte is no UTF-8; the file looks like Windows-1252: use --encoding windows1252"
look_words Unknown = codes "this byte is no UTF-8; --encoding names another encoding"

-- UTF-16 has NUL in each character of ASCII
abbrev pub is_nul : ℕ → Bool
is_nul byte = byte == 0

-- a byte that is a control character in ASCII, other than TAB, LF and CR
abbrev pub is_low_control : ℕ → Bool
is_low_control byte =
    nat_lt byte 0x20 && not (byte == 0x09 || byte == 0x0A || byte == 0x0D) || byte == 0x7F

-- one that is a control character in Latin-1; those from 0x80 on are others in Windows-1252
abbrev pub is_control : ℕ → Bool
is_control byte = is_low_control byte || nat_le 0x80 byte && nat_lt byte 0xA0

abbrev pub look_of : List ℕ → Look
look_of bytes =
    if has_byte_order_mark bytes then Marked
    else if list_any is_nul bytes then Utf16
    else if not (list_any is_control bytes) then Latin1
    else if not (list_any is_low_control bytes) then Windows1252
    else Unknown
