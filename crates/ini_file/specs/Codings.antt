-- How the bytes of a file are those of its text.
use Rattle.std.specs.Prelude.{◌≡◌, ◌-◌, ◌&&◌, ◌==◌, ℕ, Bool, true, false, if◌then◌else◌, List, [], ◌++◌}
use Rattle.std.specs.Prelude.{chars, Option, None, Some, Ok, Err, Result, ⊤, String, string_bytes, unwrap_or}
use Rattle.std.specs.declared.alloc.Global.{Global}
use Rattle.std.specs.declared.vec.Vec.{Vec}
use Rattle.ini_text.specs.Parsing.ByteOrderMarks.{unmarked}
use Rattle.ini_text.specs.declared.error.Error.TheVariants.{Memory}
use Rattle.ini_dialect.specs.EncodingNames.{mark_of, marked}
use Rattle.ini_dialect.specs.Encodings.{IsDecoded, IsMalformedAt, IsNoText, IsUnencodableAt, encoded}
use Rattle.ini_dialect.specs.declared.encoding.Encoding.{Encoding}
use Rattle.ini_dialect.specs.declared.encoding.Encoding.TheVariants.{Utf8}
use Rattle.ini_file.specs.declared.coding.Coding.{Coding}
use Rattle.ini_file.specs.declared.coding.CodingError.TheVariants.{Malformed, NoBytes}
use Rattle.ini_file.specs.declared.coding.FileError.{FileError}
use Rattle.ini_file.specs.declared.coding.FileError.TheVariants as refusal

-- a byte order mark at the front tells the encoding; without one the named one is meant, without that UTF-8
abbrev pub coding_by : Option Encoding → Option Encoding → Coding
coding_by (Some encoding) named = record { encoding = encoding; has_mark = true }
coding_by None named = record { encoding = unwrap_or named Utf8; has_mark = false }

abbrev pub coding_of : List ℕ → Option Encoding → Coding
coding_of bytes named = coding_by (marked bytes) named

-- what is read of the bytes; none in UTF-8, where they stand for themselves
abbrev pub IsRead : Coding → List ℕ → Option (String Global) → Type 0
IsRead coding bytes None = coding.encoding ≡ Utf8
IsRead coding bytes (Some text) = IsDecoded coding.encoding bytes (chars (string_bytes text))

-- the column of a place where a byte order mark is no character of its line
abbrev pub shown : Coding → ℕ → ℕ → ℕ
shown coding line column = if coding.has_mark && line == 1 then column - 1 else column

-- why bytes aren't read
pub record IsMalformedAfterMark (coding : Coding) (bytes : List ℕ) (line column : ℕ) : Type 0 where
  pub place : ℕ
  pub malformed : IsMalformedAt coding.encoding bytes line place
  pub no_text : IsNoText coding.encoding bytes
  pub column_is : column ≡ shown coding line place

abbrev pub IsUnread : Coding → List ℕ → FileError → Type 0
IsUnread coding bytes (refusal.Coding (Malformed encoding line column)) =
    (encoding ≡ coding.encoding) × IsMalformedAfterMark coding bytes line column
IsUnread coding bytes (refusal.Text (Memory _)) = ⊤
IsUnread coding bytes _ = ⊥

-- the text that stands after the byte order mark
abbrev pub text_after_mark : Coding → List ℕ → List ℕ
text_after_mark coding text = if coding.has_mark then unmarked text else text

-- the byte order mark before it
abbrev pub mark_before : Coding → List ℕ
mark_before coding = if coding.has_mark then mark_of coding.encoding else []

-- the bytes are the mark and those of the text after it
pub record IsMarkAndText (coding : Coding) (text bytes : List ℕ) : Type 0 where
  pub own : List ℕ
  pub encoded_is : encoded coding.encoding (text_after_mark coding text) ≡ Some own
  pub bytes_are : bytes ≡ mark_before coding ++ own

-- what is written of a text; none in UTF-8, where it stands for itself
abbrev pub IsWritten : Coding → List ℕ → Option (Vec ℕ Global) → Type 0
IsWritten coding text None = coding.encoding ≡ Utf8
IsWritten coding text (Some bytes) = IsMarkAndText coding text bytes.items

-- why a text isn't written
abbrev pub IsUnwritten : Coding → List ℕ → FileError → Type 0
IsUnwritten coding text (refusal.Coding (NoBytes encoding character line column)) =
    (encoding ≡ coding.encoding)
    × IsUnencodableAt coding.encoding (text_after_mark coding text) character line column
IsUnwritten coding text (refusal.Text (Memory _)) = ⊤
IsUnwritten coding text _ = ⊥

-- what was read of the bytes is written as the very bytes
abbrev pub WritesBack : List ℕ → Result (Option (Vec ℕ Global)) FileError → Type 0
WritesBack bytes (Ok None) = ⊤
WritesBack bytes (Ok (Some written)) = written.items ≡ bytes
WritesBack bytes (Err (refusal.Coding _)) = ⊥
WritesBack bytes (Err (refusal.Text _)) = ⊤
