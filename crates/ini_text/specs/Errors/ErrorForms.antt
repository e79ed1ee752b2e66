-- What a parse fault prints, and what a refusal is as an error of a device.
use Rattle.std.specs.Prelude.{◌≡◌, ℕ, List, ◌∷◌, ◌++◌}
use Rattle.std.specs.Fmt.{decimal}
use Rattle.std.specs.Cow.{cow_str_bytes}
use Rattle.std.specs.IoError.{error_kind}
use Rattle.std.specs.declared.io.Error as io
use Rattle.std.specs.declared.io.ErrorKind.TheVariants.{InvalidData, OutOfMemory, WriteZero}
use Rattle.ini_text.specs.declared.error.Error.{Error}
use Rattle.ini_text.specs.declared.error.Error.TheVariants as errors
use Rattle.ini_text.specs.declared.error.ParseError.{ParseError}

-- the line, a colon, the column, a space, the message
abbrev pub printed_fault : ParseError → List ℕ
printed_fault e = decimal e.line ++ 0x3A ∷ decimal e.col ++ 0x20 ∷ cow_str_bytes e.msg

-- the same fault, or one of the refusal's kind
abbrev pub IsIoErrorOf : Error → io.Error → Type 0
IsIoErrorOf (errors.Io fault) e = e ≡ fault
IsIoErrorOf (errors.Parse fault) e = error_kind e ≡ InvalidData
IsIoErrorOf (errors.Memory refused) e = error_kind e ≡ OutOfMemory
IsIoErrorOf errors.NotUtf8 e = error_kind e ≡ InvalidData
IsIoErrorOf errors.NoProgress e = error_kind e ≡ WriteZero
