-- What a check that mends makes of a file's bytes.
use Rattle.std.specs.Prelude.{◌≡◌, ℕ, List, ◌++◌, filter, chars, Result, Ok, Err}
use Rattle.std.specs.Str.{IsUtf8}
use Rattle.std.specs.declared.alloc.Global.{Global}
use Rattle.std.specs.declared.vec.Vec.{Vec}
use Rattle.ini_text.specs.Parsing.ByteOrderMarks.{without_byte_order_mark}
use Rattle.ini_text.specs.declared.error.Error.{Error}
use Rattle.ini_text.specs.declared.option.ParseOption.{ParseOption}
use Rattle.ini.specs.Loading.{IsTextWith}
use Rattle.ini.specs.Texts.{Text}
use Rattle.ini_check.specs.Mends.Texts.{IsMended, mended_traps}
use Rattle.ini_check.specs.declared.warning.Trap.{Trap}
use Rattle.ini_file.specs.Bytes.{byte_order_mark_of}
use Rattle.ini_file.specs.CheckWords.{Reporter, reports}
use Rattle.ini_file.specs.Checks.{RefusesCheck}

-- the traps that are mended: those that have a mend and are reported
abbrev pub fixed_traps : Reporter → List Trap
fixed_traps r = filter (reports r) mended_traps

-- after a mark the bytes are those of the text with its traps mended
pub record IsMendedAfter (o : ParseOption) (traps : List Trap) (mark : List ℕ) (T : Text) (bytes : List ℕ)
    : Type 0 where
  pub made : List ℕ
  pub utf8 : IsUtf8 made
  pub is_mended : IsMended o traps T (chars made)
  pub bytes_are : bytes ≡ mark ++ made

-- what comes of a file's bytes: those with the traps mended that are reported, or a refusal as the check's
abbrev pub IsFixed : ParseOption → Reporter → List ℕ → Result (Vec ℕ Global) Error → Type 0
IsFixed o r input (Ok fixed) = IsTextWith
    (λ T. IsMendedAfter o (fixed_traps r) (byte_order_mark_of input) T fixed.items)
    (without_byte_order_mark input)
IsFixed o r input (Err refused) = RefusesCheck o input refused
