-- What a check of a file writes, and its exit status.
use Rattle.std.specs.Prelude.{◌≡◌, ℕ, if◌then◌else◌, List, [], flat_map, map, ⊤}
use Rattle.std.specs.Prelude.{Result, Ok, Err, vec_len, ◌==◌}
use Rattle.std.specs.Str.{IsUtf8}
use Rattle.std.specs.declared.alloc.Global.{Global}
use Rattle.std.specs.declared.vec.Vec.{Vec}
use Rattle.ini_text.specs.Parsing.ByteOrderMarks.{without_byte_order_mark}
use Rattle.ini_text.specs.declared.error.Error.{Error}
use Rattle.ini_text.specs.declared.error.Error.TheVariants.{Memory, NotUtf8, Parse}
use Rattle.ini_text.specs.declared.option.ParseOption.{ParseOption}
use Rattle.ini.specs.Loading.{IsStopOf, IsTextWith}
use Rattle.ini.specs.Texts.{Text}
use Rattle.ini_check.specs.Warnings.{AreWarningsOf}
use Rattle.ini_check.specs.declared.warning.Warning.{Warning}
use Rattle.ini_edit.specs.declared.error.EditError.TheVariants as refusal
use Rattle.ini_words.specs.Words.{Word}
use Rattle.ini_file.specs.CheckWords.{Reporter, reports}
use Rattle.ini_file.specs.Reports.{reported}
use Rattle.ini_file.specs.Runs.{status_of}
use Rattle.ini_file.specs.declared.report_format.Format.{Format}
use Rattle.ini_file.specs.declared.run.Outcome.TheVariants.{Refused}

-- what is written of a warning of the file, if its trap is reported
abbrev pub report : Format → Reporter → Word → Warning → List ℕ
report format r file w = if reports r w.trap then reported format file w else []

-- what is written of the warnings of a text that are reported
pub record AreReports (o : ParseOption) (format : Format) (r : Reporter) (file : Word) (T : Text)
    (written : List ℕ) : Type 0 where
  pub warnings : List Warning
  pub are_warnings : AreWarningsOf o T warnings
  pub are_reports : written ≡ flat_map (report format r file) warnings

-- what the check of a file with these bytes is refused with
abbrev pub RefusesCheck : ParseOption → List ℕ → Error → Type 0
RefusesCheck o input NotUtf8 = ¬ (IsUtf8 (without_byte_order_mark input))
RefusesCheck o input (Parse e) = IsTextWith (λ T. IsStopOf o T e) (without_byte_order_mark input)
RefusesCheck o input (Memory _) = ⊤
RefusesCheck o input _ = ⊥

-- how it ends: with the reports of its warnings, or with its first refusal
abbrev pub IsChecked : ParseOption → Format → Reporter → Word → List ℕ → Result (Vec ℕ Global) Error → Type 0
IsChecked o format r file input (Ok written) =
    IsTextWith (λ T. AreReports o format r file T written.items) (without_byte_order_mark input)
IsChecked o format r file input (Err refused) = RefusesCheck o input refused

-- the exit status of a check of one file: 1 where something is reported, and a refusal's is every command's
abbrev pub check_status : Result (Vec ℕ Global) Error → ℕ
check_status (Ok reports) = if vec_len reports == 0 then 0 else 1
check_status (Err refused) = status_of (Refused (refusal.Text refused))
