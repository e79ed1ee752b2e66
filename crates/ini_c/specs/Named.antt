-- Options that a dialect's name stands for, as C gets them.
use Rattle.std.specs.Prelude.{◌≡◌, ◌&&◌, ◌||◌, if◌then◌else◌, nat_le, ℕ, Bool, false, IsTrue, List, Some}
use Rattle.std.specs.Str.{bytes_eq}
use Rattle.ini_text.specs.Options.WriteOptions.{line_end}
use Rattle.ini_dialect.specs.Dialects.{Preset}
use Rattle.ini_text.specs.declared.option.LoneLine.TheVariants.{RunsOn}
use Rattle.ini_text.specs.declared.option.ParseOption.{ParseOption}
use Rattle.ini_c.specs.Choices.{line_end_if, options_there, parse_option, policy_of, separator_of}
use Rattle.ini_c.specs.declared.options.ReadChoice.{ReadChoice}
use Rattle.ini_c.specs.declared.options.Reading.{Reading}
use Rattle.ini_c.specs.declared.options.WriteChoice.{WriteChoice}

-- C has a number for what stands between a key and its value
abbrev pub has_number : List ℕ → Bool
has_number separator =
    bytes_eq separator (separator_of 0) || (bytes_eq separator (separator_of 1)
    || (bytes_eq separator (separator_of 2) || bytes_eq separator (separator_of 3)))

abbrev pub HasNumber : Preset → Type 0
HasNumber p = IsTrue (has_number p.kv_separator)

-- the options without those that came after the first five
abbrev pub first_five : ParseOption → ParseOption
first_five o = record o {
  enabled_raw_backslash = false;
  enabled_indented_comment = false;
  enabled_inline_comment = false;
  line_without_separator = RunsOn;
}

-- the options without those that a struct of so many bytes doesn't reach
abbrev pub reached : ℕ → ParseOption → ParseOption
reached size o = record o {
  enabled_indented_comment = nat_le 9 size && o.enabled_indented_comment;
  enabled_inline_comment = nat_le 10 size && o.enabled_inline_comment;
  line_without_separator = if nat_le 8 size then o.line_without_separator else RunsOn;
}

-- the struct has the options, as far as it reaches
abbrev pub HasOptions : Reading → ParseOption → Type 0
HasOptions r o = options_there r ≡ Some (reached r.size o)

-- so C is told how lines are written
pub record TellsWriting (write : WriteChoice) (p : Preset) : Type 0 where
  pub policy : policy_of write.policy ≡ p.escape_policy
  pub ends : line_end (line_end_if write.crlf) ≡ line_end p.line_separator
  pub separator : separator_of write.separator ≡ p.kv_separator

-- so a program is told that knows of five options
pub record TellsPreset (read : ReadChoice) (write : WriteChoice) (p : Preset) : Type 0 where
  pub read_as : parse_option read ≡ first_five p.read
  pub written_as : TellsWriting write p

-- and so one that knows of as many as its struct has
pub record TellsReading (reading : Reading) (write : WriteChoice) (p : Preset) : Type 0 where
  pub read_as : HasOptions reading p.read
  pub written_as : TellsWriting write p
