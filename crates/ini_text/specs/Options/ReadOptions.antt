-- The options that are used where none are given.
use Rattle.std.specs.Prelude.{true, false, if◌then◌else◌}
use Rattle.ini_text.specs.Options.Backslashes.{Backslash, Escape, Kept, Raw}
use Rattle.ini_text.specs.declared.option.LoneLine.TheVariants.{RunsOn}
use Rattle.ini_text.specs.declared.option.ParseOption.{ParseOption}

-- quotes and escapes on; all else off; keys run on
abbrev pub default_parse_option : ParseOption
default_parse_option = record {
  enabled_quote = true;
  enabled_escape = true;
  enabled_indented_mutiline_value = false;
  enabled_preserve_key_leading_whitespace = false;
  enabled_brackets_in_section_names = false;
  enabled_raw_backslash = false;
  enabled_indented_comment = false;
  enabled_inline_comment = false;
  line_without_separator = RunsOn;
}

-- the same with escapes off
abbrev pub without_escapes : ParseOption
without_escapes = record default_parse_option { enabled_escape = false }

-- and with a backslash that is a character like any other
abbrev pub with_raw_backslashes : ParseOption
with_raw_backslashes = record without_escapes { enabled_raw_backslash = true }

-- what a backslash is: where escapes are on, raw backslashes change nothing
abbrev pub backslash_of : ParseOption → Backslash
backslash_of o =
    if o.enabled_escape then Escape
    else if o.enabled_raw_backslash then Raw
    else Kept
