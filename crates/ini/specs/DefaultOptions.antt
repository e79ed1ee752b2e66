-- The options of writing that are used where none are given, as a value that clauses name.
use Rattle.std.specs.Prelude.{codes}
use Rattle.ini_text.specs.declared.write.policy.EscapePolicy.TheVariants.{Basics}
use Rattle.ini_text.specs.declared.write.option.LineSeparator.TheVariants.{SystemDefault}
use Rattle.ini_text.specs.declared.write.option.WriteOption.{WriteOption}

-- the basic escapes, LF at line ends, and `=` alone between a key and its value. Where the text of that `=`
-- lies, nothing depends on.
abbrev pub default_write_option : WriteOption
default_write_option = record {
  escape_policy = Basics;
  line_separator = SystemDefault;
  kv_separator = record { ref_ptr = (0, 0); now = codes "=" };
}
