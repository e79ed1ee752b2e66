-- How files are read, looked up in and written, where a command is over several.
use Rattle.ini_dialect.specs.declared.rule.Lookup.{Lookup}
use Rattle.ini_layers.specs.declared.change.SettingValue.{SettingValue}
use Rattle.ini_words.specs.Words.{Word}
use Rattle.ini_words.specs.declared.options.Options.{Options}
use Rattle.ini_file.specs.Choices.{setting_value}
use Rattle.ini_file.specs.Fronts.{Called, call_separator}
use Rattle.ini_file.specs.declared.ruled.Ruled.{Ruled}

pub record RuledBy : Type 0 where
  pub options : Options
  pub rule : Lookup
  pub which : SettingValue
  pub separator : Word

abbrev pub ruled_of : Ruled → RuledBy
ruled_of r = record { options = r.options; rule = r.rule; which = r.which; separator = r.separator.now }

-- as a command is called
abbrev pub ruled_call : Called → RuledBy
ruled_call c = record {
  options = c.options;
  rule = c.dialect.lookup;
  which = setting_value c.choices.switches;
  separator = call_separator c;
}
