use Rattle.std.proofs.Common.{◌≡◌, ◌++◌, chars, length}
use denote.Shadow.{shadow}
use denote.Text.{Utf8}
use Rattle.ini.specs.Properties.{texts_of}
use Rattle.ini.specs.Texts.{text_of}
use Rattle.ini_dialect.specs.Lists.{list_values, values_from}
use Rattle.ini_dialect.proofs.lists.list_values.Given as goal

abbrev pub decreases-characters : goal.decreases-characters
decreases-characters l = length l.rest

-- with what is left it is the whole
abbrev pub invariant-characters : goal.invariant-characters
invariant-characters l = record {
  text : shadow (Utf8 l.rest);
  whole : texts_of l.values.items ++ values_from (text_of l.value) l.is_after_backslash (chars l.rest)
      ≡ list_values (chars l.list);
}
