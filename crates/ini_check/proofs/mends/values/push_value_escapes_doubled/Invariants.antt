use Rattle.std.proofs.Common.{◌≡◌, ◌++◌, length, chars}
use denote.Text.{Utf8}
use denote.Shadow.{shadow}
use Rattle.ini_text.specs.Parsing.Items.{string_text}
use Rattle.ini_check.specs.Mends.Characters.{with_value_escapes_doubled}
use Rattle.ini_check.specs.declared.lexical.LexicalState.TheVariants.{Front}
use Rattle.ini_check.proofs.mends.values.push_value_escapes_doubled.Given as goal

abbrev pub decreases-characters : goal.decreases-characters
decreases-characters l = length (chars l.rest)

abbrev pub invariant-characters : goal.invariant-characters
invariant-characters l = record {
  text : shadow (Utf8 l.rest);
  made : string_text l.out ++ with_value_escapes_doubled l.read l.state (chars l.rest)
      ≡ string_text l.fn.out ++ with_value_escapes_doubled l.read Front (chars l.value);
}
