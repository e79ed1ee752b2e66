use Rattle.std.proofs.Common.{◌≡◌, length, chars}
use denote.Text.{Utf8}
use denote.Shadow.{shadow}
use Rattle.ini_check.specs.Traps.Keys.{begins_value_escape}
use Rattle.ini_check.specs.declared.lexical.LexicalState.TheVariants.{Front}
use Rattle.ini_check.proofs.trap.keys.begins_value_escape.Given as goal

abbrev pub decreases-characters : goal.decreases-characters
decreases-characters l = length (chars l.rest)

abbrev pub invariant-characters : goal.invariant-characters
invariant-characters l = record {
  text : shadow (Utf8 l.rest);
  has : begins_value_escape l.fn.read l.state (chars l.rest)
      ≡ begins_value_escape l.fn.read Front (chars l.fn.value);
}
