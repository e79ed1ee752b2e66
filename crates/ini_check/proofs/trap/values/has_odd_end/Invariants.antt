use Rattle.std.proofs.Common.{◌≡◌, length, chars, false}
use denote.Text.{Utf8}
use denote.Shadow.{shadow}
use Rattle.ini_check.specs.Traps.Values.{has_odd_end}
use Rattle.ini_check.specs.declared.lexical.LexicalState.TheVariants.{Front}
use Rattle.ini_check.proofs.trap.values.has_odd_end.Given as goal

abbrev pub decreases-characters : goal.decreases-characters
decreases-characters l = length (chars l.rest)

abbrev pub invariant-characters : goal.invariant-characters
invariant-characters l = record {
  text : shadow (Utf8 l.rest);
  has : has_odd_end l.fn.read l.state l.odd (chars l.rest)
      ≡ has_odd_end l.fn.read Front false (chars l.fn.value);
}
