use Rattle.std.proofs.Common.{◌≡◌, length, chars, false}
use denote.Text.{Utf8}
use denote.Shadow.{shadow}
use Rattle.ini_check.specs.Traps.Keys.{begins_escape}
use Rattle.ini_check.proofs.trap.keys.begins_escape.Given as goal

abbrev pub decreases-characters : goal.decreases-characters
decreases-characters l = length (chars l.rest)

abbrev pub invariant-characters : goal.invariant-characters
invariant-characters l = record {
  text : shadow (Utf8 l.rest);
  has : begins_escape l.fn.in_name l.escaped (chars l.rest)
      ≡ begins_escape l.fn.in_name false (chars l.fn.source);
}
