use Rattle.std.proofs.Common.{◌≡◌, length, chars, false}
use denote.Text.{Utf8}
use denote.Shadow.{shadow}
use Rattle.ini_check.specs.Traps.Keys.{has_equals}
use Rattle.ini_check.proofs.trap.keys.has_equals.Given as goal

abbrev pub decreases-characters : goal.decreases-characters
decreases-characters l = length (chars l.rest)

abbrev pub invariant-characters : goal.invariant-characters
invariant-characters l = record {
  text : shadow (Utf8 l.rest);
  has : has_equals l.fn.read l.fn.anywhere l.white (chars l.rest)
      ≡ has_equals l.fn.read l.fn.anywhere false (chars l.fn.text);
}
