use Rattle.std.proofs.Common.{◌≡◌, length, chars}
use denote.Text.{Utf8}
use denote.Shadow.{shadow}
use Rattle.ini_check.specs.Traps.Values.{has_odd_front}
use Rattle.ini_check.proofs.trap.values.has_odd_front.Given as goal

abbrev pub decreases-characters : goal.decreases-characters
decreases-characters l = length (chars l.rest)

abbrev pub invariant-characters : goal.invariant-characters
invariant-characters l = record {
  text : shadow (Utf8 l.rest);
  odd : has_odd_front (chars l.rest) ≡ has_odd_front (chars l.fn.text);
}
