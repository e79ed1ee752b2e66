use Rattle.std.proofs.Common.{◌≡◌, length, chars, false}
use denote.Text.{Utf8}
use denote.Shadow.{shadow}
use Rattle.ini_check.specs.Traps.Quotes.{leaves_line}
use Rattle.ini_check.proofs.trap.quotes.leaves_line.Given as goal

abbrev pub decreases-characters : goal.decreases-characters
decreases-characters l = length (chars l.rest)

abbrev pub invariant-characters : goal.invariant-characters
invariant-characters l = record {
  text : shadow (Utf8 l.rest);
  leaves : leaves_line l.fn.read l.fn.mark l.escaped (chars l.rest)
      ≡ leaves_line l.fn.read l.fn.mark false (chars l.fn.text);
}
