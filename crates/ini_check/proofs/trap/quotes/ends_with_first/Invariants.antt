use Rattle.std.proofs.Common.{◌≡◌, length, chars, false}
use denote.Text.{Utf8}
use denote.Shadow.{shadow}
use Rattle.ini_check.specs.Traps.Quotes.{ends_with_first}
use Rattle.ini_check.proofs.trap.quotes.ends_with_first.Given as goal

abbrev pub decreases-characters : goal.decreases-characters
decreases-characters l = length (chars l.rest)

abbrev pub invariant-characters : goal.invariant-characters
invariant-characters l = record {
  text : shadow (Utf8 l.rest);
  ends : ends_with_first l.fn.read l.fn.mark l.escaped (chars l.rest)
      ≡ ends_with_first l.fn.read l.fn.mark false (chars l.fn.text);
}
