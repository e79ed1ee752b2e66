use Rattle.std.proofs.Common.{◌≡◌, length, chars}
use denote.Text.{Utf8}
use denote.Shadow.{shadow}
use Rattle.ini_check.specs.Traps.LostLines.{has_later_bare_line}
use Rattle.ini_check.proofs.trap.lost_lines.has_later_bare_line.Given as goal

abbrev pub decreases-characters : goal.decreases-characters
decreases-characters l = length (chars l.rest)

abbrev pub invariant-characters : goal.invariant-characters
invariant-characters l = record {
  text : shadow (Utf8 l.rest);
  has : has_later_bare_line (chars l.rest) ≡ has_later_bare_line (chars l.fn.text);
}
