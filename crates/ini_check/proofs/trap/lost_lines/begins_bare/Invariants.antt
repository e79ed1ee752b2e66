use Rattle.std.proofs.Common.{◌≡◌, length, chars}
use denote.Text.{Utf8}
use denote.Shadow.{shadow}
use Rattle.ini_check.specs.Traps.LostLines.{begins_bare}
use Rattle.ini_check.proofs.trap.lost_lines.begins_bare.Given as goal

abbrev pub decreases-blanks : goal.decreases-blanks
decreases-blanks l = length (chars l.rest)

abbrev pub invariant-blanks : goal.invariant-blanks
invariant-blanks l = record {
  text : shadow (Utf8 l.rest);
  begins : begins_bare (chars l.rest) ≡ begins_bare (chars l.fn.text);
}
