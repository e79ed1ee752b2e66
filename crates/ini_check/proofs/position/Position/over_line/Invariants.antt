use Rattle.std.proofs.Common.{length, chars}
use denote.Text.{Utf8}
use denote.Shadow.{shadow}
use Rattle.ini_check.specs.Inside.Positions.{HasRoom}
use Rattle.ini_check.specs.Traps.Values.{first_line}
use Rattle.ini_check.proofs.PositionLemmas.{Over}
use Rattle.ini_check.proofs.position.Position.over_line.Given as goal

abbrev pub decreases-characters : goal.decreases-characters
decreases-characters l = length (chars l.rest)

abbrev pub invariant-characters : goal.invariant-characters
invariant-characters l = record {
  text : shadow (Utf8 l.rest);
  room : HasRoom (length (chars l.rest)) l.position;
  over : Over l.fn.self l.position (first_line (chars l.fn.text)) (first_line (chars l.rest));
}
