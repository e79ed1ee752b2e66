use Rattle.std.proofs.Common.{◌≡◌, length, chars}
use denote.Text.{Utf8}
use denote.Shadow.{shadow}
use Rattle.ini_check.specs.Inside.Positions.{HasRoom}
use Rattle.ini_check.specs.Traps.Values.{space_of, value_of}
use Rattle.ini_check.proofs.PositionLemmas.{Over}
use Rattle.ini_check.proofs.position.Position.over_space.Given as goal

abbrev pub decreases-characters : goal.decreases-characters
decreases-characters l = length (chars l.rest)

abbrev pub invariant-characters : goal.invariant-characters
invariant-characters l = record {
  text : shadow (Utf8 l.rest);
  room : HasRoom (length (chars l.rest)) l.position;
  value : value_of (chars l.rest) ≡ value_of (chars l.fn.text);
  over : Over l.fn.self l.position (space_of (chars l.fn.text)) (space_of (chars l.rest));
}
