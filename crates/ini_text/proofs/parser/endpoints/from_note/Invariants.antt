use Rattle.std.proofs.Common.{◌≡◌, chars, length}
use denote.Text.{Utf8}
use denote.Shadow.{shadow}
use Rattle.ini_text.specs.Inside.Scans.{from_note}
use Rattle.ini_text.proofs.parser.endpoints.from_note.Given as goal

abbrev pub decreases-marks : goal.decreases-marks
decreases-marks l = length (chars l.rest)

abbrev pub invariant-marks : goal.invariant-marks
invariant-marks l = record {
  text : shadow (Utf8 l.rest);
  same : from_note (chars l.fn.text) ≡ from_note (chars l.rest);
}
