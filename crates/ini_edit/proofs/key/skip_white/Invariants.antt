use Rattle.std.proofs.Common.{chars, length}
use denote.Text.{Utf8}
use denote.Shadow.{shadow}
use Rattle.ini_edit.specs.Inside.KeyEdges.{BeginsWhite}
use Rattle.ini_edit.proofs.key.skip_white.Given as goal

abbrev pub invariant-characters : goal.invariant-characters
invariant-characters l = record {
  text : shadow (Utf8 l.rest);
  begins : BeginsWhite (chars l.fn.text) (chars l.rest);
}

abbrev pub decreases-characters : goal.decreases-characters
decreases-characters l = length (chars l.rest)
