use Rattle.std.proofs.Common.{chars, length}
use denote.Text.{Utf8}
use denote.Shadow.{shadow}
use Rattle.ini_edit.proofs.KeyEdgeLemmas.{WhiteSoFar}
use Rattle.ini_edit.proofs.key.white_end.Given as goal

abbrev pub invariant-characters : goal.invariant-characters
invariant-characters l = record {
  white : shadow (Utf8 l.white);
  rest : shadow (Utf8 l.rest);
  so_far : WhiteSoFar l.fn.line (chars l.fn.text) (chars l.white) (chars l.rest);
}

abbrev pub decreases-characters : goal.decreases-characters
decreases-characters l = length (chars l.rest)
