use Rattle.std.proofs.Common.{◌≡◌, ◌+◌, length, chars}
use denote.Shadow.{shadow}
use denote.Text.{Utf8}
use Rattle.ini_edit.proofs.source.layout.columns.width.Given as goal

abbrev pub invariant-characters : goal.invariant-characters
invariant-characters l = record {
  rest : shadow (Utf8 l.rest);
  so_far : l.count + length (chars l.rest) ≡ length (chars l.fn.text);
}

abbrev pub decreases-characters : goal.decreases-characters
decreases-characters l = length (chars l.rest)
