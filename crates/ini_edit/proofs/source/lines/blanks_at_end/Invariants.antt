use Rattle.std.proofs.Common.{◌≡◌, length, chars}
use denote.Shadow.{shadow}
use denote.Text.{Utf8}
use Rattle.ini_edit.specs.SourceLines.{blanks_at_end}
use Rattle.ini_edit.proofs.SourceLineWalkLemmas.{blanks_so_far}
use Rattle.ini_edit.proofs.source.lines.blanks_at_end.Given as goal

abbrev pub invariant-characters : goal.invariant-characters
invariant-characters l = record {
  blanks : shadow (Utf8 l.blanks);
  rest : shadow (Utf8 l.rest);
  so_far : blanks_so_far (chars l.blanks) (chars l.rest) ≡ blanks_at_end (chars l.fn.text);
}

abbrev pub decreases-characters : goal.decreases-characters
decreases-characters l = length (chars l.rest)
