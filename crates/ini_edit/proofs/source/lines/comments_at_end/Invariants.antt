use Rattle.std.proofs.Common.{◌≡◌, length, chars}
use denote.Shadow.{shadow}
use denote.Text.{Utf8}
use Rattle.ini_edit.specs.SourceLines.{comments_at_end}
use Rattle.ini_edit.proofs.SourceLineWalkLemmas.{comments_so_far}
use Rattle.ini_edit.proofs.source.lines.comments_at_end.Given as goal

abbrev pub invariant-characters : goal.invariant-characters
invariant-characters l = record {
  comments : shadow (Utf8 l.comments);
  rest : shadow (Utf8 l.rest);
  so_far : comments_so_far l.is_column_one l.is_comment (chars l.comments) (chars l.rest)
      ≡ comments_at_end l.fn.before (chars l.fn.text);
}

abbrev pub decreases-characters : goal.decreases-characters
decreases-characters l = length (chars l.rest)
