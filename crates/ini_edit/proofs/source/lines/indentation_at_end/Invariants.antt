use Rattle.std.proofs.Common.{◌≡◌, ◌&&◌, false, length, chars}
use denote.Shadow.{shadow}
use denote.Text.{Utf8}
use Rattle.ini_edit.specs.SourceLines.{indentation_at_end}
use Rattle.ini_edit.proofs.SourceLineWalkLemmas.{indentation_so_far}
use Rattle.ini_edit.proofs.source.lines.indentation_at_end.Given as goal

abbrev pub invariant-characters : goal.invariant-characters
invariant-characters l = record {
  blanks : shadow (Utf8 l.blanks);
  rest : shadow (Utf8 l.rest);
  apart : (l.is_indentation && l.is_line_start) ≡ false;
  so_far : indentation_so_far l.is_line_start l.is_indentation (chars l.blanks) (chars l.rest)
      ≡ indentation_at_end l.fn.before (chars l.fn.text);
}

abbrev pub decreases-characters : goal.decreases-characters
decreases-characters l = length (chars l.rest)
