use Rattle.std.proofs.Common.{◌≡◌, length, chars}
use denote.Shadow.{shadow}
use denote.Text.{Utf8}
use Rattle.ini_edit.specs.Inside.Lines.{place_of}
use Rattle.ini_edit.specs.SourceLines.{quiet_lines_at_end}
use Rattle.ini_edit.proofs.SourceLineWalkLemmas.{quiet_so_far}
use Rattle.ini_edit.proofs.source.quiet_lines.quiet_lines_at_end.Given as goal

abbrev pub invariant-characters : goal.invariant-characters
invariant-characters l = record {
  lines : shadow (Utf8 l.lines);
  rest : shadow (Utf8 l.rest);
  so_far : quiet_so_far l.fn.read (place_of l.place) l.is_quiet (chars l.lines) (chars l.rest)
      ≡ quiet_lines_at_end l.fn.read (chars l.fn.text);
}

abbrev pub decreases-characters : goal.decreases-characters
decreases-characters l = length (chars l.rest)
