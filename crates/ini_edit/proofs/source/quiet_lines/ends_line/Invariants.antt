use Rattle.std.proofs.Common.{◌≡◌, length, chars}
use denote.Shadow.{shadow}
use denote.Text.{Utf8}
use Rattle.ini_edit.specs.Inside.Lines.{place_of}
use Rattle.ini_edit.specs.SourceLines.{ends_in_line, is_line_from}
use Rattle.ini_edit.proofs.source.quiet_lines.ends_line.Given as goal

abbrev pub invariant-characters : goal.invariant-characters
invariant-characters l =
    (is_line_from l.fn.read (place_of l.place) (chars l.rest) ≡ ends_in_line l.fn.read (chars l.fn.text))
    × shadow (Utf8 l.rest)

abbrev pub decreases-characters : goal.decreases-characters
decreases-characters l = length (chars l.rest)
