use Rattle.std.proofs.Common.{◌≡◌, length, chars, true}
use denote.Shadow.{shadow}
use denote.Text.{Utf8}
use Rattle.ini_edit.specs.SourceLines.{has_lone_return}
use Rattle.ini_edit.proofs.source.lines.has_lone_return.Given as goal

abbrev pub invariant-characters : goal.invariant-characters
invariant-characters l =
    (has_lone_return l.is_line_start (chars l.rest) ≡ has_lone_return true (chars l.fn.lines))
    × shadow (Utf8 l.rest)

abbrev pub decreases-characters : goal.decreases-characters
decreases-characters l = length (chars l.rest)
