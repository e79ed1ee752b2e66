use Rattle.std.proofs.Common.{◌≡◌, length, chars}
use denote.Shadow.{shadow}
use denote.Text.{Utf8}
use Rattle.ini_edit.specs.SourceLines.{after_blank_lines}
use Rattle.ini_edit.proofs.source.lines.split_blank_lines.Given as goal

abbrev pub invariant-characters : goal.invariant-characters
invariant-characters l =
    (after_blank_lines (chars l.rest) ≡ after_blank_lines (chars l.fn.text)) × shadow (Utf8 l.rest)

abbrev pub decreases-characters : goal.decreases-characters
decreases-characters l = length (chars l.rest)
