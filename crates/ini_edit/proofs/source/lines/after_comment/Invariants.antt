use Rattle.std.proofs.Common.{◌≡◌, length, chars}
use denote.Shadow.{shadow}
use denote.Text.{Utf8}
use Rattle.ini_edit.specs.SourceLines.{after_comment}
use Rattle.ini_edit.proofs.source.lines.after_comment.Given as goal

abbrev pub invariant-characters : goal.invariant-characters
invariant-characters l =
    (after_comment (chars l.rest) ≡ after_comment (chars l.fn.text)) × shadow (Utf8 l.rest)

abbrev pub decreases-characters : goal.decreases-characters
decreases-characters l = length (chars l.rest)
