use Rattle.std.proofs.Common.{◌≡◌, false, length, chars}
use denote.Shadow.{shadow}
use denote.Text.{Utf8}
use Rattle.ini_edit.specs.SourceLines.{after_comments}
use Rattle.ini_edit.proofs.source.lines.after_comments.Given as goal

abbrev pub invariant-lines : goal.invariant-lines
invariant-lines l =
    (after_comments false (chars l.rest) ≡ after_comments false (chars l.fn.text)) × shadow (Utf8 l.rest)

abbrev pub decreases-lines : goal.decreases-lines
decreases-lines l = length (chars l.rest)
