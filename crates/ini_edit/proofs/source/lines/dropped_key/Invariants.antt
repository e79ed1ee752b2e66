use Rattle.std.proofs.Common.{◌≡◌, length, chars}
use denote.Shadow.{shadow}
use denote.Text.{Utf8}
use Rattle.ini_edit.specs.Inside.CommentStates.{comment_state_of}
use Rattle.ini_edit.specs.SourceLines.{dropped_key, dropped_key_from}
use Rattle.ini_edit.proofs.source.lines.dropped_key.Given as goal

abbrev pub invariant-characters : goal.invariant-characters
invariant-characters l =
    (dropped_key_from l.fn.read (comment_state_of l.state) l.last (chars l.rest)
    ≡ dropped_key l.fn.read l.fn.before (chars l.fn.text))
    × shadow (Utf8 l.rest)

abbrev pub decreases-characters : goal.decreases-characters
decreases-characters l = length (chars l.rest)
