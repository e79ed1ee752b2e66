use Rattle.std.proofs.Common.{◌≡◌, length, chars}
use denote.Shadow.{shadow}
use denote.Text.{Utf8}
use Rattle.ini_edit.specs.Endings.{ending, ending_from}
use Rattle.ini_edit.specs.Inside.Lines.{ending_of}
use Rattle.ini_edit.proofs.glue.text_end.Given as goal

abbrev pub invariant-characters : goal.invariant-characters
invariant-characters l =
    (ending_from l.fn.read (ending_of l.end) (chars l.rest) ≡ ending l.fn.read (chars l.fn.text))
    × shadow (Utf8 l.rest)

abbrev pub decreases-characters : goal.decreases-characters
decreases-characters l = length (chars l.rest)
