use Rattle.std.proofs.Common.{◌≡◌, chars, length}
use denote.Shadow.{shadow}
use denote.Text.{Utf8}
use Rattle.ini_edit.specs.Inside.SourceElementWalks.{passed}
use Rattle.ini_edit.proofs.source.elements.Position.after.Given as goal

abbrev pub invariant-characters : goal.invariant-characters
invariant-characters l =
    (passed l.position (chars l.rest) ≡ passed l.fn.self (chars l.fn.text)) × shadow (Utf8 l.rest)

abbrev pub decreases-characters : goal.decreases-characters
decreases-characters l = length (chars l.rest)
