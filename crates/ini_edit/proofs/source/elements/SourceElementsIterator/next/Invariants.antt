use Rattle.std.proofs.Common.{◌≡◌, filter, length}
use Rattle.ini_edit.specs.Inside.SourceElementWalks.{elements_left}
use Rattle.ini_edit.specs.SourceElements.{has_characters}
use Rattle.ini_edit.proofs.source.elements.SourceElementsIterator.next.Given as goal

-- only elements without any character were passed over
abbrev pub invariant-elements : goal.invariant-elements
invariant-elements l = filter has_characters (elements_left l.self-inside.walk) ≡ l.fn.self

abbrev pub decreases-elements : goal.decreases-elements
decreases-elements l = length (elements_left l.self-inside.walk)
