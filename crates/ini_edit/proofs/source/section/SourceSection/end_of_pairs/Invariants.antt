use Rattle.std.proofs.Common.{◌≡◌, take}
use Rattle.ini_edit.specs.Inside.SourceElementWalks.{passed}
use Rattle.ini_edit.specs.SourcePlaces.{text_up_to}
use Rattle.ini_edit.proofs.source.section.SourceSection.end_of_pairs.Given as goal

abbrev pub invariant-loop-pair : goal.invariant-loop-pair
invariant-loop-pair l =
    l.position ≡ passed l.fn.position (text_up_to l.self (take l.pair-index l.pair-items))
