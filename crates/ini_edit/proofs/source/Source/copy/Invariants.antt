use Rattle.std.proofs.Common.{◌≡◌, take}
use Rattle.ini_edit.proofs.source.Source.copy.Given as goal

abbrev pub invariant-loop-section : goal.invariant-loop-section
invariant-loop-section l = l.sections.items ≡ take l.section-index l.section-items
