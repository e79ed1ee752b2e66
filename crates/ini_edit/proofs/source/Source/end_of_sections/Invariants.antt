use Rattle.std.proofs.Common.{◌≡◌, take}
use Rattle.ini_edit.specs.SourceElements.{position_of}
use Rattle.ini_edit.specs.Sources.{sections_text}
use Rattle.ini_edit.proofs.source.Source.end_of_sections.Given as goal

abbrev pub invariant-loop-section : goal.invariant-loop-section
invariant-loop-section l = l.position ≡ position_of (sections_text (take l.section-index l.section-items))
