use Rattle.std.proofs.Common.{◌≡◌, take}
use Rattle.ini_text.specs.Parsing.Items.{string_text}
use Rattle.ini_edit.specs.Sources.{sections_text}
use Rattle.ini_edit.proofs.source.Source.to_text.Given as goal

abbrev pub invariant-loop-section : goal.invariant-loop-section
invariant-loop-section l = string_text l.out ≡ sections_text (take l.section-index l.section-items)
