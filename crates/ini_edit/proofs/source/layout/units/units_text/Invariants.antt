use Rattle.std.proofs.Common.{◌≡◌, take}
use Rattle.ini_text.specs.Parsing.Items.{string_text}
use Rattle.ini_edit.specs.Inside.Sortings.{section_unit_of}
use Rattle.ini_edit.specs.Sorting.{section_unit_text}
use Rattle.ini_edit.specs.Sources.{joined}
use Rattle.ini_edit.proofs.source.layout.units.units_text.Given as goal

abbrev pub invariant-loop-unit : goal.invariant-loop-unit
invariant-loop-unit l =
    string_text l.out ≡ joined (λ u. section_unit_text (section_unit_of u)) (take l.unit-index l.units)
