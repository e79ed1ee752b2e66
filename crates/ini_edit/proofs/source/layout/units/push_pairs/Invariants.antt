use Rattle.std.proofs.Common.{◌≡◌, ◌++◌, take}
use Rattle.ini_text.specs.Parsing.Items.{string_text}
use Rattle.ini_edit.specs.Inside.Sortings.{pair_unit_of}
use Rattle.ini_edit.specs.Sorting.{pair_unit_text}
use Rattle.ini_edit.specs.Sources.{joined}
use Rattle.ini_edit.proofs.source.layout.units.push_pairs.Given as goal

abbrev pub invariant-loop-unit : goal.invariant-loop-unit
invariant-loop-unit l =
    string_text l.out
    ≡ string_text l.initial.out ++ joined (λ u. pair_unit_text (pair_unit_of u)) (take l.unit-index l.units)
