use Rattle.std.proofs.Common.{◌≡◌, ◌++◌, flat_map, take}
use Rattle.ini_dialect.specs.Inside.Coding.{unit_in}
use Rattle.ini_dialect.proofs.character.push_units.Given as goal

abbrev pub invariant-loop-unit : goal.invariant-loop-unit
invariant-loop-unit l =
    l.bytes.items ≡ l.fn.bytes.items ++ flat_map (unit_in l.low_first) (take l.unit-index l.unit-items)
