use Rattle.std.proofs.Common.{◌≡◌}
use Rattle.std.specs.List.{list_any}
use Rattle.ini.specs.Properties.{values}
use Rattle.ini_file.specs.OtherValues.{are_several}
use Rattle.ini_file.proofs.other_values.has_repeated.Given as goal

-- those before have one value each
abbrev pub invariant-loop-key : goal.invariant-loop-key
invariant-loop-key l =
    list_any (λ p. are_several (values p.0 l.section)) l.key-iterator
    ≡ list_any (λ p. are_several (values p.0 l.section)) l.section
