use Rattle.std.proofs.Common.{◌≡◌}
use Rattle.std.specs.List.{list_any}
use Rattle.ini_file.specs.OtherValues.{has_repeated}
use Rattle.ini_file.proofs.other_values.has_repeats.Given as goal

-- those before have none
abbrev pub invariant-loop-section : goal.invariant-loop-section
invariant-loop-section l =
    list_any (λ s. has_repeated s.1) l.section-iterator ≡ list_any (λ s. has_repeated s.1) l.document
