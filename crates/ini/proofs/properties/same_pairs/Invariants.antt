use Rattle.std.proofs.Common.{◌≡◌}
use Rattle.ini.specs.Properties.{pairs_of}
use Rattle.ini.specs.Equality.{is_pairs}
use Rattle.ini.proofs.properties.same_pairs.Given as goal

-- what is left decides
abbrev pub invariant-loop-pair : goal.invariant-loop-pair
invariant-loop-pair l =
    is_pairs (pairs_of l.left) (pairs_of l.right) ≡ is_pairs (pairs_of l.pair-iterator) (pairs_of l.others)
