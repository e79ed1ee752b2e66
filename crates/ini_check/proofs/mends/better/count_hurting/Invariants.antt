use Rattle.std.proofs.Common.{◌≡◌, ◌+◌, ◌≤◌, length}
use Rattle.ini_check.specs.Mends.Texts.{count_hurting}
use Rattle.ini_check.proofs.mends.better.count_hurting.Given as goal

abbrev pub decreases-warnings : goal.decreases-warnings
decreases-warnings l = length l.rest

abbrev pub invariant-warnings : goal.invariant-warnings
invariant-warnings l =
    (l.count + count_hurting l.rest ≡ count_hurting l.warnings)
    × (l.count + length l.rest ≤ length l.warnings)
