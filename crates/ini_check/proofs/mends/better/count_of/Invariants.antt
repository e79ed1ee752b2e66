use Rattle.std.proofs.Common.{◌≡◌, ◌+◌, ◌≤◌, length}
use Rattle.ini_check.specs.Mends.Texts.{count_of}
use Rattle.ini_check.proofs.mends.better.count_of.Given as goal

abbrev pub decreases-warnings : goal.decreases-warnings
decreases-warnings l = length l.rest

abbrev pub invariant-warnings : goal.invariant-warnings
invariant-warnings l =
    (l.count + count_of l.trap l.rest ≡ count_of l.trap l.warnings)
    × (l.count + length l.rest ≤ length l.warnings)
