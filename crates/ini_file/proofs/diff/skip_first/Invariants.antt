use Rattle.std.proofs.Common.{◌+◌, ◌≤◌, length}
use Rattle.ini_file.specs.Inside.Shared.{ShareFirst}
use Rattle.ini_file.proofs.diff.skip_first.Given as goal

abbrev pub invariant-lines : goal.invariant-lines
invariant-lines l =
    (ShareFirst l.old l.new l.count l.removed l.added) × (l.count + length l.removed ≤ length l.old)

abbrev pub decreases-lines : goal.decreases-lines
decreases-lines l = length l.removed
