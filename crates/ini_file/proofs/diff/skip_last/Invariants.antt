use Rattle.std.proofs.Common.{length}
use Rattle.ini_file.specs.Inside.Shared.{ShareLast}
use Rattle.ini_file.proofs.diff.skip_last.Given as goal

abbrev pub invariant-lines : goal.invariant-lines
invariant-lines l = ShareLast l.old l.new l.removed l.added

abbrev pub decreases-lines : goal.decreases-lines
decreases-lines l = length l.removed
