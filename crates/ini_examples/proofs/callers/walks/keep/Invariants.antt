use Rattle.std.proofs.Common.{◌≡◌, ◌++◌}
use Rattle.ini_examples.specs.Walks.{kept}
use Rattle.ini_examples.proofs.callers.walks.keep.Given as goal

abbrev pub invariant-loop-name : goal.invariant-loop-name
invariant-loop-name l = l.copy ++ kept l.name-iterator ≡ kept l.document
