use Rattle.std.proofs.Common.{◌≡◌, Some, chars}
use Rattle.ini_examples.specs.Walks.{all_added}
use Rattle.ini_examples.proofs.callers.walks.add_all.Given as goal

abbrev pub invariant-loop-key : goal.invariant-loop-key
invariant-loop-key l = all_added (Some (chars l.to)) l.document l.key-iterator
    ≡ all_added (Some (chars l.to)) l.fn.document l.pairs
