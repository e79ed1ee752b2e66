use Rattle.std.proofs.Common.{◌≡◌, length}
use Rattle.ini_multimap.specs.Iter.{iter_mut_rest}
use Rattle.ini_multimap.proofs.iter.pairs.IterMutIterator.next.Given as goal

-- only holes were passed over
abbrev pub invariant-loop-key : goal.invariant-loop-key
invariant-loop-key g l = iter_mut_rest l.self ≡ iter_mut_rest l.fn.self

abbrev pub decreases-loop-key : goal.decreases-loop-key
decreases-loop-key g l = length l.self.keys.now
