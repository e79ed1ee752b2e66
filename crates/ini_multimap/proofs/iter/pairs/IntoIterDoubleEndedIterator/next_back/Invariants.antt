use Rattle.std.proofs.Common.{◌≡◌, length}
use Rattle.std.specs.Vec.Iter.{into_iter_items}
use Rattle.ini_multimap.specs.Slots.{pairs_in}
use Rattle.ini_multimap.proofs.iter.pairs.IntoIterDoubleEndedIterator.next_back.Given as goal

-- only holes were passed over
abbrev pub invariant-loop-key : goal.invariant-loop-key
invariant-loop-key g l = record {
  left : pairs_in (into_iter_items l.self-inside.keys) (into_iter_items l.self-inside.values) ≡ l.fn.self;
  long : length (into_iter_items l.self-inside.values) ≡ length (into_iter_items l.self-inside.keys);
  counted : l.self-inside.left ≡ length l.fn.self;
}

abbrev pub decreases-loop-key : goal.decreases-loop-key
decreases-loop-key g l = length (into_iter_items l.self-inside.keys)
