use Rattle.std.proofs.Common.{◌≡◌, length}
use Rattle.ini_multimap.specs.Slots.{pairs_in}
use Rattle.ini_multimap.proofs.iter.pairs.IterIterator.next.Given as goal

-- only holes were passed over
abbrev pub invariant-loop-key : goal.invariant-loop-key
invariant-loop-key g l = record {
  left : pairs_in l.self-inside.keys.now l.self-inside.values.now ≡ l.fn.self;
  long : length l.self-inside.values.now ≡ length l.self-inside.keys.now;
}

abbrev pub decreases-loop-key : goal.decreases-loop-key
decreases-loop-key g l = length l.self-inside.keys.now
