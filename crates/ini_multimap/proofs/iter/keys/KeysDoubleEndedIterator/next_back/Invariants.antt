use Rattle.std.proofs.Common.{◌≡◌, ◌-◌, ◌≤◌, length}
use Rattle.ini_multimap.specs.Inside.Fits.{fresh_between}
use Rattle.ini_multimap.proofs.iter.keys.KeysDoubleEndedIterator.next_back.Given as goal

-- only holes and keys that occur before were passed over
abbrev pub invariant-loop-self : goal.invariant-loop-self
invariant-loop-self g l =
    let it = l.self-inside in
    record {
      ordered : it.passed ≤ it.end;
      within : it.end ≤ length it.slots.now.keys;
      left : fresh_between g.K.PartialEq.eq it.slots.now it.passed it.end ≡ l.fn.self;
    }

abbrev pub decreases-loop-self : goal.decreases-loop-self
decreases-loop-self g l = l.self-inside.end - l.self-inside.passed
