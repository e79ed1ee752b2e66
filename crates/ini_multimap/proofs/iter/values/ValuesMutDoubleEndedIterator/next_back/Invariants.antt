use Rattle.std.proofs.Common.{◌≡◌, length}
use Rattle.ini_multimap.specs.Iter.{iter_mut_rest, values_mut_rest}
use Rattle.ini_multimap.proofs.iter.values.ValuesMutDoubleEndedIterator.next_back.Given as goal

-- only pairs that do not fit were passed over
abbrev pub invariant-loop-key : goal.invariant-loop-key
invariant-loop-key g l = values_mut_rest g.Q.Probe.fits l.self ≡ values_mut_rest g.Q.Probe.fits l.fn.self

abbrev pub decreases-loop-key : goal.decreases-loop-key
decreases-loop-key g l = length (iter_mut_rest l.self.rest)
