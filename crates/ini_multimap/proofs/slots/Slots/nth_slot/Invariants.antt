use Rattle.std.proofs.Common.{length}
use Rattle.ini_multimap.specs.Inside.Candidates.{IsReached, walk_left}
use Rattle.ini_multimap.proofs.slots.Slots.nth_slot.Given as goal

abbrev pub invariant-loop-at : goal.invariant-loop-at
invariant-loop-at g l = IsReached l.self.is_chained g.K.MapKey.key_code (g.Q.Probe.probe_code l.q) l.self.keys
    (g.Q.Probe.fits l.q) l.self.values l.n l.left l.at

abbrev pub decreases-loop-at : goal.decreases-loop-at
decreases-loop-at g l = walk_left (length l.self.keys) l.at
