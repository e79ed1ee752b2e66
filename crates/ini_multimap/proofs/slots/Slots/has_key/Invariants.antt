use Rattle.ini_multimap.specs.Inside.Candidates.{IsReachedBack, back_left}
use Rattle.ini_multimap.proofs.slots.Slots.has_key.Given as goal

abbrev pub invariant-loop-before : goal.invariant-loop-before
invariant-loop-before g l =
    IsReachedBack l.self.is_chained g.K.MapKey.key_code (g.K.MapKey.key_code l.key) l.self.keys
    (g.K.PartialEq.eq l.key) l.self.values l.at l.before

abbrev pub decreases-loop-before : goal.decreases-loop-before
decreases-loop-before g l = back_left l.before
