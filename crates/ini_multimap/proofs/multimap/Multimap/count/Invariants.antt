use Rattle.std.proofs.Common.{◌≡◌, ◌+◌, length}
use Rattle.ini_multimap.specs.Pairs.{values_at}
use Rattle.ini_multimap.proofs.multimap.Multimap.count.Given as goal

abbrev pub invariant-loop-fits : goal.invariant-loop-fits
invariant-loop-fits g l = l.fits + length l.rest ≡ length (values_at (g.Q.Probe.fits l.fn.q) l.self)

abbrev pub decreases-loop-fits : goal.decreases-loop-fits
decreases-loop-fits g l = length l.rest
