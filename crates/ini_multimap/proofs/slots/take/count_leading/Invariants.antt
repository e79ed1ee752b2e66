use Rattle.std.proofs.Common.{◌-◌, length}
use Rattle.ini_multimap.specs.Inside.Fits.{HasLeadingHoles}
use Rattle.ini_multimap.proofs.slots.take.count_leading.Given as goal

abbrev pub invariant-loop-leading : goal.invariant-loop-leading
invariant-loop-leading g l = HasLeadingHoles l.keys l.leading

abbrev pub decreases-loop-leading : goal.decreases-loop-leading
decreases-loop-leading g l = length l.keys - l.leading
