use Rattle.std.proofs.Common.{◌≡◌, ◌≤◌, ◌+◌, length}
use Rattle.ini_multimap.specs.Inside.Fits.{holes_in}
use Rattle.ini_multimap.proofs.slots.close.count_holes.Given as goal

abbrev pub invariant-loop-key : goal.invariant-loop-key
invariant-loop-key g l = record {
  counted : l.holes + holes_in l.rest ≡ holes_in l.fn.keys;
  few : l.holes + length l.rest ≤ length l.fn.keys;
}

abbrev pub decreases-loop-key : goal.decreases-loop-key
decreases-loop-key g l = length l.rest
