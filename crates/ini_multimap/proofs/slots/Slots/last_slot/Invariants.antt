use Rattle.std.proofs.Common.{◌≡◌, ◌≤◌, true, length}
use Rattle.ini_multimap.specs.Slots.{pairs_of}
use Rattle.ini_multimap.specs.Inside.Fits.{fits_before}
use Rattle.ini_multimap.proofs.slots.Slots.last_slot.Given as goal

-- no slot from s on holds a pair
abbrev pub invariant-loop-s : goal.invariant-loop-s
invariant-loop-s g l = record {
  within : l.s ≤ length l.self.keys;
  all : length (pairs_of l.self) ≡ fits_before (λ _. true) l.self.keys l.self.values l.s;
}

abbrev pub decreases-loop-s : goal.decreases-loop-s
decreases-loop-s g l = l.s
