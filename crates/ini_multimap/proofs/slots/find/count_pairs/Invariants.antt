use Rattle.std.proofs.Common.{◌≡◌, ◌≤◌, true}
use Rattle.ini_multimap.specs.Inside.Fits.{fits_before}
use Rattle.ini_multimap.proofs.slots.find.count_pairs.Given as goal

abbrev pub invariant-loop-s : goal.invariant-loop-s
invariant-loop-s g l = record {
  counted : l.pairs ≡ fits_before (λ _. true) l.keys l.values l.s;
  few : l.pairs ≤ l.s;
}
