use Rattle.std.proofs.Common.{◌≡◌, length, nat_eq}
use Rattle.std.specs.HashMap.{get}
use Rattle.ini_multimap.specs.Inside.Fits.{code_at}
use Rattle.ini_multimap.specs.Inside.Chains.{IsLinked, next_at, prev_at}
use Rattle.ini_multimap.specs.Inside.Moves.{IsStale, upto, known}
use Rattle.ini_multimap.proofs.slots.chains.Chains.relink.Given as goal

-- the first slots are linked anew
abbrev pub invariant-loop-at : goal.invariant-loop-at
invariant-loop-at g l = record {
  long : length l.self.links.items ≡ length l.fn.keys;
  stale : IsStale (length l.fn.keys) g.K.MapKey.key_code l.fn.keys (get nat_eq l.self.ends);
  linked : IsLinked l.at (upto l.at (code_at g.K.MapKey.key_code l.fn.keys)) (next_at l.self.links.items)
      (prev_at l.self.links.items) (known l.at (get nat_eq l.self.ends));
}
