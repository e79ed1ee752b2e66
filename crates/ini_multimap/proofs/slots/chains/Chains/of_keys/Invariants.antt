use Rattle.std.proofs.Common.{◌+◌, ◌<◌, length, take, vec_capacity}
use Rattle.std.specs.Bool.{OnTrue}
use Rattle.std.specs.HashMap.{spare}
use Rattle.ini_multimap.specs.Inside.Fits.{IsInjective}
use Rattle.ini_multimap.specs.Inside.Chains.{AreChained}
use Rattle.ini_multimap.proofs.slots.chains.Chains.of_keys.Given as goal

-- the first slots are chained, and there is room for the others and one more
abbrev pub invariant-loop-s : goal.invariant-loop-s
invariant-loop-s g l = record {
  chained : AreChained g.K.MapKey.key_code (take l.s l.keys) l.chains;
  known : OnTrue l.is_injective (IsInjective g.K.PartialEq.eq g.K.MapKey.key_code (take l.s l.keys));
  links : length l.keys < vec_capacity l.chains.links;
  ends : length l.keys < l.s + spare l.chains.ends;
}
