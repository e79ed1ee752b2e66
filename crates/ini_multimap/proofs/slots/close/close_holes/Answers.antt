use Rattle.std.proofs.Common.{sym, ap, subst, arith, length, List, Option, nat_eq}
use Rattle.std.specs.Global.{Box}
use Rattle.std.specs.HashMap.{get}
use Rattle.ini_multimap.specs.Inside.Chains.{AreChained, IsIndexed}
use Rattle.ini_multimap.specs.Inside.Moves.{MovesDown, IsStale}
use Rattle.ini_multimap.specs.declared.slots.chains.Chains.{Chains}
use Rattle.ini_multimap.proofs.MoveLemmas.{then_down, stale_of}
use Rattle.ini_multimap.proofs.slots.close.close_holes.Goals as goal

pub relink-requires-clause-few : goal.relink-requires-clause-few
relink-requires-clause-few g c =
    let P : Option (Box Chains) → Type 0 = IsIndexed g.K.MapKey.key_code c.args.keys.now.items in
    let chained : AreChained g.K.MapKey.key_code c.args.keys.now.items c.in-Some.chains.value =
    subst P c.in-Some.is c.requires.indexed in
    omega (
      arith,
      chained.few,
      c.move_down.ensures.keys.short,
      c.drop_last_holes.ensures.keys.short,
      ap length c.as_slice.ensures.value,
    )

pub relink-requires-clause-long : goal.relink-requires-clause-long
relink-requires-clause-long g c =
    let P : Option (Box Chains) → Type 0 = IsIndexed g.K.MapKey.key_code c.args.keys.now.items in
    let chained : AreChained g.K.MapKey.key_code c.args.keys.now.items c.in-Some.chains.value =
    subst P c.in-Some.is c.requires.indexed in
    omega (
      arith,
      chained.long,
      c.move_down.ensures.keys.short,
      c.drop_last_holes.ensures.keys.short,
      ap
          length c.as_slice.ensures.value,
      ap (λ d. length d.links.items) c.deref_mut.ensures.value,
    )

pub relink-requires-clause-stale : goal.relink-requires-clause-stale
relink-requires-clause-stale g c =
    let code = g.K.MapKey.key_code in
    let ks = c.args.keys.now.items in
    let new = c.drop_last_holes.new.keys.items in
    let P : Option (Box Chains) → Type 0 = IsIndexed code ks in
    let chained : AreChained code ks c.in-Some.chains.value = subst P c.in-Some.is c.requires.indexed in
    let moves : MovesDown ks new =
    then_down ks c.move_down.new.keys.items new c.move_down.ensures.keys c.drop_last_holes.ensures.keys in
    let Q : List (Option g.row.K.Denot) → Type 0 =
    λ l. IsStale (length l) code l (get nat_eq c.deref_mut.result.now.ends) in
    let R : Chains → Type 0 = λ d. IsStale (length new) code new (get nat_eq d.ends) in
    subst Q (sym c.as_slice.ensures.value)
    (subst R (sym c.deref_mut.ensures.value)
    (stale_of code (length new) ks new c.in-Some.chains.value chained moves))

pub returns-in-Some-clause-moves : goal.returns-in-Some-clause-moves
returns-in-Some-clause-moves g c =
    then_down c.args.keys.now.items c.move_down.new.keys.items c.drop_last_holes.new.keys.items
    c.move_down.ensures.keys c.drop_last_holes.ensures.keys

pub returns-in_default-clause-moves : goal.returns-in_default-clause-moves
returns-in_default-clause-moves g c =
    then_down c.args.keys.now.items c.move_down.new.keys.items c.drop_last_holes.new.keys.items
    c.move_down.ensures.keys c.drop_last_holes.ensures.keys
