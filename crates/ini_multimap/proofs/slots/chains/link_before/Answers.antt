use Rattle.std.proofs.Common.{◌<◌, ℕ, Option, IfSome, sym, subst, refl, length}
use Rattle.std.proofs.Math.ListN.{set}
use Rattle.ini_multimap.specs.Inside.Chains.{IsPrevSet}
use Rattle.ini_multimap.proofs.LinkLemmas.{prev_set}
use Rattle.ini_multimap.proofs.slots.chains.link_before.Goals as goal

pub returns-in-Some : goal.returns-in-Some
returns-in-Some c =
    let links = c.args.links.now.items in
    let s = c.in-Some.s in
    let W : Option ℕ → Type 0 = λ r. IfSome r (λ t. t < length links) in
    let P : Option ℕ → Type 0 =
    λ r. IsPrevSet links (set links s
    (record { prev = c.link_to.result; next = c.index_mut.result.now.next })) r c.args.prev in
    subst P (sym c.in-Some.is)
    (prev_set links s c.index_mut.result.now _ (subst W c.in-Some.is c.requires.within)
    c.index_mut.ensures.value c.args.prev c.link_to.ensures refl)
