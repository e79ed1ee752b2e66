use Rattle.std.proofs.Common.{◌<◌, ℕ, Option, IfSome, sym, subst, refl, length}
use Rattle.std.proofs.Math.ListN.{set}
use Rattle.ini_multimap.specs.Inside.Chains.{IsNextSet}
use Rattle.ini_multimap.proofs.LinkLemmas.{next_set}
use Rattle.ini_multimap.proofs.slots.chains.link_after.Goals as goal

pub returns-in-Some-clause-links : goal.returns-in-Some-clause-links
returns-in-Some-clause-links c =
    let links = c.args.links.now.items in
    let s = c.in-Some.s in
    let W : Option ℕ → Type 0 = λ r. IfSome r (λ t. t < length links) in
    let P : Option ℕ → Type 0 =
    λ r. IsNextSet links (set links s
    (record { prev = c.index_mut.result.now.prev; next = c.link_to.result })) r c.args.next in
    subst P (sym c.in-Some.is)
    (next_set links s c.index_mut.result.now _ (subst W c.in-Some.is c.requires.within)
    c.index_mut.ensures.value c.args.next c.link_to.ensures refl)
