use Rattle.std.proofs.Common.{sym, ◌∙◌, ap, subst, length, nat_eq}
use Rattle.std.specs.HashMap.{IsUnique, hash_map_len}
use Rattle.std.proofs.lemmas.Bool.{OnTrue_at}
use Rattle.ini_multimap.specs.Pairs.{distinct_keys}
use Rattle.ini_multimap.specs.Slots.{pairs_of}
use Rattle.ini_multimap.specs.Inside.Chains.{AreChained}
use Rattle.ini_multimap.specs.declared.slots.chains.Chains.{Chains}
use Rattle.ini_multimap.proofs.CountLemmas.{count_is}
use Rattle.ini_multimap.proofs.slots.Slots.len_keys.Goals as goal

pub returns-in-Some : goal.returns-in-Some
returns-in-Some g c =
    let m = c.self.inside in
    let inv = c.self.invariant in
    let chained : AreChained g.K.MapKey.key_code m.keys.items c.in-Some.chains.value =
    rw c.in-Some.is at inv.indexed in
    let U : Chains → Type 0 = λ d. IsUnique nat_eq d.ends in
    c.codes.ensures.count ∙ ap (λ d. hash_map_len d.ends) c.deref.ensures
    ∙ sym (count_is g.K.MapKey.key_code g.K.PartialEq.eq g.met.K.Eq.laws g.met.K.MapKey.equal_codes
    m.keys.items m.values.items (OnTrue_at {b = m.is_injective} c.if-self-2.true inv.injective)
    c.in-Some.chains.value.ends inv.long (OnTrue_at {b = m.is_paired} c.if-self.true inv.paired)
    chained.linked.firsts (subst U c.deref.ensures c.codes.ensures.unique))
    ∙ ap (λ d. length (distinct_keys g.K.PartialEq.eq (pairs_of d))) c.self.view_is
