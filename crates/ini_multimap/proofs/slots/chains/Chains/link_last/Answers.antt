use Rattle.std.proofs.Common.{◌≡◌, ◌++◌, ◌∷◌, [], ℕ, Option, List, Some, sym, ◌∙◌, ap, subst, refl, arith}
use Rattle.std.proofs.Common.{length, length-append, nat_eq}
use Rattle.std.specs.HashMap.{get}
use Rattle.std.proofs.lemmas.Bool.{OnTrue_at, OnTrue_from}
use Rattle.ini_multimap.specs.Inside.Chains.{IsPrev, IsLinked, IsNextSet, IsPutLast, last_of, next_at}
use Rattle.ini_multimap.specs.Inside.Chains.{prev_at}
use Rattle.ini_multimap.specs.Inside.Fits.{code_at}
use Rattle.ini_multimap.specs.declared.slots.chains.Link.{Link}
use Rattle.ini_multimap.proofs.InjectiveLemmas.{injective_push}
use Rattle.ini_multimap.proofs.LinkLemmas.{linked_push}
use Rattle.ini_multimap.proofs.slots.chains.Chains.link_last.Goals as goal

pub returns-clause-chained : goal.returns-clause-chained
returns-clause-chained g c =
    let code = g.K.MapKey.key_code in
    let ks = c.args.keys.now in
    let key = c.args.key.now in
    let links = c.args.self.now.links.items in
    let mid = c.link_after.new.links.items in
    let l : Link = record { prev = c.link_to.result; next = 4294967295 } in
    let old = get nat_eq c.args.self.now.ends in
    let new = get nat_eq c.put_last-last.new.ends in
    let last = c.put_last-last.result in
    let is_last : last ≡ last_of old (code key) =
    c.put_last-last.ensures.last ∙ ap (last_of old) c.code-code.ensures in
    let N : Option ℕ → Type 0 = λ r. IsNextSet links mid r (Some (length ks)) in
    let E : ℕ → Type 0 = λ q. IsPutLast old new q (length ks) in
    let all = ks ++ Some key ∷ [] in
    let P : List Link → Type 0 = λ m. IsLinked (length all) (code_at code all) (next_at m) (prev_at m) new in
    record {
      few = omega (arith, c.requires.room.slot, c.requires.chained.long, length-append ks (Some key ∷ []));
      long = ap length c.push_reserved.ensures.items
          ∙ omega (
            arith,
            length-append mid (l ∷ []),
            c.link_after.ensures.links.long,
            c.requires.chained.long,
            length-append ks (Some key ∷ []),
          );
      linked =
          subst P (sym c.push_reserved.ensures.items)
          (linked_push code ks links mid l key old new c.requires.chained.long c.requires.chained.linked
          (subst N is_last c.link_after.ensures.links) refl (c.link_to.ensures ∙ is_last)
          (subst E c.code-code.ensures c.put_last-last.ensures.ends));
    }

pub returns-clause-same : goal.returns-clause-same
returns-clause-same g c =
    let code = g.K.MapKey.key_code in
    let ks = c.args.keys.now in
    let key = c.args.key.now in
    let P : Option ℕ → Type 0 = IsPrev (code_at code ks) (code key) (length ks) in
    let is_last =
    c.put_last-last.ensures.last ∙ ap (last_of (get nat_eq c.args.self.now.ends)) c.code-code.ensures in
    OnTrue_from c.is_key_of.result _
    (λ e. injective_push g.K.PartialEq.eq code g.met.K.Eq.laws ks key c.put_last-last.result
    (subst P (sym is_last) (c.requires.chained.linked.lasts (code key))) (OnTrue_at e c.is_key_of.ensures))
