use Rattle.std.proofs.Common.{◌≡◌, ◌≢◌, ◌<◌, ℕ, suc, Option, Some, None, IfSome, add-one, sym, ◌∙◌, subst}
use Rattle.std.proofs.Common.{refl, arith, length, nat_eq, unwrap_or}
use Rattle.std.specs.HashMap.{get}
use Rattle.std.proofs.Math.ListN.{set, length-set}
use Rattle.ini_multimap.specs.Inside.Fits.{code_at, value_in}
use Rattle.ini_multimap.specs.Inside.Chains.{IsLinked, first_of, last_of, named, next_at, no_slot, prev_at}
use Rattle.ini_multimap.specs.Inside.Moves.{IsStale, upto, known}
use Rattle.ini_multimap.specs.declared.slots.chains.Link.{Link}
use Rattle.ini_multimap.proofs.SlotLemmas.{value_within, not_some}
use Rattle.ini_multimap.proofs.LinkLemmas.{prev_within, last_within, ends_here, ends_apart, link_here}
use Rattle.ini_multimap.proofs.LinkLemmas.{link_other}
use Rattle.ini_multimap.proofs.MoveLemmas.{code_key}
use Rattle.ini_multimap.proofs.RelinkLemmas.{relinked_all, relinked_hole, relinked_key, stale_next}
use Rattle.ini_multimap.proofs.slots.chains.Chains.relink.Goals as goal
use Rattle.ini_multimap.proofs.slots.chains.Chains.relink.Goals.{in-Some, in_default}

pub put_anew-last-requires : goal.put_anew-last-requires
put_anew-last-requires g c =
    c.loop-at.invariant.stale.there c.loop-at.at c.in-Some.code c.loop-at-test.true
    (sym c.code_in.ensures ∙ c.in-Some.is)

pub link_after-requires-clause-within : goal.link_after-requires-clause-within
link_after-requires-clause-within g c =
    let n = c.loop-at.at in
    let at = upto n (code_at g.K.MapKey.key_code c.args.keys.now) in
    let links = c.loop-at.self.links.items in
    let ends = known n (get nat_eq c.loop-at.self.ends) in
    let W : Option ℕ → Type 0 = λ r. IfSome r (λ t. t < length links) in
    subst W (sym c.put_anew-last.ensures.last)
    (prev_within at c.in-Some.code n (length links) (last_of ends c.in-Some.code)
    (c.loop-at.invariant.linked.lasts c.in-Some.code)
    (omega (arith, c.loop-at-test.true, c.loop-at.invariant.long)))

pub link_to-requires : goal.link_to-requires
link_to-requires g c =
    let n = c.loop-at.at in
    let at = upto n (code_at g.K.MapKey.key_code c.args.keys.now) in
    let ends = known n (get nat_eq c.loop-at.self.ends) in
    let W : Option ℕ → Type 0 = λ r. IfSome r (λ t. t < no_slot) in
    subst W (sym c.put_anew-last.ensures.last)
    (prev_within at c.in-Some.code n no_slot (last_of ends c.in-Some.code)
    (c.loop-at.invariant.linked.lasts c.in-Some.code)
    (omega (arith, c.loop-at-test.true, c.requires.few)))

pub loop-at-preserved : goal.loop-at-preserved
loop-at-preserved g c =
    let code = g.K.MapKey.key_code in
    let ks = c.args.keys.now in
    let n = c.loop-at.at in
    let at = code_at code ks in
    let links = c.loop-at.self.links.items in
    let ends = get nat_eq c.loop-at.self.ends in
    let inv = c.loop-at.invariant in
    let within : n < length links = omega (arith, c.loop-at-test.true, inv.long) in
    elim c.match-code_in.branch [
      | in-Some w ↦ (
          let k = w.in-Some.code in
          let here : at n ≡ Some k = sym c.code_in.ensures ∙ w.in-Some.is in
          let last = w.put_anew-last.result in
          let is_last : last ≡ last_of (known n ends) k = w.put_anew-last.ensures.last in
          let mid = w.link_after.new.links.items in
          let l : Link = record { prev = w.link_to.result; next = 4294967295 } in
          let first = unwrap_or (first_of (known n ends) k) n in
          let new = get nat_eq w.put_anew-last.new.ends in
          let ends_new : new k ≡ Some (first, n) =
          ends_here ends new k (Some (first, n)) w.put_anew-last.ensures.ends in
          let ends_old = ends_apart ends new k (Some (first, n)) w.put_anew-last.ensures.ends in
          let less : n < length mid = omega (arith, within, w.link_after.ensures.links.long) in
          let apart : (j : ℕ) → j < n → j ≢ n = λ j less e. absurd (omega (arith, less, e)) in
          let F : Link → Option ℕ = λ x. named x.next in
          let G : Link → Option ℕ = λ x. named x.prev in
          let linked : IsLinked (suc n) (upto (suc n) at) (next_at (set mid n l)) (prev_at (set mid n l))
          (known (suc n) new) =
          relinked_key n at (next_at links) (prev_at links) ends inv.linked inv.stale.early k first
          (next_at (set mid n l)) (prev_at (set mid n l)) new here refl
          (link_here F mid n l less)
          (λ j e. link_other F mid n j l
          (apart j (last_within (upto n at) k n j (last_of (known n ends) k) e (inv.linked.lasts k)))
          ∙ w.link_after.ensures.links.here j (is_last ∙ e))
          (λ j below d. link_other F mid n j l (apart j below)
          ∙ w.link_after.ensures.links.others j (λ e. d (sym is_last ∙ e)))
          (link_here G mid n l less ∙ w.link_to.ensures ∙ is_last)
          (λ j below. link_other G mid n j l (apart j below) ∙ w.link_after.ensures.links.prevs j)
          ends_new ends_old in
          let stale : IsStale (length ks) code ks new =
          stale_next code ks ends new (length ks) n k first inv.stale here refl ends_new ends_old in
          rw (w.self-is, add-one) (record {
            long = length-set mid n l ∙ w.link_after.ensures.links.long
                ∙ inv.long;
            stale = stale;
            linked = linked;
          })
          )
      | in_default w ↦ (
          let hole : at n ≡ None = sym c.code_in.ensures ∙ not_some c.code_in.result w.in_default.not-Some in
          let linked : IsLinked (suc n) (upto (suc n) at) (next_at links) (prev_at links)
          (known (suc n) ends) = relinked_hole n at (next_at links) (prev_at links) ends inv.linked
          inv.stale.early hole in
          rw (w.self-is, add-one) (record { long = inv.long; stale = inv.stale; linked = linked })
          )
    ]

pub returns : goal.returns
returns g c =
    let code = g.K.MapKey.key_code in
    let ks = c.args.keys.now in
    let n = c.loop-at.at in
    let at = code_at code ks in
    let links = c.loop-at.self.links.items in
    let ends = get nat_eq c.loop-at.self.ends in
    let inv = c.loop-at.invariant in
    let end : n ≡ length ks = omega (arith, c.loop-at-test.false, c.loop-at.auto.at-end) in
    let within : (i q : ℕ) → at i ≡ Some q → i < n = λ i q e. let k = code_key code (value_in ks i) q e in
    omega (arith, value_within ks i k.0 k.1, end) in
    let P : ℕ → Type 0 = λ m. IsLinked m at (next_at links) (prev_at links) ends in
    record {
      few = c.requires.few;
      long = inv.long;
      linked =
          subst P end (relinked_all n at (next_at links) (prev_at links) ends inv.linked inv.stale.early
          within);
    }
