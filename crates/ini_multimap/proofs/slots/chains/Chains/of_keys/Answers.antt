use Rattle.std.proofs.Common.{◌≡◌, ◌+◌, ◌++◌, ◌∷◌, [], List, Option, true, true≢false, add-one, sym, ◌∙◌, ap}
use Rattle.std.proofs.Common.{subst, arith, take}
use Rattle.std.proofs.lemmas.Bool.{OnTrue_at, OnTrue_from}
use Rattle.std.proofs.lemmas.List.{take_all}
use Rattle.std.proofs.Math.Seq.{take-suc}
use Rattle.ini_multimap.specs.Inside.Fits.{IsInjective}
use Rattle.ini_multimap.specs.Inside.Chains.{AreChained}
use Rattle.ini_multimap.proofs.LinkLemmas.{chained_same}
use Rattle.ini_multimap.proofs.slots.chains.Chains.of_keys.Goals as goal
use Rattle.ini_multimap.proofs.slots.chains.Chains.of_keys.Goals.{then-is_injective, else-is_injective}

pub loop-s-preserved : goal.loop-s-preserved
loop-s-preserved g c =
    let code = g.K.MapKey.key_code in
    let ks = c.args.keys.now in
    let n = c.loop-s.s in
    let slot = c.index-keys-s.result in
    let all = take n ks ++ slot ∷ [] in
    let next : take (n + 1) ks ≡ all =
    rw add-one (take-suc ks n slot c.loop-s-test.true
    ∙ ap (λ x. take n ks ++ x ∷ []) (sym c.index-keys-s.is)) in
    let pushed = c.push_slot-is_reported.ensures in
    let P : List (Option g.row.K.Denot) → Type 0 = λ l. AreChained code l c.push_slot-is_reported.new.self in
    let Q : List (Option g.row.K.Denot) → Type 0 = IsInjective g.K.PartialEq.eq code in
    let told : c.if-is_injective.is_injective ≡ true → Q all = λ e. elim c.if-is_injective.branch [
      | then-is_injective w ↦ OnTrue_at (sym w.is_injective-is ∙ e) pushed.same
          (OnTrue_at w.if-is_injective.true c.loop-s.invariant.known)
      | else-is_injective w ↦ absurd (true≢false (sym e ∙ w.is_injective-is ∙ w.if-is_injective.false))
    ] in
    record {
      chained = subst P (sym next) pushed.chained;
      known = OnTrue_from c.if-is_injective.is_injective _ (λ e. subst Q (sym next) (told e));
      links = omega (arith, c.loop-s.invariant.links, pushed.links);
      ends = omega (arith, c.loop-s.invariant.ends, pushed.ends);
    }

pub returns-clause-chained : goal.returns-clause-chained
returns-clause-chained g c =
    let code = g.K.MapKey.key_code in
    let ks = c.args.keys.now in
    let P : List (Option g.row.K.Denot) → Type 0 = λ l. AreChained code l c.loop-s.chains in
    let whole = take_all c.loop-s.s ks (omega (arith, c.loop-s-test.false)) in
    chained_same code ks c.loop-s.chains c.give_back.new.self (ap (λ l. l.items) c.give_back.ensures.links)
    c.give_back.ensures.ends (subst P whole c.loop-s.invariant.chained)
