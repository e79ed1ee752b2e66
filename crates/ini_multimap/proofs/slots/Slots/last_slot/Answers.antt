use Rattle.std.proofs.Common.{◌≡◌, ◌-◌, Bool, suc, ◌∙◌, ap, sym, arith, true}
use Rattle.ini_multimap.specs.Inside.Fits.{fits_at, fits_before}
use Rattle.ini_multimap.proofs.WalkLemmas.{before_zero, before_hit, before_miss, pairs_count}
use Rattle.ini_multimap.proofs.slots.Slots.last_slot.Goals as goal

pub loop-s-init : goal.loop-s-init
loop-s-init g c =
    let ks = c.args.self.now.keys in
    let vs = c.args.self.now.values in
    record {
      within = omega (arith, c.len-s.ensures);
      all = pairs_count ks vs ∙ ap (fits_before (λ _. true) ks vs) (sym c.len-s.ensures);
    }

pub returns-then-is_full : goal.returns-then-is_full
returns-then-is_full g c =
    let ks = c.args.self.now.keys in
    let vs = c.args.self.now.values in
    let all : g.row.K.Denot → Bool = λ _. true in
    let s = c.loop-s.s - 1 in
    let more : suc s ≡ c.loop-s.s = omega (arith, c.loop-s-test.true) in
    let full : fits_at all ks vs s ≡ true = sym (c.if-is_full.ensures
    ∙ (λ j. fits_at all (c.as_slice.ensures.value j) (c.as_slice-in-loop-s.ensures.value j) s)
    ∙ ap (λ d. fits_at all d.keys d.values s) c.self.view_is) in (
      full,
      omega (
        arith,
        before_hit all ks vs s full,
        ap (fits_before all ks vs) more,
        c.loop-s.invariant.all,
      ),
    )

pub loop-s-preserved : goal.loop-s-preserved
loop-s-preserved g c =
    let ks = c.args.self.now.keys in
    let vs = c.args.self.now.values in
    let all : g.row.K.Denot → Bool = λ _. true in
    let s = c.loop-s.s - 1 in
    let more : suc s ≡ c.loop-s.s = omega (arith, c.loop-s-test.true) in
    let miss = before_miss all ks vs s (sym (c.if-is_full.ensures
    ∙ (λ j. fits_at all (c.as_slice.ensures.value j) (c.as_slice-in-loop-s.ensures.value j) s)
    ∙ ap (λ d. fits_at all d.keys d.values s) c.self.view_is)) in
    record {
      within = omega (arith, c.loop-s.invariant.within);
      all = omega (arith, miss, ap (fits_before all ks vs) more, c.loop-s.invariant.all);
    }

pub returns : goal.returns
returns g c =
    let ks = c.args.self.now.keys in
    let vs = c.args.self.now.values in
    let none : c.loop-s.s ≡ 0 = omega (arith, c.loop-s-test.false) in
    c.loop-s.invariant.all ∙ ap (fits_before (λ _. true) ks vs) none ∙ before_zero (λ _. true) ks vs
