use Rattle.std.proofs.Common.{◌≡◌, ◌∙◌, ap, sym, arith, length, true, ℕ, suc, ◌+◌}
use Rattle.ini_multimap.specs.Inside.Fits.{fits_before}
use Rattle.ini_multimap.proofs.WalkLemmas.{before_zero, before_hit, before_miss, pairs_count}
use Rattle.ini_multimap.proofs.slots.find.count_pairs.Goals as goal
use Rattle.ini_multimap.proofs.slots.find.count_pairs.Goals.{then-is_full, else-is_full}

add_one : (n : ℕ) → n + 1 ≡ suc n
add_one n = omega arith

pub loop-s-init : goal.loop-s-init
loop-s-init g c =
    record { counted = sym (before_zero (λ _. true) c.args.keys.now c.args.values.now); few = omega arith }

pub loop-s-preserved : goal.loop-s-preserved
loop-s-preserved g c =
    let ks = c.args.keys.now in
    let vs = c.args.values.now in
    let s = c.loop-s.s in
    let inv = c.loop-s.invariant in
    let F = λ (n : ℕ). fits_before (λ _. true) ks vs n in
    let more : suc s ≡ s + 1 = omega arith in
    elim c.if-is_full.branch [
      | then-is_full w ↦ record {
        counted = w.pairs-is ∙ ap (λ n. n + 1) inv.counted ∙ add_one (F s)
            ∙ sym (before_hit (λ _. true) ks vs s (sym w.if-is_full.ensures)) ∙ ap F more;
        few = omega (arith, w.pairs-is, inv.few);
      }
      | else-is_full w ↦ record {
        counted =
            w.pairs-is ∙ inv.counted ∙ sym (before_miss (λ _. true) ks vs s (sym w.if-is_full.ensures))
            ∙ ap F more;
        few = omega (arith, w.pairs-is, inv.few);
      }
    ]

pub returns : goal.returns
returns g c =
    let ks = c.args.keys.now in
    let vs = c.args.values.now in
    let end : c.loop-s.s ≡ length ks = omega (arith, c.loop-s-test.false, c.loop-s.auto.s-end) in
    c.loop-s.invariant.counted ∙ ap (fits_before (λ _. true) ks vs) end ∙ sym (pairs_count ks vs)
