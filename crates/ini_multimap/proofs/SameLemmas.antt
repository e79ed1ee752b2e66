-- Texts that are compared by their first few bytes and their last few, all at once.
use Rattle.std.proofs.Common.{◌≡◌, ℕ, ◌+◌, ◌-◌, ◌*◌, ◌%◌, ◌^◌, ◌≤◌, Bool, true, false, not, cond, eqb, List}
use Rattle.std.proofs.Common.{[], ◌∷◌, ◌++◌, map, length, take, take_all, drop, subst, refl, sym, ap, ap₂}
use Rattle.std.proofs.Common.{◌∙◌, arith}
use Rattle.std.proofs.lemmas.Bool.{eq-eqb, eqb-true}
use Rattle.std.proofs.lemmas.List.{drop-drop, length-drop, length-map, length-take-le, take-append-drop}
use Rattle.std.proofs.lemmas.Simd.{length-chunk, length-zip2, mask_l-mod}
use Rattle.std.specs.Bool.{Decides}
use lib.Bits.{bit_or}
use lib.Lanes.{chunk, mask_l, top, zip2}

-- a lane where two bytes differ is full
abbrev pub other : ℕ → ℕ → ℕ
other a b = cond (not (eqb a b)) 255 0

-- the bits of the lanes that differ in one of two pairs
abbrev pub differences : (xs ys us vs : List ℕ) → ℕ
differences xs ys us vs = mask_l (map (top 7) (zip2 bit_or (zip2 other xs ys) (zip2 other us vs)))

-- a bit that isn't set
both : (p q : Bool) (n : ℕ) → cond (top 7 (bit_or (cond (not p) 255 0) (cond (not q) 255 0))) 1 0 + 2 * n ≡ 0
    → (p ≡ true) × (q ≡ true) × (n ≡ 0)
both true true n e = (refl, refl, omega (arith, e))
both true false n e = absurd (omega (arith, e))
both false true n e = absurd (omega (arith, e))
both false false n e = absurd (omega (arith, e))

none_differ : (xs ys us vs : List ℕ) → length ys ≡ length xs → length us ≡ length xs
    → length vs ≡ length xs → differences xs ys us vs ≡ 0 → (xs ≡ ys) × (us ≡ vs)
none_differ [] [] [] [] k l m e = (refl, refl)
none_differ [] (y ∷ ys) us vs k l m e = absurd (omega (arith, k))
none_differ [] [] (u ∷ us) vs k l m e = absurd (omega (arith, l))
none_differ [] [] [] (v ∷ vs) k l m e = absurd (omega (arith, m))
none_differ (x ∷ xs) [] us vs k l m e = absurd (omega (arith, k))
none_differ (x ∷ xs) (y ∷ ys) [] vs k l m e = absurd (omega (arith, l))
none_differ (x ∷ xs) (y ∷ ys) (u ∷ us) [] k l m e = absurd (omega (arith, m))
none_differ (x ∷ xs) (y ∷ ys) (u ∷ us) (v ∷ vs) k l m e =
    let here = both (eqb x y) (eqb u v) (differences xs ys us vs) e in
    let more = none_differ xs ys us vs (omega (arith, k)) (omega (arith, l)) (omega (arith, m)) here.2 in
    (ap₂ (λ z zs. z ∷ zs) (eqb-true x y here.0) more.0, ap₂ (λ z zs. z ∷ zs) (eqb-true u v here.1) more.1)

same : (xs us : List ℕ) → length us ≡ length xs → differences xs xs us us ≡ 0
same [] [] l = refl
same [] (u ∷ us) l = absurd (omega (arith, l))
same (x ∷ xs) [] l = absurd (omega (arith, l))
same (x ∷ xs) (u ∷ us) l =
    let x_same = eq-eqb x x refl in
    let u_same = eq-eqb u u refl in
    (λ j. cond (top 7 (bit_or (cond (not (x_same j)) 255 0) (cond (not (u_same j)) 255 0))) 1 0
    + 2 * same xs us (omega (arith, l)) j)

-- The first n bytes and the last n of a and b, which are of one length and no longer than both.
module _ (n : ℕ) (a b : List ℕ) (long : length a ≡ length b) (some : n ≤ length a)
    (few : length a ≤ 2 * n) where
  abbrev back : ℕ
  back = length a - n

  front_long : (l : List ℕ) → length l ≡ length a → length (take n l) ≡ n
  front_long l e = length-take-le n l (omega (arith, e))

  back_long : (l : List ℕ) → length l ≡ length a → length (chunk back n l) ≡ n
  back_long l e = length-chunk back n l (omega (arith, e))

  -- where they are the same, so are a and b
  by_ends : take n a ≡ take n b → chunk back n a ≡ chunk back n b → a ≡ b
  by_ends front last =
      let rest : drop back a ≡ drop back b =
      sym (take_all n (drop back a) (omega (arith, length-drop back a))) ∙ last
      ∙ take_all n (drop back b) (omega (arith, length-drop back b, long)) in
      let all : back + (n - back) ≡ n = omega arith in
      let following : drop n a ≡ drop n b =
      sym (drop-drop (n - back) back a ∙ ap (λ k. drop k a) all) ∙ ap (drop (n - back)) rest
      ∙ drop-drop (n - back) back b ∙ ap (λ k. drop k b) all in
      sym (take-append-drop n a) ∙ ap₂ (λ l m. l ++ m) front following ∙ take-append-drop n b

  abbrev bits : ℕ
  bits = differences (take n a) (take n b) (chunk back n a) (chunk back n b)

  whole : n ≤ 64 → bits % 2 ^ 64 ≡ bits
  whole h =
      let fronts = zip2 other (take n a) (take n b) in
      let backs = zip2 other (chunk back n a) (chunk back n b) in
      let one = length-zip2 other (take n a) (take n b)
      (omega (arith, front_long a refl, front_long b (sym long))) in
      let two = length-zip2 other (chunk back n a) (chunk back n b)
      (omega (arith, back_long a refl, back_long b (sym long))) in
      mask_l-mod (map (top 7) (zip2 bit_or fronts backs)) 64 (omega (
        arith,
        length-map (zip2 bit_or fronts backs) (top 7),
        length-zip2
            bit_or fronts backs
            (omega (arith, one, two, front_long a refl, back_long a refl)),
        one,
        front_long a refl,
      ))

  -- no bit is set exactly where a and b are the same
  pub ends_decide : n ≤ 64 → Decides (eqb (bits % 2 ^ 64) 0) (a ≡ b)
  ends_decide h = (
    λ e. (let ends = none_differ (take n a) (take n b) (chunk back n a) (chunk back n b)
        (omega (arith, front_long a refl, front_long b (sym long)))
        (omega (arith, front_long a refl, back_long a refl))
        (omega (arith, front_long a refl, back_long b (sym long)))
        (sym (whole h) ∙ eqb-true (bits % 2 ^ 64) 0 e) in
        by_ends ends.0 ends.1),
    λ e. eq-eqb (bits % 2 ^ 64) 0 (whole h
        ∙ subst (λ l. differences (take n a) (take n l) (chunk back n a) (chunk back n l) ≡ 0) e
        (same (take n a) (chunk back n a) (omega (arith, front_long a refl, back_long a refl)))),
  )
