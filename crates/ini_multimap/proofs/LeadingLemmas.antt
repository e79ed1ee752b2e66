-- The holes at the front of the slots: they stay where a slot is added or made a hole, and no pair stands in
-- them, so a walk may begin after them.
use Rattle.std.proofs.Common.{◌≡◌, ℕ, zero, suc, ◌+◌, ◌-◌, ◌<◌, Bool, List, [], ◌∷◌, ◌++◌, length, take, drop}
use Rattle.std.proofs.Common.{get_or, is_some, false, true≢false, length-append, length-drop, Option, None}
use Rattle.std.proofs.Common.{Some, refl, sym, subst, ap, ◌∙◌, arith, inl, inr}
use Rattle.std.proofs.lemmas.Bool.{cases_lt}
use Rattle.std.proofs.lemmas.List.{take_all}
use Rattle.std.proofs.Math.ListN.{set, length-set}
use Rattle.ini_multimap.specs.Pairs.{distinct_keys, fresh}
use Rattle.ini_multimap.specs.Slots.{Columns, pairs_in, pairs_of}
use Rattle.ini_multimap.specs.Inside.Fits.{HasLeadingHoles, fresh_between, value_in}
use Rattle.ini_multimap.proofs.SlotLemmas.{none_is_some, pairs_cut, pairs_none, value_before, value_read}

module _ {K : Type 0} where
  pub no_leading : (ks : List (Option K)) → HasLeadingHoles ks 0
  no_leading ks = record { within = omega arith; holes = λ i less. absurd (omega (arith, less)) }

  -- what reading a hole tells
  pub hole_read : (ks : List (Option K)) (n : ℕ) (x : Option K) → n < length ks → x ≡ get_or ks n x
      → is_some x ≡ false → value_in ks n ≡ None
  hole_read ks n None h e none = value_read ks n None h e
  hole_read ks n (Some k) h e none = absurd (true≢false none)

  -- the slot after them is a hole too
  pub leading_more : (ks : List (Option K)) (n : ℕ) → HasLeadingHoles ks n → n < length ks
      → value_in ks n ≡ None → HasLeadingHoles ks (n + 1)
  leading_more ks n leads h hole = record {
    within = omega (arith, h);
    holes = λ i less. elim (cases_lt i n) [
      | inl before ↦ leads.holes i before
      | inr more ↦ (let here : i ≡ n = omega arith in ap (value_in ks) here ∙ hole)
    ];
  }

  -- one more slot at the end
  pub leading_push : (ks : List (Option K)) (n : ℕ) (k : Option K) → HasLeadingHoles ks n
      → HasLeadingHoles (ks ++ k ∷ []) n
  leading_push ks n k leads = record {
    within = omega (arith, leads.within, length-append ks (k ∷ []));
    holes = λ i less.
        value_before ks k i (λ e. absurd (omega (arith, e, less, leads.within))) ∙ leads.holes i less;
  }

  hole_stays : (ks : List (Option K)) (s i : ℕ) → value_in ks i ≡ None → value_in (set ks s None) i ≡ None
  hole_stays [] s i hole = hole
  hole_stays (k ∷ ks) zero zero hole = refl
  hole_stays (k ∷ ks) zero (suc i) hole = hole
  hole_stays (k ∷ ks) (suc s) zero hole = hole
  hole_stays (k ∷ ks) (suc s) (suc i) hole = hole_stays ks s i hole

  -- a slot is made a hole
  pub leading_without : (ks : List (Option K)) (n s : ℕ) → HasLeadingHoles ks n
      → HasLeadingHoles (set ks s None) n
  leading_without ks n s leads = record {
    within = omega (arith, leads.within, length-set ks s None);
    holes = λ i less. hole_stays ks s i (leads.holes i less);
  }

  following : (k : Option K) (ks : List (Option K)) (n : ℕ) → HasLeadingHoles (k ∷ ks) (suc n)
      → HasLeadingHoles ks n
  following k ks n leads = record {
    within = omega (
      arith,
      leads.within,
    );
    holes = λ i less. leads.holes (suc i) (omega (arith, less));
  }

-- how many slots are after them
pub length-from : {A : Type 0} (xs : List A) (n : ℕ)
    → length (take (length xs - n) (drop n xs)) ≡ length xs - n
length-from xs n =
    ap length (take_all (length xs - n) (drop n xs) (omega (arith, length-drop n xs))) ∙ length-drop n xs

module _ {K V : Type 0} where
  -- no pair stands in them
  pub pairs_leading : (ks : List (Option K)) (vs : List (Option V)) (n : ℕ) → HasLeadingHoles ks n
      → pairs_in (take n ks) (take n vs) ≡ []
  pairs_leading ks vs zero leads = refl
  pairs_leading [] vs (suc n) leads = refl
  pairs_leading (k ∷ ks) [] (suc n) leads = refl
  pairs_leading (None ∷ ks) (v ∷ vs) (suc n) leads = pairs_leading ks vs n (following None ks n leads)
  pairs_leading (Some k ∷ ks) (v ∷ vs) (suc n) leads =
      absurd (none_is_some (sym (leads.holes 0 (omega arith))))

  -- all pairs stand after them
  pairs_after : (ks : List (Option K)) (vs : List (Option V)) (n : ℕ) → HasLeadingHoles ks n
      → pairs_in (drop n ks) (drop n vs) ≡ pairs_in ks vs
  pairs_after ks vs zero leads = refl
  pairs_after [] vs (suc n) leads = refl
  pairs_after (k ∷ ks) [] (suc n) leads = pairs_none (drop n ks)
  pairs_after (None ∷ ks) (v ∷ vs) (suc n) leads = pairs_after ks vs n (following None ks n leads)
  pairs_after (Some k ∷ ks) (v ∷ vs) (suc n) leads =
      absurd (none_is_some (sym (leads.holes 0 (omega arith))))

  -- the pairs in the slots after them, as a walk is given them
  pub pairs_from : (ks : List (Option K)) (vs : List (Option V)) (n : ℕ) → HasLeadingHoles ks n
      → pairs_in (take (length ks - n) (drop n ks)) (take (length vs - n) (drop n vs)) ≡ pairs_in ks vs
  pairs_from ks vs n leads =
      (λ j. pairs_in (take_all (length ks - n) (drop n ks) (omega (arith, length-drop n ks)) j)
      (take_all (length vs - n) (drop n vs) (omega (arith, length-drop n vs)) j))
      ∙ pairs_after ks vs n leads

  -- their distinct keys
  pub keys_after : (eq : K → K → Bool) (slots : Columns K V) (n : ℕ) → HasLeadingHoles slots.keys n
      → fresh_between eq slots n (length slots.keys) ≡ distinct_keys eq (pairs_of slots)
  keys_after eq slots n leads =
      let end = length slots.keys in
      let ks = take end slots.keys in
      let vs = take end slots.values in
      let P : List (Option K) → Type 0 = λ l. HasLeadingHoles l n in
      let same = subst P (sym (take_all end slots.keys (omega arith))) leads in
      λ j. fresh eq (pairs_leading ks vs n same j)
      ((pairs_after ks vs n same ∙ pairs_cut slots.keys slots.values end (omega arith)) j)
