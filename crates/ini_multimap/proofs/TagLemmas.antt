-- Tags of codes: what they tell of the slots before a candidate, and how they follow their keys.
use Rattle.std.proofs.Common.{◌≡◌, ◌≢◌, ℕ, suc, ◌<◌, ◌≤◌, false, not, List, [], ◌∷◌, ◌++◌, length}
use Rattle.std.proofs.Common.{length-append, get_or, Option, None, Some, refl, sym, ap, ◌∙◌, arith, inl, inr}
use Rattle.std.proofs.Common.{true≢false}
use Rattle.std.proofs.Math.ListN.{set, length-set}
use Rattle.std.proofs.lemmas.Bool.{cases_eq, eq-eqb}
use Rattle.std.proofs.lemmas.List.{get_or-set_same, get_or-set_other}
use Rattle.std.proofs.lemmas.List.Sums.{fails_before_first, prefix_len-le-length}
use Rattle.std.specs.List.{position_or_len}
use Rattle.std.specs.Option.{option_map}
use Rattle.std.specs.Prelude.{◌==◌}
use Rattle.ini_multimap.specs.Inside.Fits.{code_at, value_in}
use Rattle.ini_multimap.specs.Inside.Candidates.{IsAhead}
use Rattle.ini_multimap.specs.Inside.Tags.{AreTagged, tag_of}
use Rattle.ini_multimap.proofs.SlotLemmas.{code_within, none_is_some, same_some, value_before, value_push}
use Rattle.ini_multimap.proofs.SlotLemmas.{value_set_here, value_set_other}

-- the first place that has the tag of the code c
abbrev pub first_tag : List ℕ → ℕ → ℕ
first_tag tags c = position_or_len (λ t. t == tag_of c) tags

module _ {K : Type 0} (code : K → ℕ) (ks : List (Option K)) (tags : List ℕ)
    (tagged : AreTagged code ks tags) (c : ℕ) where
  -- no slot before the first that has the tag has the code
  other_code : (k : ℕ) → k < first_tag tags c → code_at code ks k ≢ Some c
  other_code k before here =
      let within : k < length tags =
      omega (arith, before, prefix_len-le-length (λ t. not (t == tag_of c)) tags) in
      true≢false (sym (eq-eqb (get_or tags k 0) (tag_of c) (tagged k c within here))
      ∙ fails_before_first (λ t. t == tag_of c) tags k 0 before)

module _ {K : Type 0} (code : K → ℕ) (ks : List (Option K)) where
  -- the first n slots are tagged
  abbrev pub AreUpTo : ℕ → List ℕ → Type 0
  AreUpTo n tags = (k c : ℕ) → k < n → k < length tags → code_at code ks k ≡ Some c
      → get_or tags k 0 ≡ tag_of c

  -- one slot more, with a key or as a hole
  pub with_key : (n c : ℕ) (tags : List ℕ) → AreUpTo n tags → code_at code ks n ≡ Some c
      → AreUpTo (suc n) (set tags n (tag_of c))
  with_key n c tags upto here k d below within is =
      elim (cases_eq k n) [
        | inl same ↦ (let there = rw same at is in
            ap (λ i. get_or (set tags n (tag_of c)) i 0) same
            ∙ get_or-set_same tags n (tag_of c) 0 (omega (arith, length-set tags n (tag_of c)))
            ∙ ap tag_of (same_some (sym here ∙ there)))
        | inr other ↦ get_or-set_other tags n k (tag_of c) 0 other
            ∙ upto k d (omega arith) (omega (arith, length-set tags n (tag_of c))) is
      ]

  pub with_hole : (n : ℕ) (tags : List ℕ) → AreUpTo n tags → code_at code ks n ≡ None
      → AreUpTo (suc n) tags
  with_hole n tags upto hole k d below within is =
      elim (cases_eq k n) [
        | inl same ↦ (let there = rw same at is in absurd (none_is_some (sym hole ∙ there)))
        | inr other ↦ upto k d (omega arith) within is
      ]

-- one more key
pub tagged_push : {K : Type 0} (code : K → ℕ) (ks : List (Option K)) (tags : List ℕ) (key : K)
    → AreTagged code ks tags → AreTagged code (ks ++ Some key ∷ []) (set tags (length ks) (tag_of (code key)))
tagged_push {K} code ks tags key tagged k c within here =
    let all = ks ++ Some key ∷ [] in
    let upto : AreUpTo code all (length ks) tags = λ i d below inside is.
    tagged i d inside (sym (ap (option_map code) (value_before ks (Some key) i (λ e. omega arith))) ∙ is) in
    with_key code all (length ks) (code key) tags upto
    (ap (option_map code) (value_push ks (Some key) (length ks) refl)) k c
    (omega (arith, code_within code all k c here, length-append ks (Some key ∷ []))) within here

-- a key that goes
pub tagged_without : {K : Type 0} (code : K → ℕ) (ks : List (Option K)) (tags : List ℕ) (s : ℕ)
    → AreTagged code ks tags → AreTagged code (set ks s None) tags
tagged_without code ks tags s tagged k c within here =
    elim (cases_eq k s) [
      | inl same ↦ (let there = code_within code (set ks s None) k c here in
          absurd (none_is_some (sym (ap (option_map code)
          (ap (value_in (set ks s None)) same
          ∙ value_set_here ks s None (omega (arith, there, length-set ks s None)))) ∙ here)))
      | inr other ↦
          tagged k c within (sym (ap (option_map code) (value_set_other ks s k None other)) ∙ here)
    ]

-- tags that reach as far as they or the keys
pub all_tagged : {K : Type 0} (code : K → ℕ) (ks : List (Option K)) (tags : List ℕ) (n : ℕ)
    → AreUpTo code ks n tags → ((k : ℕ) → k < length ks → k < length tags → k < n) → AreTagged code ks tags
all_tagged code ks tags n upto reach k c within here =
    upto k c (reach k (code_within code ks k c here) within) within here

-- the first candidate among slots that aren't chained
pub tagged_ahead : {K : Type 0} (code : K → ℕ) (ks : List (Option K)) (tags : List ℕ) (c s : ℕ)
    → AreTagged code ks tags → s ≡ first_tag tags c → s < length ks → IsAhead false code c ks 0 (Some s)
tagged_ahead code ks tags c s tagged is within =
    (omega arith, (within, tt), λ k above below. other_code code ks tags tagged c k (omega (arith, is)))

pub none_tagged_ahead : {K : Type 0} (code : K → ℕ) (ks : List (Option K)) (tags : List ℕ) (c s : ℕ)
    → AreTagged code ks tags → s ≡ first_tag tags c → length ks ≤ s → IsAhead false code c ks 0 None
none_tagged_ahead code ks tags c s tagged is past =
    λ k above below. other_code code ks tags tagged c k (omega (arith, is))
