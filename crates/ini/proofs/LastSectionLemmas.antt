-- A pair that goes into the last section.
use Rattle.std.proofs.Common.{◌≡◌, ℕ, zero, suc, ◌-◌, ◌<◌, List, [], ◌∷◌, ◌++◌, length, slice_get, Some}
use Rattle.std.proofs.Common.{IsSome, refl, ap, sym, ◌∙◌, arith}
use Rattle.std.proofs.lemmas.List.{length-map}
use Rattle.std.specs.Map.{values_of}
use Rattle.ini_multimap.specs.Pairs.{with_value_at}
use Rattle.ini.specs.Texts.{Text}
use Rattle.ini.specs.Properties.{Pairs, both}
use Rattle.ini.specs.Documents.{Document, with_pair}

less_one : (n : ℕ) → suc (suc n) - 1 ≡ suc (suc n - 1)
less_one n = omega arith

-- the value of the last pair, where the keys are read by f
module _ {K L V : Type 0} (f : K → L) where
  with_value_at-both : (ps : List (K × V)) (i : ℕ) (v : V)
      → both f (λ w. w) (with_value_at ps i v) ≡ with_value_at (both f (λ w. w) ps) i v
  with_value_at-both [] i v = refl
  with_value_at-both (p ∷ ps) zero v = refl
  with_value_at-both (p ∷ ps) (suc i) v = ap (λ l. (f p.0, p.1) ∷ l) (with_value_at-both ps i v)

  values_of-both : (ps : List (K × V)) → values_of (both f (λ w. w) ps) ≡ values_of ps
  values_of-both [] = refl
  values_of-both (p ∷ ps) = ap (λ l. p.1 ∷ l) (values_of-both ps)

  module _ (ps : List (K × V)) (qs : List (L × V)) (shown : both f (λ w. w) ps ≡ qs) where
    as_long : length ps ≡ length qs
    as_long = sym (length-map ps (λ p. (f p.0, p.1))) ∙ ap length shown

    pub last_set : (v : V)
        → both f (λ w. w) (with_value_at ps (length ps - 1) v) ≡ with_value_at qs (length qs - 1) v
    last_set v = with_value_at-both ps (length ps - 1) v ∙ (λ i. with_value_at (shown i) (as_long i - 1) v)

    pub last_got : slice_get (values_of ps) (length ps - 1) ≡ slice_get (values_of qs) (length qs - 1)
    last_got =
        ap (λ vs. slice_get vs (length ps - 1)) (sym (values_of-both ps))
        ∙ (λ i. slice_get (values_of (shown i)) (as_long i - 1))

module _ {K V : Type 0} where
  pub last_is_there : (ps : List (K × V)) → 0 < length ps → IsSome (slice_get (values_of ps) (length ps - 1))
  last_is_there [] h = absurd (omega arith)
  last_is_there (p ∷ []) h = refl
  last_is_there (p ∷ q ∷ ps) h = rw less_one (last_is_there (q ∷ ps) (omega arith))

  -- the last pair stays
  pub with_value_at-last : (v : V) (ps : List (K × V)) → slice_get (values_of ps) (length ps - 1) ≡ Some v
      → with_value_at ps (length ps - 1) v ≡ ps
  with_value_at-last v [] h = refl
  with_value_at-last v (p ∷ []) h =
      let same : p.1 ≡ v = cc in
      ap (λ w. (p.0, w) ∷ []) (sym same)
  with_value_at-last v (p ∷ q ∷ ps) h =
      rw less_one (ap (λ l. p ∷ l) (with_value_at-last v (q ∷ ps) (rw less_one at h)))

  -- the pair that was pushed
  set_pushed : (k : K) (v w : V) (ps : List (K × V))
      → with_value_at (ps ++ (k, v) ∷ []) (length (ps ++ (k, v) ∷ []) - 1) w ≡ ps ++ (k, w) ∷ []
  set_pushed k v w [] = refl
  set_pushed k v w (p ∷ []) = refl
  set_pushed k v w (p ∷ q ∷ ps) = rw less_one (ap (λ l. p ∷ l) (set_pushed k v w (q ∷ ps)))

  got_pushed : (k : K) (v : V) (ps : List (K × V))
      → slice_get (values_of (ps ++ (k, v) ∷ [])) (length (ps ++ (k, v) ∷ []) - 1) ≡ Some v
  got_pushed k v [] = refl
  got_pushed k v (p ∷ []) = refl
  got_pushed k v (p ∷ q ∷ ps) = rw less_one (got_pushed k v (q ∷ ps))

  module _ (k : K) (v : V) (ps new : List (K × V)) (pushed : new ≡ ps ++ (k, v) ∷ []) where
    pub last_pushed : (w : V) → with_value_at new (length new - 1) w ≡ ps ++ (k, w) ∷ []
    last_pushed w = ap (λ l. with_value_at l (length l - 1) w) pushed ∙ set_pushed k v w ps

    pub value_pushed : (x : V) → slice_get (values_of new) (length new - 1) ≡ Some x → x ≡ v
    value_pushed x got =
        let same : Some x ≡ Some v =
        sym got ∙ ap (λ l. slice_get (values_of l) (length l - 1)) pushed ∙ got_pushed k v ps in
        cc

-- a pair put after those of the last section
pub with_pair-last : (key value : Text) (ps : Pairs) (d : Document)
    → slice_get (values_of d) (length d - 1) ≡ Some ps
    → with_value_at d (length d - 1) (ps ++ (key, value) ∷ []) ≡ with_pair key value d
with_pair-last key value ps [] h = refl
with_pair-last key value ps (s ∷ []) h =
    let same : s.1 ≡ ps = cc in
    ap (λ qs. (s.0, qs ++ (key, value) ∷ []) ∷ []) (sym same)
with_pair-last key value ps (s ∷ t ∷ d) h =
    rw less_one (ap (λ l. s ∷ l) (with_pair-last key value ps (t ∷ d) (rw less_one at h)))
