-- Slots whose keys all have their values.
use Rattle.std.proofs.Common.{◌≡◌, ℕ, zero, suc, ◌+◌, ◌≤◌, ◌||◌, Bool, cond, List, [], ◌∷◌, ◌++◌, length}
use Rattle.std.proofs.Common.{length-append, Option, None, Some, IsSome, is_some, false, refl, sym, ap, subst}
use Rattle.std.proofs.Common.{◌∙◌, arith, true≢false}
use Rattle.std.specs.Cmp.{IsEquivalence}
use Rattle.std.specs.List.{list_any}
use Rattle.std.specs.declared.alloc.Global.{Global}
use Rattle.std.specs.declared.vec.Vec.{Vec}
use Rattle.std.proofs.lemmas.Bool.{OnTrue_at, OnTrue_from}
use Rattle.std.proofs.Math.ListN.{set, length-set}
use Rattle.ini_multimap.specs.Pairs.{fresh}
use Rattle.ini_multimap.specs.Slots.{with_cell, pairs_in}
use Rattle.ini_multimap.specs.Inside.Filled.{AreFilled}
use Rattle.ini_multimap.specs.Inside.Fits.{ArePaired, holes_in, pair_key, value_in}
use Rattle.ini_multimap.specs.declared.slots.Slots.TheInside.{Inside}
use Rattle.ini_multimap.proofs.SlotLemmas.{holes_push, holes_set, none_is_some, pairs_last}

module _ {K V : Type 0} where
  pub few_pairs : (ks : List (Option K)) (vs : List (Option V))
      → length (pairs_in ks vs) + holes_in ks ≤ length ks
  few_pairs [] vs = omega arith
  few_pairs (None ∷ ks) [] = omega (arith, few_pairs ks [])
  few_pairs (Some k ∷ ks) [] = omega (arith, few_pairs ks [])
  few_pairs (None ∷ ks) (v ∷ vs) = omega (arith, few_pairs ks vs)
  few_pairs (Some k ∷ ks) (None ∷ vs) = omega (arith, few_pairs ks vs)
  few_pairs (Some k ∷ ks) (Some v ∷ vs) = omega (arith, few_pairs ks vs)

  pub paired_value : (ks : List (Option K)) (vs : List (Option V)) (s : ℕ) → length vs ≡ length ks
      → ArePaired ks vs → IsSome (value_in ks s) → IsSome (value_in vs s)
  paired_value [] vs s l p h = absurd (true≢false (sym h))
  paired_value (k ∷ ks) [] s l p h = absurd (omega (arith, l))
  paired_value (None ∷ ks) (v ∷ vs) zero l p h = absurd (true≢false (sym h))
  paired_value (Some k ∷ ks) (None ∷ vs) s l p h = absurd (omega (arith, p, few_pairs ks vs))
  paired_value (Some k ∷ ks) (Some v ∷ vs) zero l p h = refl
  paired_value (None ∷ ks) (v ∷ vs) (suc s) l p h =
      paired_value ks vs s (omega (arith, l)) (omega (arith, p)) h
  paired_value (Some k ∷ ks) (Some v ∷ vs) (suc s) l p h =
      paired_value ks vs s (omega (arith, l)) (omega (arith, p)) h

  pub paired_push : (ks : List (Option K)) (vs : List (Option V)) (k : K) (v : V) → length vs ≡ length ks
      → ArePaired ks vs → ArePaired (ks ++ Some k ∷ []) (vs ++ Some v ∷ [])
  paired_push ks vs k v l p =
      omega (
        arith,
        p,
        holes_push ks k,
        ap length (pairs_last ks vs (Some k) (Some v) l),
        length-append
            (pairs_in ks vs) ((k, v) ∷ []),
        length-append ks (Some k ∷ []),
      )

  fewer_pairs : (ks : List (Option K)) (vs : List (Option V)) (s : ℕ) → IsSome (value_in ks s)
      → IsSome (value_in vs s)
      → suc (length (pairs_in (set ks s None) (set vs s None))) ≡ length (pairs_in ks vs)
  fewer_pairs [] vs s h f = absurd (true≢false (sym h))
  fewer_pairs (k ∷ ks) [] s h f = absurd (true≢false (sym f))
  fewer_pairs (None ∷ ks) (v ∷ vs) zero h f = absurd (true≢false (sym h))
  fewer_pairs (Some k ∷ ks) (None ∷ vs) zero h f = absurd (true≢false (sym f))
  fewer_pairs (Some k ∷ ks) (Some v ∷ vs) zero h f = refl
  fewer_pairs (None ∷ ks) (v ∷ vs) (suc s) h f = fewer_pairs ks vs s h f
  fewer_pairs (Some k ∷ ks) (None ∷ vs) (suc s) h f = fewer_pairs ks vs s h f
  fewer_pairs (Some k ∷ ks) (Some v ∷ vs) (suc s) h f = ap suc (fewer_pairs ks vs s h f)

  pub paired_without : (ks : List (Option K)) (vs : List (Option V)) (s : ℕ) → IsSome (value_in ks s)
      → IsSome (value_in vs s) → ArePaired ks vs → ArePaired (set ks s None) (set vs s None)
  paired_without ks vs s h f p =
      omega (arith, p, holes_set ks s h, fewer_pairs ks vs s h f, length-set ks s None)

  same_pairs : (ks : List (Option K)) (vs : List (Option V)) (s : ℕ) (w : V) → IsSome (value_in vs s)
      → length (pairs_in ks (set vs s (Some w))) ≡ length (pairs_in ks vs)
  same_pairs [] vs s w h = refl
  same_pairs (k ∷ ks) [] s w h = refl
  same_pairs (None ∷ ks) (v ∷ vs) zero w h = refl
  same_pairs (Some k ∷ ks) (None ∷ vs) zero w h = absurd (true≢false (sym h))
  same_pairs (Some k ∷ ks) (Some v ∷ vs) zero w h = refl
  same_pairs (None ∷ ks) (v ∷ vs) (suc s) w h = same_pairs ks vs s w h
  same_pairs (Some k ∷ ks) (None ∷ vs) (suc s) w h = same_pairs ks vs s w h
  same_pairs (Some k ∷ ks) (Some v ∷ vs) (suc s) w h = ap suc (same_pairs ks vs s w h)

  paired_set : (ks : List (Option K)) (vs : List (Option V)) (s : ℕ) (w : V) → IsSome (value_in vs s)
      → ArePaired ks vs → ArePaired ks (set vs s (Some w))
  paired_set ks vs s w h p = omega (arith, p, same_pairs ks vs s w h)

  -- a value that is written where one was
  pub filled_set : (eq : K → K → Bool) (code : K → ℕ) (slots : Inside K V) (s : ℕ) (w : V)
      (values : Vec (Option V) Global) → values.items ≡ set slots.values.items s (Some w)
      → IsSome (value_in slots.values.items s) → AreFilled eq code slots
      → AreFilled eq code (record slots { values = values })
  filled_set eq code slots s w values e h filled = record {
    long = ap length e ∙ length-set slots.values.items s (Some w) ∙ filled.long;
    indexed = filled.indexed;
    tagged = filled.tagged;
    counted = filled.counted;
    leads = filled.leads;
    paired = OnTrue_from slots.is_paired _
        (λ on. subst (ArePaired slots.keys.items) (sym e)
        (paired_set slots.keys.items slots.values.items s w h (OnTrue_at on filled.paired)));
    injective = filled.injective;
  }

  -- what the key of a pair in a slot tells
  pub no_pair : (k : Option K) (v : Option V) → None ≡ pair_key k v → with_cell k v [] ≡ []
  no_pair None v e = refl
  no_pair (Some k) None e = refl
  no_pair (Some k) (Some v) e = absurd (none_is_some e)

  pub pair_is : (k : Option K) (v : Option V) (x : K) → k ≡ Some x → IsSome v → Some x ≡ pair_key k v
  pair_is k None x e h = absurd (true≢false (sym h))
  pair_is k (Some v) x e h = sym e

  pub no_key : (k : Option K) (v : Option V) → k ≡ None → None ≡ pair_key k v
  no_key k None e = refl
  no_key k (Some v) e = sym e

  pub no_value_there : (k : Option K) (v : Option V) → is_some v ≡ false → None ≡ pair_key k v
  no_value_there k None h = refl
  no_value_there k (Some v) h = absurd (true≢false h)

  pub fresh_pair : (eq : K → K → Bool) (seen : List (K × V)) (k : Option K) (v : Option V) (x : K)
      → Some x ≡ pair_key k v → fresh eq seen (with_cell k v []) ≡ cond (list_any (λ s. eq s.0 x) seen) []
      (x ∷ [])
  fresh_pair eq seen k None x e = absurd (none_is_some (sym e))
  fresh_pair eq seen k (Some v) x e = ap (λ o. fresh eq seen (with_cell o (Some v) [])) (sym e)

  -- a key is looked for from either side
  pub any_turned : {eq : K → K → Bool} → IsEquivalence eq → (x : K) (ps : List (K × V))
      → list_any (λ p. eq x p.0) ps ≡ list_any (λ p. eq p.0 x) ps
  any_turned laws x [] = refl
  any_turned {eq} laws x (p ∷ ps) = λ j. laws.symm x p.0 j || any_turned laws x ps j
