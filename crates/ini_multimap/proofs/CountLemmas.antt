-- How many keys there are, where their codes tell them apart: as many as the map has codes.
use Rattle.std.proofs.Common.{◌≡◌, ℕ, zero, suc, ◌&&◌, ◌||◌, not, Bool, true, false, cond, List, [], ◌∷◌}
use Rattle.std.proofs.Common.{◌++◌, map, length, nat_eq, Option, None, Some, is_some, refl, sym, ap, ◌∙◌}
use Rattle.std.proofs.Common.{arith, true≢false}
use Rattle.std.specs.Cmp.{IsEquivalence, nat_eq_equiv}
use Rattle.std.specs.HashMap.{HashMap, IsUnique, get, hash_map_len}
use Rattle.std.specs.List.{AllByRecursion, IsDistinct, list_any}
use Rattle.std.specs.Map.{keys_of}
use Rattle.std.specs.Option.{option_map}
use Rattle.std.proofs.lemmas.Bool.Decides.{Decides-eqb}
use Rattle.std.proofs.lemmas.List.{length-map}
use Rattle.std.proofs.lemmas.Map.Made.{is_some-lookup, length-from_same_keys}
use Rattle.std.proofs.lemmas.Map.Entries.{length-keys_of}
use Rattle.ini_multimap.specs.Pairs.{distinct_keys, fresh}
use Rattle.ini_multimap.specs.Slots.{pairs_in}
use Rattle.ini_multimap.specs.Inside.Fits.{ArePaired, IsInjective, code_at, value_in}
use Rattle.ini_multimap.specs.Inside.Chains.{IsNext, first_of}
use Rattle.ini_multimap.proofs.SlotLemmas.{none_is_some, same_some}
use Rattle.ini_multimap.proofs.PairedLemmas.{few_pairs}

none_any : (q : ℕ) (xs : List ℕ) → list_any (nat_eq q) xs ≡ false
    → AllByRecursion (λ y. nat_eq q y ≡ false) xs
none_any q [] e = tt
none_any q (x ∷ xs) e = at (none_any q xs) (nat_eq q x) refl
  where
    at : (list_any (nat_eq q) xs ≡ false → AllByRecursion (λ y. nat_eq q y ≡ false) xs) → (b : Bool)
        → nat_eq q x ≡ b
        → AllByRecursion (λ y. nat_eq q y ≡ false) (x ∷ xs)
    at later true f = absurd (true≢false (sym (ap (λ d. d || list_any (nat_eq q) xs) f) ∙ e))
    at later false f = (f, later (sym (ap (λ d. d || list_any (nat_eq q) xs) f) ∙ e))

module _ {K V : Type 0} (code : K → ℕ) where
  abbrev codes : List (K × V) → List ℕ
  codes ps = map (λ p. code p.0) ps

  abbrev has : ℕ → List (K × V) → Bool
  has q ps = list_any (nat_eq q) (codes ps)

  has_push : (q : ℕ) (ps : List (K × V)) (p : K × V)
      → has q (ps ++ p ∷ []) ≡ (nat_eq q (code p.0) || has q ps)
  has_push q [] p = refl
  has_push q (o ∷ ps) p = ap (λ b. nat_eq q (code o.0) || b) (has_push q ps p)
      ∙ turn (nat_eq q (code o.0)) (nat_eq q (code p.0)) (has q ps)
    where
      turn : (a b d : Bool) → (a || (b || d)) ≡ (b || (a || d))
      turn true true d = refl
      turn true false d = refl
      turn false b d = refl

  module _ (eq : K → K → Bool) (P : K → Type 0)
      (told : (x y : K) → P x → P y → eq x y ≡ nat_eq (code x) (code y)) where
    abbrev All : List (K × V) → Type 0
    All ps = AllByRecursion (λ p. P p.0) ps

    all_push : (ps : List (K × V)) (p : K × V) → All ps → P p.0 → All (ps ++ p ∷ [])
    all_push [] p h f = (f, tt)
    all_push (o ∷ ps) p h f = (h.0, all_push ps p h.1 f)

    seen_is : (seen : List (K × V)) (k : K) → All seen → P k
        → list_any (λ s. eq s.0 k) seen ≡ has (code k) seen
    seen_is [] k h f = refl
    seen_is (s ∷ seen) k h f =
        λ j. (told s.0 k h.0 f ∙ nat_eq_equiv.symm (code s.0) (code k)) j || seen_is seen k h.1 f j

    abbrev news : List (K × V) → List (K × V) → List ℕ
    news seen ps = map code (fresh eq seen ps)

    -- the codes of the distinct keys
    abbrev AreNew : List (K × V) → List (K × V) → List ℕ → Type 0
    AreNew seen ps cs =
        IsDistinct nat_eq cs × ((q : ℕ) → list_any (nat_eq q) cs ≡ (has q ps && not (has q seen)))

    are_new : (seen ps : List (K × V)) → All seen → All ps → AreNew seen ps (news seen ps)
    unfolding IsDistinct
    are_new seen [] h f = (tt, λ q. refl)
    are_new seen (p ∷ ps) h f =
        at (are_new (seen ++ p ∷ []) ps (all_push seen p h f.0) f.1) (list_any (λ s. eq s.0 p.0) seen) refl
      where
        member : AreNew (seen ++ p ∷ []) ps (news (seen ++ p ∷ []) ps) → (q : ℕ)
            → list_any (nat_eq q) (news (seen ++ p ∷ []) ps)
            ≡ (has q ps && not (nat_eq q (code p.0) || has q seen))
        member rest q = rest.1 q ∙ ap (λ b. has q ps && not b) (has_push q seen p)

        none : (b : Bool) → (b && false) ≡ false
        none true = refl
        none false = refl

        old : (q : ℕ) (b : Bool) → nat_eq q (code p.0) ≡ b → has (code p.0) seen ≡ true
            → (has q ps && not (b || has q seen)) ≡ ((b || has q ps) && not (has q seen))
        old q true e is =
            none (has q ps) ∙ sym (ap not (ap (λ d. has d seen) ((Decides-eqb q (code p.0)).0 e) ∙ is))
        old q false e is = refl

        new : (q : ℕ) (b : Bool) → nat_eq q (code p.0) ≡ b → has (code p.0) seen ≡ false
            → (b || (has q ps && not (b || has q seen))) ≡ ((b || has q ps) && not (has q seen))
        new q true e is = sym (ap not (ap (λ d. has d seen) ((Decides-eqb q (code p.0)).0 e) ∙ is))
        new q false e is = refl

        at : AreNew (seen ++ p ∷ []) ps (news (seen ++ p ∷ []) ps) → (b : Bool)
            → list_any (λ s. eq s.0 p.0) seen ≡ b
            → AreNew seen (p ∷ ps)
            (map code (cond b (fresh eq (seen ++ p ∷ []) ps) (p.0 ∷ fresh eq (seen ++ p ∷ []) ps)))
        at rest true e = (
          rest.0,
          λ q. member rest q ∙ old q (nat_eq q (code p.0)) refl (sym (seen_is seen p.0 h f.0) ∙ e),
        )
        at rest false e =
            let first : list_any (nat_eq (code p.0)) (news (seen ++ p ∷ []) ps) ≡ false =
            member rest (code p.0)
            ∙ ap (λ b. has (code p.0) ps && not (b || has (code p.0) seen)) (nat_eq_equiv.refl (code p.0))
            ∙ none (has (code p.0) ps) in (
              (none_any (code p.0) (news (seen ++ p ∷ []) ps) first, rest.0),
              λ q. ap (λ b. nat_eq q (code p.0) || b) (member rest q)
                  ∙ new q (nat_eq q (code p.0)) refl (sym (seen_is seen p.0 h f.0) ∙ e),
            )

  -- what holds of each key in a slot holds of those of the pairs
  all_in : (P : K → Type 0) (ks : List (Option K)) (vs : List (Option V))
      → ((i : ℕ) (x : K) → value_in ks i ≡ Some x → P x)
      → AllByRecursion (λ p. P p.0) (pairs_in ks vs)
  all_in P [] vs h = tt
  all_in P (k ∷ ks) [] h = tt
  all_in P (None ∷ ks) (v ∷ vs) h = all_in P ks vs (λ i. h (suc i))
  all_in P (Some k ∷ ks) (None ∷ vs) h = all_in P ks vs (λ i. h (suc i))
  all_in P (Some k ∷ ks) (Some v ∷ vs) h = (h 0 k refl, all_in P ks vs (λ i. h (suc i)))

  -- a code that a pair has is that of a slot, and of slots with their values the other way round
  slot_has : (ks : List (Option K)) (vs : List (Option V)) (q : ℕ) → has q (pairs_in ks vs) ≡ true
      → (i : ℕ) × (code_at code ks i ≡ Some q)
  slot_has [] vs q h = absurd (true≢false (sym h))
  slot_has (k ∷ ks) [] q h = absurd (true≢false (sym h))
  slot_has (None ∷ ks) (v ∷ vs) q h = let f = slot_has ks vs q h in (suc f.0, f.1)
  slot_has (Some k ∷ ks) (None ∷ vs) q h = let f = slot_has ks vs q h in (suc f.0, f.1)
  slot_has (Some k ∷ ks) (Some v ∷ vs) q h = at (slot_has ks vs q) (nat_eq q (code k)) refl
    where
      at : (has q (pairs_in ks vs) ≡ true → (i : ℕ) × (code_at code ks i ≡ Some q)) → (b : Bool)
          → nat_eq q (code k) ≡ b → (i : ℕ) × (code_at code (Some k ∷ ks) i ≡ Some q)
      at later true e = (0, ap Some (sym ((Decides-eqb q (code k)).0 e)))
      at later false e =
          let f = later (sym (ap (λ b. b || has q (pairs_in ks vs)) e) ∙ h) in
          (suc f.0, f.1)

  pair_has : (ks : List (Option K)) (vs : List (Option V)) (i q : ℕ) → length vs ≡ length ks
      → ArePaired ks vs
      → code_at code ks i ≡ Some q → has q (pairs_in ks vs) ≡ true
  pair_has [] vs i q l p e = absurd (none_is_some e)
  pair_has (k ∷ ks) [] i q l p e = absurd (omega (arith, l))
  pair_has (None ∷ ks) (v ∷ vs) zero q l p e = absurd (none_is_some e)
  pair_has (None ∷ ks) (v ∷ vs) (suc i) q l p e = pair_has ks vs i q (omega (arith, l)) (omega (arith, p)) e
  pair_has (Some k ∷ ks) (None ∷ vs) i q l p e = absurd (omega (arith, p, few_pairs ks vs))
  pair_has (Some k ∷ ks) (Some v ∷ vs) zero q l p e =
      ap (λ b. b || has q (pairs_in ks vs)) (ap (nat_eq q) (same_some e) ∙ nat_eq_equiv.refl q)
  pair_has (Some k ∷ ks) (Some v ∷ vs) (suc i) q l p e =
      ap (λ b. nat_eq q (code k) || b) (pair_has ks vs i q (omega (arith, l)) (omega (arith, p)) e)
      ∙ either (nat_eq q (code k))
    where
      either : (b : Bool) → (b || true) ≡ true
      either true = refl
      either false = refl

  module _ (eq : K → K → Bool) (laws : IsEquivalence eq)
      (equal_codes : (x y : K) → eq x y ≡ true → code x ≡ code y)
      (ks : List (Option K)) (vs : List (Option V)) (injective : IsInjective eq code ks) where
    abbrev Stands : K → Type 0
    Stands x = (i : ℕ) × (value_in ks i ≡ Some x)

    same : (x y : K) → Stands x → Stands y → eq x y ≡ nat_eq (code x) (code y)
    same x y a b = at (eq x y) refl (nat_eq (code x) (code y)) refl
      where
        at : (c : Bool) → eq x y ≡ c → (d : Bool) → nat_eq (code x) (code y) ≡ d
            → eq x y ≡ nat_eq (code x) (code y)
        at true e d f = e ∙ sym (ap (nat_eq (code x)) (sym (equal_codes x y e)) ∙ nat_eq_equiv.refl (code x))
        at false e true f = injective a.0 b.0 x y a.1 b.1 ((Decides-eqb (code x) (code y)).0 f) ∙ sym f
        at false e false f = e ∙ sym f

    all_new : AreNew eq Stands same [] (pairs_in ks vs) (map code (distinct_keys eq (pairs_in ks vs)))
    all_new = are_new eq Stands same [] (pairs_in ks vs) tt (all_in Stands ks vs (λ i x e. (i, e)))

    module _ {S : Type 0} (ends : HashMap ℕ (ℕ × ℕ) S) (long : length vs ≡ length ks)
        (paired : ArePaired ks vs)
        (firsts : (c : ℕ) → IsNext (code_at code ks) c 0 (first_of (get nat_eq ends) c))
        (unique : IsUnique nat_eq ends) where
      there : (q : ℕ) (e : Option (ℕ × ℕ)) → IsNext (code_at code ks) q 0 (option_map (λ p. p.0) e)
          → (b : Bool) → has q (pairs_in ks vs) ≡ b → b ≡ is_some e
      there q None none true h = (let f = slot_has ks vs q h in absurd (none f.0 (omega arith) f.1))
      there q None none false h = refl
      there q (Some e) found true h = refl
      there q (Some e) found false h =
          absurd (true≢false (sym (pair_has ks vs e.0 q long paired found.1) ∙ h))

      only : (b : Bool) → (b && true) ≡ b
      only true = refl
      only false = refl

      -- there are as many distinct keys as codes
      pub count_is : length (distinct_keys eq (pairs_in ks vs)) ≡ hash_map_len ends
      count_is = sym (length-map (distinct_keys eq (pairs_in ks vs)) code)
          ∙ length-from_same_keys nat_eq_equiv _ (keys_of ends.entries) all_new.0 unique (λ q. all_new.1 q
          ∙ only (has q (pairs_in ks vs))
          ∙ there q (get nat_eq ends q) (firsts q) (has q (pairs_in ks vs)) refl
          ∙ is_some-lookup (nat_eq q) ends.entries)
          ∙ length-keys_of ends.entries
