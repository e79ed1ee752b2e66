-- Keys that are kept as they come, each once.
use Rattle.std.proofs.Common.{◌≡◌, ◌∙◌, Bool, true, false, ◌||◌, List, [], ◌∷◌, ◌++◌, cond, fold, map, ap}
use Rattle.std.proofs.Common.{arith, inl, inr, refl, sym, append_assoc, append-nil, ◌⊎◌}
use Rattle.std.proofs.lemmas.Bool.{cases_Bool, false≢true}
use Rattle.std.proofs.lemmas.List.Folds.{list_any-append}
use Rattle.std.specs.Cmp.{IsEquivalence}
use Rattle.std.specs.List.{list_any}
use Rattle.ini_multimap.specs.Pairs.{distinct_keys, fresh}
use Rattle.ini_dialect.specs.Inside.{kept}

module _ {K : Type 0} {eq : K → K → Bool} (equiv : IsEquivalence eq) where
  -- what fits a key among them fits one of them
  any-fits : (keys : List K) (x y : K) → list_any (λ k. eq k x) keys ≡ true → eq x y ≡ true
      → list_any (λ k. eq k y) keys ≡ true
  any-fits [] x y there fits = absurd (false≢true there)
  any-fits (k ∷ keys) x y there fits =
      elim (cases_Bool (eq k x)) [
        | inl here ↦
            let same : eq k y ≡ true = equiv.congr k x y here ∙ fits in
            grind (arith, same)
        | inr apart ↦
            let later : list_any (λ k. eq k x) keys ≡ true = grind (arith, there, apart) in
            let same = any-fits keys x y later fits in
            elim (cases_Bool (eq k y)) [
              | inl there_too ↦ rw there_too refl
              | inr not_there ↦ rw not_there same
            ]
      ]

module _ {K V : Type 0} {eq : K → K → Bool} (equiv : IsEquivalence eq) where
  -- the same keys are among both
  abbrev SameKeys : List (K × V) → List K → Type 0
  SameKeys seen keys = (x : K) → list_any (λ s. eq s.0 x) seen ≡ list_any (λ k. eq k x) keys

  same-known : (seen : List (K × V)) (keys : List K) (p : K × V) → SameKeys seen keys
      → list_any (λ k. eq k p.0) keys ≡ true → SameKeys (seen ++ p ∷ []) keys
  same-known seen keys p same known x =
      list_any-append (λ s. eq s.0 x) seen (p ∷ []) ∙ at (cases_Bool (eq p.0 x))
    where
      at : (eq p.0 x ≡ true) ⊎ (eq p.0 x ≡ false)
          → (list_any (λ s. eq s.0 x) seen || list_any (λ s. eq s.0 x) (p ∷ [])) ≡ list_any (λ k. eq k x) keys
      at (inl fits) =
          let there = any-fits equiv keys p.0 x known fits in
          let seen_too : list_any (λ s. eq s.0 x) seen ≡ true = same x ∙ there in
          rw (seen_too, there) refl
      at (inr apart) = grind (arith, apart, same x)

  same-new : (seen : List (K × V)) (keys : List K) (p : K × V) → SameKeys seen keys
      → SameKeys (seen ++ p ∷ []) (keys ++ p.0 ∷ [])
  same-new seen keys p same x =
      list_any-append (λ s. eq s.0 x) seen (p ∷ [])
      ∙ ap (λ b. b || (eq p.0 x || false)) (same x)
      ∙ sym (list_any-append (λ k. eq k x) keys (p.0 ∷ []))

  kept-fresh : (seen : List (K × V)) (keys : List K) (ps : List (K × V)) → SameKeys seen keys
      → fold (kept eq) keys ps ≡ keys ++ fresh eq seen ps
  kept-fresh seen keys [] same = sym (append-nil keys)
  kept-fresh seen keys (p ∷ ps) same =
      elim (cases_Bool (list_any (λ k. eq k p.0) keys)) [
        | inl known ↦
            let seen_too : list_any (λ s. eq s.0 p.0) seen ≡ true = same p.0 ∙ known in
            rw (known, seen_too) (kept-fresh (seen ++ p ∷ []) keys ps (same-known seen keys p same known))
        | inr new ↦
            let unseen : list_any (λ s. eq s.0 p.0) seen ≡ false = same p.0 ∙ new in
            rw (new, unseen) (
            kept-fresh (seen ++ p ∷ []) (keys ++ p.0 ∷ []) ps (same-new seen keys p same)
            ∙ append_assoc keys (p.0 ∷ []) (fresh eq (seen ++ p ∷ []) ps))
      ]

  -- all of them, from none on
  pub kept-distinct : (ps : List (K × V)) → fold (kept eq) [] ps ≡ distinct_keys eq ps
  kept-distinct ps = kept-fresh [] [] ps (λ x. refl)

any-map : {X Y : Type 0} (test : Y → Bool) (f : X → Y) (xs : List X)
    → list_any test (map f xs) ≡ list_any (λ x. test (f x)) xs
any-map test f [] = refl
any-map test f (x ∷ xs) = ap (λ b. test (f x) || b) (any-map test f xs)

pub map-push : {X Y : Type 0} (f : X → Y) (xs : List X) (x : X) → map f (xs ++ x ∷ []) ≡ map f xs ++ f x ∷ []
map-push f [] x = refl
map-push f (y ∷ xs) x = ap (λ l. f y ∷ l) (map-push f xs x)

-- items whose keys are kept, and one more, that fits one of them or doesn't
module _ {A K V : Type 0} (eq : K → K → Bool) (f : A → K) (ks slice : List A) (a : A) (v : V)
    (left rest : List (K × V)) (told : Bool) (one : left ≡ (f a, v) ∷ rest) (all : slice ≡ ks)
    (tells : told ≡ list_any (λ x. eq (f x) (f a)) slice) where
  there : list_any (λ k. eq k (f a)) (map f ks) ≡ told
  there =
      any-map (λ k. eq k (f a)) f ks ∙ ap (list_any (λ x. eq (f x) (f a))) (sym all) ∙ sym tells

  next : fold (kept eq) (map f ks) left ≡ fold (kept eq) (cond told (map f ks) (map f ks ++ f a ∷ [])) rest
  next =
      ap (fold (kept eq) (map f ks)) one
      ∙ ap (λ b. fold (kept eq) (cond b (map f ks) (map f ks ++ f a ∷ [])) rest) there

  pub kept-known : told ≡ true → fold (kept eq) (map f ks) rest ≡ fold (kept eq) (map f ks) left
  kept-known known =
      sym (next ∙ ap (λ b. fold (kept eq) (cond b (map f ks) (map f ks ++ f a ∷ [])) rest) known)

  pub kept-new : (ks' : List A) → told ≡ false → ks' ≡ ks ++ a ∷ []
      → fold (kept eq) (map f ks') rest ≡ fold (kept eq) (map f ks) left
  kept-new ks' new put =
      ap (λ l. fold (kept eq) l rest) (ap (map f) put ∙ map-push f ks a)
      ∙ sym (next ∙ ap (λ b. fold (kept eq) (cond b (map f ks) (map f ks ++ f a ∷ [])) rest) new)
