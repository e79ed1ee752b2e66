-- Keys that their codes tell from one another.
use Rattle.std.proofs.Common.{◌≡◌, ◌≢◌, ℕ, zero, suc, ◌<◌, Bool, true, List, [], ◌∷◌, ◌++◌, length}
use Rattle.std.proofs.Common.{length-append, Option, None, Some, IfSome, refl, sym, ap, ◌∙◌, subst, arith}
use Rattle.std.proofs.Common.{inl, inr}
use Rattle.std.specs.Cmp.{IsEquivalence}
use Rattle.std.specs.Option.{option_map}
use Rattle.std.proofs.lemmas.Bool.{cases_eq}
use Rattle.std.proofs.Math.ListN.{set}
use Rattle.ini_multimap.specs.Inside.Fits.{IsInjective, IsKeyOf, IsToldBy, value_in, code_at}
use Rattle.ini_multimap.specs.Inside.Chains.{IsPrev}
use Rattle.ini_multimap.specs.Inside.Moves.{MovesDown}
use Rattle.ini_multimap.proofs.SlotLemmas.{none_is_some, same_some, value_push, value_before, value_hole}
use Rattle.ini_multimap.proofs.SlotLemmas.{value_within}
use Rattle.ini_multimap.proofs.MoveLemmas.{code_key}

module _ {K : Type 0} (eq : K → K → Bool) (code : K → ℕ) where
  -- the codes of the first n slots tell their keys apart
  abbrev pub IsInjectiveTo : (ℕ → Option K) → ℕ → Type 0
  IsInjectiveTo at n =
      (i j : ℕ) (x y : K) → i < n → j < n → at i ≡ Some x → at j ≡ Some y → code x ≡ code y → eq x y ≡ true

  -- one more slot, of which the chain tells the last before it of its code
  module _ (laws : IsEquivalence eq) (at : ℕ → Option K) (n : ℕ) (told : IsInjectiveTo at n) (key : K)
      (here : at n ≡ Some key) (last : Option ℕ)
      (is_last : IsPrev (λ k. option_map code (at k)) (code key) n last)
      (same : IfSome last (λ s. (x : K) → at s ≡ Some x → eq x key ≡ true)) where
    before : (last : Option ℕ) → IsPrev (λ k. option_map code (at k)) (code key) n last
        → IfSome last (λ s. (x : K) → at s ≡ Some x → eq x key ≡ true) → (i : ℕ) (x : K) → i < n
        → at i ≡ Some x → code x ≡ code key → eq x key ≡ true
    before None none h i x less e f = absurd (none i less (ap (option_map code) e ∙ ap Some f))
    before (Some s) found h i x less e f =
        let y = code_key code (at s) (code key) found.1 in
        laws.congr x y.0 key (told i s x y.0 less found.0 e y.1 (f ∙ sym y.2)) ∙ h y.0 y.1

    pub one_more : IsInjectiveTo at (suc n)
    one_more i j x y a b e f c =
        elim (cases_eq i n) [
          | inl i_is ↦ (let x_is : x ≡ key = same_some (sym e ∙ ap at i_is ∙ here) in
              elim (cases_eq j n) [
                | inl j_is ↦
                    ap (λ z. eq z y) x_is ∙ ap (eq key) (same_some (sym f ∙ ap at j_is ∙ here))
                    ∙ laws.refl key
                | inr j_not ↦ ap (λ z. eq z y) x_is ∙ laws.symm key y
                    ∙ before last is_last same j y (let d : j ≢ n = j_not in omega arith) f
                    (sym c ∙ ap code x_is)
              ])
          | inr i_not ↦ elim (cases_eq j n) [
            | inl j_is ↦ (let y_is : y ≡ key = same_some (sym f ∙ ap at j_is ∙ here) in
                ap (eq x) y_is
                ∙ before last is_last same i x (let d : i ≢ n = i_not in omega arith) e (c ∙ ap code y_is))
            | inr j_not ↦
                told i j x y (let d : i ≢ n = i_not in omega arith)
                (let d : j ≢ n = j_not in omega arith) e f c
          ]
        ]

  pub whole : (ks : List (Option K)) → IsInjectiveTo (value_in ks) (length ks) → IsInjective eq code ks
  whole ks told i j x y e f c = told i j x y (value_within ks i x e) (value_within ks j y f) e f c

  -- keys of which each was there
  pub injective_kept : (ks ls : List (Option K))
      → ((j : ℕ) (x : K) → value_in ls j ≡ Some x → (i : ℕ) × (value_in ks i ≡ Some x))
      → IsInjective eq code ks → IsInjective eq code ls
  injective_kept ks ls back told i j x y e f c =
      let a = back i x e in
      let b = back j y f in
      told a.0 b.0 x y a.1 b.1 c

  pub injective_moved : (ks ls : List (Option K)) → MovesDown ks ls → IsInjective eq code ks
      → IsInjective eq code ls
  injective_moved ks ls moves = injective_kept ks ls moves.back

  still : (ks : List (Option K)) (s j : ℕ) (x : K) → value_in (set ks s None) j ≡ Some x
      → value_in ks j ≡ Some x
  still [] s j x e = e
  still (k ∷ ks) zero zero x e = absurd (none_is_some e)
  still (k ∷ ks) zero (suc j) x e = e
  still (k ∷ ks) (suc s) zero x e = e
  still (k ∷ ks) (suc s) (suc j) x e = still ks s j x e

  pub injective_without : (ks : List (Option K)) (s : ℕ) → IsInjective eq code ks
      → IsInjective eq code (set ks s None)
  injective_without ks s = injective_kept ks (set ks s None) (λ j x e. (j, still ks s j x e))

  -- a hole goes last
  pub injective_hole : (ks : List (Option K)) → IsToldBy eq code ks None
  injective_hole ks = injective_kept ks (ks ++ None ∷ []) (λ j x e. (j, sym (value_hole ks j) ∙ e))

  -- a key goes last
  pub injective_push : IsEquivalence eq → (ks : List (Option K)) (key : K) (last : Option ℕ)
      → IsPrev (code_at code ks) (code key) (length ks) last → IsKeyOf eq ks last key
      → IsToldBy eq code ks (Some key)
  injective_push laws ks key last is_last same told = whole (ks ++ Some key ∷ []) (all told)
    where
      old : (i : ℕ) → i < (length ks) → value_in (ks ++ Some key ∷ []) i ≡ value_in ks i
      old i less = value_before ks (Some key) i (λ e. absurd (omega (arith, e, less)))

      prev : (r : Option ℕ) → IsPrev (code_at code ks) (code key) (length ks) r
          → IsPrev (λ k. option_map code (value_in (ks ++ Some key ∷ []) k)) (code key) (length ks) r
      prev None none = λ k less e. none k less (ap (option_map code) (sym (old k less)) ∙ e)
      prev (Some s) found = (
        found.0,
        ap (option_map code) (old s found.0) ∙ found.1,
        λ k above less e. found.2 k above less (ap (option_map code) (sym (old k less)) ∙ e),
      )

      like : (r : Option ℕ) → IsPrev (code_at code ks) (code key) (length ks) r → IsKeyOf eq ks r key
          → IfSome r (λ s. (x : K) → value_in (ks ++ Some key ∷ []) s ≡ Some x → eq x key ≡ true)
      like None none h = tt
      like (Some s) found h = λ x e. h x (sym (old s found.0) ∙ e)

      upto : IsInjective eq code ks → IsInjectiveTo (value_in (ks ++ Some key ∷ [])) (length ks)
      upto told i j x y a b e f c = told i j x y (sym (old i a) ∙ e) (sym (old j b) ∙ f) c

      all : IsInjective eq code ks
          → IsInjectiveTo (value_in (ks ++ Some key ∷ [])) (length (ks ++ Some key ∷ []))
      all told =
          subst (IsInjectiveTo (value_in (ks ++ Some key ∷ [])))
          (omega (arith, length-append ks (Some key ∷ [])))
          (one_more laws (value_in (ks ++ Some key ∷ [])) (length ks) (upto told) key
          (value_push ks (Some key) (length ks) refl) last (prev last is_last) (like last is_last same))
