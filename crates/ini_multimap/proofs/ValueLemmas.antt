-- The values that a walk between two candidates has left.
use Rattle.std.proofs.Common.{◌≡◌, ℕ, zero, suc, ◌<◌, ◌≤◌, Bool, true, false, List, [], ◌∷◌, ◌++◌, length}
use Rattle.std.proofs.Common.{take, drop, slice_get, Option, None, Some, IfSome, refl, sym, ap, ◌∙◌, arith}
use Rattle.std.proofs.lemmas.List.{take_all, drop_all, length-take}
use Rattle.ini_multimap.specs.Pairs.{values_at}
use Rattle.ini_multimap.specs.Slots.{pairs_in}
use Rattle.ini_multimap.specs.Inside.Fits.{value_in, fits_at, fits_before}
use Rattle.ini_multimap.specs.Inside.Candidates.{AreBetween, IsAhead, IsAfter, IsCandidate, back_left}
use Rattle.ini_multimap.specs.Inside.Candidates.{values_from, walk_left}
use Rattle.ini_multimap.proofs.CellLemmas.{nth_is, fits_count}
use Rattle.ini_multimap.proofs.WalkLemmas.{walk_shorter, back_shorter, before_zero, before_hit, before_miss}
use Rattle.ini_multimap.proofs.WalkLemmas.{before_more, none_ahead, no_more, none_after, none_before}

module _ {A : Type 0} where
  none_left : (a b : ℕ) (xs : List A) → b ≤ a → drop a (take b xs) ≡ []
  none_left a b xs h = drop_all a (take b xs) (simp length-take (omega arith))

  taken_first : (a b : ℕ) (xs : List A) (x : A) → slice_get xs a ≡ Some x → a < b
      → drop a (take b xs) ≡ x ∷ drop (suc a) (take b xs)
  taken_first a b [] x e h = absurd cc
  taken_first a zero (y ∷ xs) x e h = absurd (omega arith)
  taken_first zero (suc b) (y ∷ xs) x e h = cc
  taken_first (suc a) (suc b) (y ∷ xs) x e h = taken_first a b xs x e (omega arith)

  taken_last : (a b : ℕ) (xs : List A) (x : A) → slice_get xs b ≡ Some x → a ≤ b
      → drop a (take (suc b) xs) ≡ drop a (take b xs) ++ x ∷ []
  taken_last a b [] x e h = absurd cc
  taken_last zero zero (y ∷ xs) x e h = cc
  taken_last (suc a) zero (y ∷ xs) x e h = absurd (omega arith)
  taken_last zero (suc b) (y ∷ xs) x e h = ap (λ l. y ∷ l) (taken_last zero b xs x e (omega arith))
  taken_last (suc a) (suc b) (y ∷ xs) x e h = taken_last a b xs x e (omega arith)

module _ (chained : Bool) {K : Type 0} (code : K → ℕ) (c : ℕ) (ks : List (Option K)) where
  pub ahead_candidate : (i : ℕ) (r : Option ℕ) → IsAhead chained code c ks i r
      → IfSome r (IsCandidate chained code c ks)
  ahead_candidate i None f = tt
  ahead_candidate i (Some t) f = f.1

  pub after_candidate : (i : ℕ) (r : Option ℕ) → IsAfter chained code c ks i r
      → IfSome r (IsCandidate chained code c ks)
  after_candidate i None f = tt
  after_candidate i (Some t) f = f.1

  module _ (first last : Option ℕ) (s : ℕ) (slots : AreBetween chained code c ks first last)
      (r : Option ℕ) where
    -- a step from the front, to the candidate r
    pub front_slots : IsAhead chained code c ks (suc s) r → AreBetween chained code c ks r last
    front_slots f = (ahead_candidate (suc s) r f, slots.1)

    pub front_shorter : first ≡ Some s → IsAhead chained code c ks (suc s) r
        → walk_left (length ks) r < walk_left (length ks) first
    front_shorter at f =
        let here = rw at at slots.0 in
        rw at (walk_shorter chained code c ks s r f here.0)

    -- and one from the back
    pub back_slots : IsAfter chained code c ks s r → AreBetween chained code c ks first r
    back_slots f = (slots.0, after_candidate s r f)

    pub back_left_less : last ≡ Some s → IsAfter chained code c ks s r → back_left r < back_left last
    back_left_less at f = rw at (back_shorter chained code c ks s r f)

module _ {K V : Type 0} {code : K → ℕ} {test : K → Bool} {c : ℕ} (class : (p : K) → test p ≡ true
    → code p ≡ c) (chained : Bool) (ks : List (Option K)) (vs : List (Option V)) where
  abbrev before : ℕ → ℕ
  before s = fits_before test ks vs s

  abbrev all : List V
  all = values_at test (pairs_in ks vs)

  from_ahead : (i e : ℕ) (r : Option ℕ) → i ≤ suc e → e < length ks → IsAhead chained code c ks i r
      → values_from test ks vs r (Some e) ≡ drop (before i) (take (before (suc e)) all)
  from_ahead i e None h within f = let same =
      no_more code test c class chained ks vs i (suc e) h (omega arith) f in
      sym (none_left (before i) (before (suc e)) all (omega arith))
  from_ahead i e (Some t) h within f =
      ap (λ n. drop n (take (before (suc e)) all)) (none_ahead code test c class chained ks vs i t f)

  to_after : (s i : ℕ) (r : Option ℕ) → IsAfter chained code c ks i r
      → values_from test ks vs (Some s) r ≡ drop (before s) (take (before i) all)
  to_after s i None f =
      let none = none_before code test c class chained ks vs i f in
      sym (none_left (before s) (before i) all (omega arith))
  to_after s i (Some t) f =
      ap (λ n. drop (before s) (take n all)) (sym (none_after code test c class chained ks vs i t f))

  whole : take (before (length ks)) all ≡ all
  whole = take_all (before (length ks)) all (omega (arith, fits_count test ks vs))

  pub all_from : (r t : Option ℕ) → IsAhead chained code c ks 0 r → IsAfter chained code c ks (length ks) t
      → values_from test ks vs r t ≡ all
  all_from None t f h =
      let none = no_more code test c class chained ks vs 0 (length ks) (omega arith) (omega arith) f in
      sym (sym whole
      ∙ none_left 0 (before (length ks)) all (omega (arith, none, before_zero test ks vs)))
  all_from (Some s) t f h =
      to_after s (length ks) t h
      ∙ ap (λ n. drop n (take (before (length ks)) all))
      (none_ahead code test c class chained ks vs 0 s f ∙ before_zero test ks vs) ∙ whole

  module _ (first last : Option ℕ) (s e : ℕ) (slots : AreBetween chained code c ks first last)
      (at_first : first ≡ Some s) (at_last : last ≡ Some e) where
    there : IsCandidate chained code c ks e
    there = rw at_last at slots.1

    both_ends : values_from test ks vs first last ≡ drop (before s) (take (before (suc e)) all)
    both_ends = λ j. values_from test ks vs (at_first j) (at_last j)

    pub crossed : e < s → values_from test ks vs first last ≡ []
    crossed h =
        both_ends
        ∙ none_left (before s) (before (suc e)) all (before_more test ks vs (suc e) s (omega arith))

    module _ (order : s ≤ e) (r : Option ℕ) where
      -- past the first candidate, to the candidate r
      after : IsAhead chained code c ks (suc s) r
          → values_from test ks vs r last ≡ drop (before (suc s)) (take (before (suc e)) all)
      after f = ap (values_from test ks vs r) at_last ∙ from_ahead (suc s) e r (omega arith) there.0 f

      pub front_misses : IsAhead chained code c ks (suc s) r → fits_at test ks vs s ≡ false
          → values_from test ks vs first last ≡ values_from test ks vs r last
      front_misses f miss =
          both_ends
          ∙ sym (after f ∙ ap (λ n. drop n (take (before (suc e)) all)) (before_miss test ks vs s miss))

      pub front_fits : (v : V) → IsAhead chained code c ks (suc s) r → fits_at test ks vs s ≡ true
          → value_in vs s ≡ Some v → values_from test ks vs first last ≡ v ∷ values_from test ks vs r last
      front_fits v f hit is =
          let one = before_hit test ks vs s hit in
          let more = before_more test ks vs (suc s) (suc e) (omega arith) in
          both_ends
          ∙ taken_first (before s) (before (suc e)) all v
          ((nth_is test ks vs s (before s) hit refl).value ∙ is) (omega arith)
          ∙ sym (ap (λ l. v ∷ l) (after f ∙ ap (λ n. drop n (take (before (suc e)) all)) one))

      -- past the last one
      until : IsAfter chained code c ks e r
          → values_from test ks vs first r ≡ drop (before s) (take (before e) all)
      until f = ap (λ f. values_from test ks vs f r) at_first ∙ to_after s e r f

      pub back_misses : IsAfter chained code c ks e r → fits_at test ks vs e ≡ false
          → values_from test ks vs first last ≡ values_from test ks vs first r
      back_misses f miss =
          both_ends
          ∙ sym (until f ∙ ap (λ n. drop (before s) (take n all)) (sym (before_miss test ks vs e miss)))

      pub back_fits : (v : V) → IsAfter chained code c ks e r → fits_at test ks vs e ≡ true
          → value_in vs e ≡ Some v
          → values_from test ks vs first last ≡ values_from test ks vs first r ++ v ∷ []
      back_fits v f hit is =
          both_ends
          ∙ ap (λ n. drop (before s) (take n all)) (before_hit test ks vs e hit)
          ∙ taken_last (before s) (before e) all v ((nth_is test ks vs e (before e) hit refl).value ∙ is)
          (before_more test ks vs s e order)
          ∙ sym (ap (λ l. l ++ v ∷ []) (until f))
