-- Which slots hold pairs, and pairs that fit. Private functions say it.
use Rattle.std.specs.Prelude.{◌≡◌, ℕ, zero, suc, ◌+◌, ◌-◌, ◌<◌, ◌≤◌, Bool, true, false, if◌then◌else◌, List}
use Rattle.std.specs.Prelude.{[], ◌∷◌, ◌++◌, length, take, drop, Option, Some, None, MatchOption, IfSome}
use Rattle.std.specs.Option.{option_map}
use Rattle.ini_multimap.specs.Pairs.{without, fresh}
use Rattle.ini_multimap.specs.Slots.{Columns, with_cell, pairs_in}

-- the value at k, `None` where there is none and past the end
abbrev pub value_in : {V : Type 0} → List (Option V) → ℕ → Option V
value_in [] k = None
value_in (v ∷ vs) zero = v
value_in (v ∷ vs) (suc k) = value_in vs k

-- n, and one more if so
abbrev pub one_more : Bool → ℕ → ℕ
one_more true n = suc n
one_more false n = n

-- how many of them are holes
abbrev pub holes_in : {K : Type 0} → List (Option K) → ℕ
holes_in [] = 0
holes_in (None ∷ ks) = suc (holes_in ks)
holes_in (Some k ∷ ks) = holes_in ks

-- the first n slots are holes
pub record HasLeadingHoles {K : Type 0} (ks : List (Option K)) (n : ℕ) : Type 0 where
  pub within : n ≤ length ks
  pub holes : (i : ℕ) → i < n → value_in ks i ≡ None

-- keys of one code are equal: the code tells a key from the others
abbrev pub IsInjective : {K : Type 0} → (K → K → Bool) → (K → ℕ) → List (Option K) → Type 0
IsInjective {K} eq code ks = (i j : ℕ) (x y : K) → value_in ks i ≡ Some x → value_in ks j ≡ Some y
    → code x ≡ code y → eq x y ≡ true

-- the key is equal to that in slot s, where there is one
abbrev pub IsKeyOf : {K : Type 0} → (K → K → Bool) → List (Option K) → Option ℕ → K → Type 0
IsKeyOf {K} eq ks s key = IfSome s (λ i. (x : K) → value_in ks i ≡ Some x → eq x key ≡ true)

-- where its code tells each key from the others, it still does with this slot after them
abbrev pub IsToldBy : {K : Type 0} → (K → K → Bool) → (K → ℕ) → List (Option K) → Option K → Type 0
IsToldBy eq code ks slot = IsInjective eq code ks → IsInjective eq code (ks ++ slot ∷ [])

-- the code in slot k
abbrev pub code_at : {K : Type 0} → (K → ℕ) → List (Option K) → ℕ → Option ℕ
code_at code ks k = option_map code (value_in ks k)

module _ {K V : Type 0} where
  -- the key of a slot that holds a pair
  abbrev pub pair_key : Option K → Option V → Option K
  pair_key k None = None
  pair_key k (Some v) = k

  -- each key has its value: as many slots hold pairs as are no holes
  abbrev pub ArePaired : List (Option K) → List (Option V) → Type 0
  ArePaired ks vs = length (pairs_in ks vs) + holes_in ks ≡ length ks

  module _ (test : K → Bool) where
    abbrev pub fit : Option K → Option V → Bool
    fit None v = false
    fit (Some k) None = false
    fit (Some k) (Some v) = test k

    -- whether slot s holds a pair that fits
    abbrev pub fits_at : List (Option K) → List (Option V) → ℕ → Bool
    fits_at [] vs s = false
    fits_at (k ∷ ks) [] s = false
    fits_at (k ∷ ks) (v ∷ vs) zero = fit k v
    fits_at (k ∷ ks) (v ∷ vs) (suc s) = fits_at ks vs s

    -- how many slots before s hold a pair that fits
    abbrev pub fits_before : List (Option K) → List (Option V) → ℕ → ℕ
    fits_before [] vs s = 0
    fits_before (k ∷ ks) [] s = 0
    fits_before (k ∷ ks) (v ∷ vs) zero = 0
    fits_before (k ∷ ks) (v ∷ vs) (suc s) = one_more (fit k v) (fits_before ks vs s)

    -- slot s holds pair number n of those that fit
    abbrev pub IsNthSlot : List (Option K) → List (Option V) → ℕ → ℕ → Type 0
    IsNthSlot ks vs n s = (fits_at ks vs s ≡ true) × (fits_before ks vs s ≡ n)

    -- no more than n fit
    abbrev pub NoNthSlot : List (Option K) → List (Option V) → ℕ → Type 0
    NoNthSlot ks vs n = fits_before ks vs (length ks) ≤ n

    -- r is the slot of pair number n of those that fit
    abbrev pub IsNthFit : List (Option K) → List (Option V) → ℕ → Option ℕ → Type 0
    IsNthFit ks vs n r = MatchOption r (NoNthSlot ks vs n) (IsNthSlot ks vs n)

    -- the pairs without number n of those that fit
    abbrev pub without_nth : List (K × V) → ℕ → List (K × V)
    without_nth [] n = []
    without_nth (p ∷ ps) zero = if test p.0 then ps else p ∷ without_nth ps zero
    without_nth (p ∷ ps) (suc n) = p ∷ (if test p.0 then without_nth ps n else without_nth ps (suc n))

    -- without the pairs that fit but for the first
    abbrev pub first_alone : List (K × V) → List (K × V)
    first_alone [] = []
    first_alone (p ∷ ps) = if test p.0 then p ∷ without test ps else p ∷ first_alone ps

  -- r is the slot of the last pair
  abbrev pub IsLastFull : List (Option K) → List (Option V) → Option ℕ → Type 0
  IsLastFull ks vs r =
      MatchOption r (length (pairs_in ks vs) ≡ 0) (IsNthSlot (λ _. true) ks vs (length (pairs_in ks vs) - 1))

  module _ (eq : K → K → Bool) (n : ℕ) (ks : List (Option K)) (vs : List (Option V)) where
    -- the keys of the pairs after the first n slots that are equal to none before them
    abbrev pub fresh_after : List K
    fresh_after = fresh eq (pairs_in (take n ks) (take n vs)) (pairs_in (drop n ks) (drop n vs))

    -- the key of the pair in slot n, where it is equal to none before it
    abbrev pub fresh_at : List K
    fresh_at = fresh eq (pairs_in (take n ks) (take n vs)) (with_cell (value_in ks n) (value_in vs n) [])

-- the keys of the pairs in the slots from `passed` up to `end` that are equal to none before them
abbrev pub fresh_between : {K V : Type 0} → (K → K → Bool) → Columns K V → ℕ → ℕ → List K
fresh_between eq slots passed end = fresh_after eq passed (take end slots.keys) (take end slots.values)
