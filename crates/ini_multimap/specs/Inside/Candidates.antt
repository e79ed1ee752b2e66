-- The candidates for a code: where the slots are chained those that have it, and else each slot. A walk goes
-- from one to the next. Private functions say it.
use Rattle.std.specs.Prelude.{◌≡◌, ◌≢◌, ℕ, suc, ◌+◌, ◌-◌, ◌<◌, ◌≤◌, Bool, List, [], length, take, drop}
use Rattle.std.specs.Prelude.{Option, Some, None, MatchOption, IfSome}
use Rattle.std.specs.Bool.{OnTrue}
use Rattle.ini_multimap.specs.Pairs.{values_at}
use Rattle.ini_multimap.specs.Slots.{pairs_in}
use Rattle.ini_multimap.specs.Inside.Fits.{code_at, fits_before}

module _ (chained : Bool) {K : Type 0} (code : K → ℕ) (c : ℕ) (ks : List (Option K)) where
  -- slot s is a candidate for the code c
  abbrev pub IsCandidate : ℕ → Type 0
  IsCandidate s = (s < length ks) × OnTrue chained (code_at code ks s ≡ Some c)

  -- r is the first candidate from slot i on
  abbrev pub IsAhead : ℕ → Option ℕ → Type 0
  IsAhead i r = MatchOption r ((k : ℕ) → i ≤ k → k < length ks → code_at code ks k ≢ Some c)
      (λ t. (i ≤ t) × IsCandidate t × ((k : ℕ) → i ≤ k → k < t → code_at code ks k ≢ Some c))

  -- r is the last one before slot i
  abbrev pub IsAfter : ℕ → Option ℕ → Type 0
  IsAfter i r = MatchOption r ((k : ℕ) → k < i → code_at code ks k ≢ Some c)
      (λ t. (t < i) × IsCandidate t × ((k : ℕ) → t < k → k < i → code_at code ks k ≢ Some c))

  -- a walk over the values of the code has the candidates from `first` to `last` left
  abbrev pub AreBetween : Option ℕ → Option ℕ → Type 0
  AreBetween first last = IfSome first IsCandidate × IfSome last IsCandidate

  module _ {V : Type 0} (test : K → Bool) (vs : List (Option V)) where
    -- a walk from the front stands at the candidate r: `left` and the pairs that fit and that it has
    -- passed are n
    abbrev pub IsReached : ℕ → ℕ → Option ℕ → Type 0
    IsReached n left r = MatchOption r (left + fits_before test ks vs (length ks) ≡ n)
        (λ s. IsCandidate s × (left + fits_before test ks vs s ≡ n))

    -- a walk back from `at` stands at the candidate r: no pair that fits is from there up to `at`
    abbrev pub IsReachedBack : ℕ → Option ℕ → Type 0
    IsReachedBack at r = MatchOption r (fits_before test ks vs at ≡ 0)
        (λ s. IsCandidate s × (s < at) × (fits_before test ks vs at ≡ fits_before test ks vs (suc s)))

-- how far a walk has to go from here
abbrev pub walk_left : ℕ → Option ℕ → ℕ
walk_left n None = 0
walk_left n (Some s) = suc (n - s)

-- how far a walk back has to go
abbrev pub back_left : Option ℕ → ℕ
back_left None = 0
back_left (Some s) = suc s

-- the values of the pairs that fit in the slots from `first` to `last`
abbrev pub values_from : {K V : Type 0} → (K → Bool) → List (Option K) → List (Option V) → Option ℕ
    → Option ℕ → List V
values_from test ks vs None last = []
values_from test ks vs (Some s) None = []
values_from test ks vs (Some s) (Some e) =
    drop (fits_before test ks vs s) (take (fits_before test ks vs (suc e)) (values_at test (pairs_in ks vs)))
