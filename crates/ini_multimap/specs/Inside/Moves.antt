-- What the closing of holes keeps of the slots, and chains that are made anew from the front. Private
-- functions say it.
use Rattle.std.specs.Prelude.{◌≡◌, ℕ, ◌<◌, ◌≤◌, if◌then◌else◌, nat_lt, List, length, Option, Some, None}
use Rattle.std.specs.Prelude.{IsSome, unwrap_or}
use Rattle.ini_multimap.specs.Inside.Fits.{code_at, value_in}
use Rattle.ini_multimap.specs.Inside.Chains.{AreSet, first_of}

-- each key of ks stands in ls, no later than it stood, and no other key does
pub record MovesDown {K : Type 0} (ks ls : List (Option K)) : Type 0 where
  pub down : (i : ℕ) (k : K) → value_in ks i ≡ Some k → (j : ℕ) × (j ≤ i) × (value_in ls j ≡ Some k)
  pub back : (j : ℕ) (k : K) → value_in ls j ≡ Some k → (i : ℕ) × (value_in ks i ≡ Some k)
  pub short : length ls ≤ length ks

-- each code of the first n slots has ends, and the first end of a code is no earlier than a key of it
pub record IsStale {K : Type 0} (n : ℕ) (code : K → ℕ) (ks : List (Option K))
    (ends : ℕ → Option (ℕ × ℕ)) : Type 0 where
  pub there : (i c : ℕ) → i < n → code_at code ks i ≡ Some c → IsSome (ends c)
  pub early : (c : ℕ) (e : ℕ × ℕ) → ends c ≡ Some e → (i : ℕ) × (i ≤ e.0) × (code_at code ks i ≡ Some c)

-- the codes of the first n slots
abbrev pub upto : ℕ → (ℕ → Option ℕ) → ℕ → Option ℕ
upto n at k = if nat_lt k n then at k else None

-- ends that begin before n, and else none
abbrev pub if_before : ℕ → Option (ℕ × ℕ) → Option (ℕ × ℕ)
if_before n None = None
if_before n (Some e) = if nat_lt e.0 n then Some e else None

abbrev pub known : ℕ → (ℕ → Option (ℕ × ℕ)) → ℕ → Option (ℕ × ℕ)
known n ends c = if_before n (ends c)

-- n is the last of the code c, and the first where no place before n has it
abbrev pub IsPutAnew : (old new : ℕ → Option (ℕ × ℕ)) → ℕ → ℕ → Type 0
IsPutAnew old new c n = AreSet old new c (Some (unwrap_or (first_of (known n old) c) n, n))
