-- Bytes at which a run ends.
use Rattle.std.specs.Prelude.{◌≡◌, ◌≤◌, ◌<◌, ◌+◌, ℕ, Bool, ◌||◌, ◌==◌, List, length, map, take}
use Rattle.std.specs.Simd.Lanes.{mask_l}

-- the byte is one of three
abbrev pub is_one_of : ℕ → ℕ → ℕ → ℕ → Bool
is_one_of a b c byte = byte == a || byte == b || byte == c

-- and one of five
abbrev pub is_one_of_five : ℕ → ℕ → ℕ → ℕ → ℕ → ℕ → Bool
is_one_of_five a b c d e byte = is_one_of a b c byte || byte == d || byte == e

-- the bits tell which of the first bytes, at most sixteen, are marked; so many more bytes follow these
pub record Tells (is_marked : ℕ → Bool) (more bits : ℕ) (bytes : List ℕ) : Type 0 where
  pub lanes : ℕ
  pub few : lanes ≤ 16
  pub within : 0 < lanes → lanes + more ≤ length bytes
  pub are : bits ≡ mask_l (map is_marked (take lanes bytes))
