-- The tags of the first slots, a byte of the code of each. Private functions say it.
use Rattle.std.specs.Prelude.{◌≡◌, ℕ, ◌<◌, ◌%◌, List, length, get_or, Option, Some}
use Rattle.ini_multimap.specs.Inside.Fits.{code_at}

-- the tag of a code
abbrev pub tag_of : ℕ → ℕ
tag_of code = code % 256

-- a slot that has a tag and a key has the tag of the key's code
abbrev pub AreTagged : {K : Type 0} → (K → ℕ) → List (Option K) → List ℕ → Type 0
AreTagged code ks tags = (s c : ℕ) → s < length tags → code_at code ks s ≡ Some c → get_or tags s 0 ≡ tag_of c
