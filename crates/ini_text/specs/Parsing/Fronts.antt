-- The front of a text before a rest of it.
use Rattle.std.specs.Prelude.{◌≡◌, ℕ, ◌-◌, List, ◌++◌, length, take}

abbrev pub front_of : List ℕ → List ℕ → List ℕ
front_of text rest = take (length text - length rest) text

abbrev pub IsRest : List ℕ → List ℕ → Type 0
IsRest text rest = front_of text rest ++ rest ≡ text
