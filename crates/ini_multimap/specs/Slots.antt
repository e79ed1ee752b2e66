-- A multimap as slots: a slot holds a pair or a hole.
use Rattle.std.specs.Prelude.{ℕ, Bool, List, [], ◌∷◌, Option, Some, None, slice_set}

module _ {K V : Type 0} where
  -- ps, and before them what a slot holds
  abbrev pub with_cell : Option K → Option V → List (K × V) → List (K × V)
  with_cell None v ps = ps
  with_cell (Some k) None ps = ps
  with_cell (Some k) (Some v) ps = (k, v) ∷ ps

  -- the pairs in the slots, in order
  abbrev pub pairs_in : List (Option K) → List (Option V) → List (K × V)
  pairs_in [] vs = []
  pairs_in (k ∷ ks) [] = []
  pairs_in (k ∷ ks) (v ∷ vs) = with_cell k v (pairs_in ks vs)

-- the slots as a multimap knows them
pub record Columns (K V : Type 0) : Type 0 where
  pub keys : List (Option K)
  pub values : List (Option V)
  pub is_chained : Bool

-- their pairs
abbrev pub pairs_of : {K V : Type 0} → Columns K V → List (K × V)
pairs_of slots = pairs_in slots.keys slots.values

-- with v as the value in slot s
abbrev pub with_value : {K V : Type 0} → Columns K V → ℕ → V → Columns K V
with_value slots s v = record slots { values = slice_set slots.values s (Some v) }
