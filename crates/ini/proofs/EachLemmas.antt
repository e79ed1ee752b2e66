-- What holds of each element of a list, one after another.
use Rattle.std.proofs.Common.{zero, suc, List, [], ◌∷◌, All, arith}

pub data Each {X : Type 0} (P : X → Type 0) : List X → Type 0 where
  none : Each P []
  more : {x : X} {xs : List X} → P x → Each P xs → Each P (x ∷ xs)

pub each_of : {X : Type 0} (P : X → Type 0) (xs : List X) → All P xs → Each P xs
each_of P [] all = Each.none
each_of P (x ∷ xs) all =
    Each.more (all zero x (omega arith)) (each_of P xs (λ k d l. all (suc k) d (omega arith)))
