-- A list parted at one of its items.
use Rattle.std.proofs.Common.{◌≡◌, ◌<◌, ◌∙◌, ℕ, suc, List, ◌∷◌, ◌++◌, ap, sym, get_or, length, take, drop}
use Rattle.std.proofs.Common.{drop-cons}
use Rattle.std.proofs.lemmas.List.{take-append-drop}

pub split_at : {X : Type 0} (xs : List X) (i : ℕ) (x : X) → i < length xs → x ≡ get_or xs i x
    → xs ≡ take i xs ++ x ∷ drop (suc i) xs
split_at xs i x below is =
    sym (take-append-drop i xs)
    ∙ ap (λ ys. take i xs ++ ys) (drop-cons xs i x below ∙ ap (λ y. y ∷ drop (suc i) xs) (sym is))
