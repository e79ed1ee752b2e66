-- Lists of changes, turned.
use Rattle.std.proofs.Common.{◌≡◌, ◌∙◌, List, [], ◌∷◌, ◌++◌, ap, map, refl, reverse, sym}
use Rattle.std.proofs.lemmas.List.{map-append, reverse-append}

pub map_reverse : {A B : Type 0} (f : A → B) (l : List A) → map f (reverse l) ≡ reverse (map f l)
map_reverse f [] = refl
map_reverse f (x ∷ l) =
    ap (map f) (reverse-append (x ∷ []) l) ∙ map-append f (reverse l) (x ∷ [])
    ∙ ap (λ t. t ++ f x ∷ []) (map_reverse f l) ∙ sym (reverse-append (f x ∷ []) (map f l))
