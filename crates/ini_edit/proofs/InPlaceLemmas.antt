-- Texts in their places: in two parts, joined, and with a part exchanged for another.
use Rattle.std.proofs.Common.{◌≡◌, ◌<◌, ◌+◌, ℕ, List, [], ◌∷◌, ◌++◌, length, take, refl, sym, ap, ◌∙◌, subst}
use Rattle.std.proofs.Common.{append_assoc, append-nil, drop, get_or}
use Rattle.std.proofs.lemmas.List.{drop_more, take_more}
use Rattle.ini_text.specs.Grammar.Positions.{last_or}
use Rattle.ini_text.specs.Laws.PieceLaws.{Agree, BeginAlike}
use Rattle.ini_text.specs.declared.option.ParseOption.{ParseOption}
use Rattle.ini_text.proofs.LawLemmas.LocalLemmas.{Agree-front, BeginAlike-after}
use Rattle.ini_text.proofs.LawLemmas.PieceLemmas.{last_or-append}
use Rattle.ini.specs.Texts.{Text}
use Rattle.ini_edit.specs.Inside.InPlace.{AreInPlace, IsLocal}
use Rattle.ini_edit.specs.Sources.{joined}

-- fronts that agree before a text and what follows it agree after the text
pub Agree-after : {o : ParseOption} {c d : ℕ} (s t : Text) → Agree o (c ∷ []) (d ∷ []) (s ++ t)
    → Agree o (last_or c s ∷ []) (last_or d s ∷ []) t
Agree-after [] t a = a
Agree-after (e ∷ s) t a = record { line = λ _. refl; column = λ _. refl; comment = λ _ _. refl }

module _ {A : Type 0} (source : A → Text) where
  pub joined-append : (xs ys : List A) → joined source (xs ++ ys) ≡ joined source xs ++ joined source ys
  joined-append [] ys = refl
  joined-append (x ∷ xs) ys = ap (λ t. source x ++ t) (joined-append xs ys)
      ∙ sym (append_assoc (source x) (joined source xs) (joined source ys))

  pub joined-more : (xs : List A) (i : ℕ) (x : A) → i < length xs → x ≡ get_or xs i x
      → joined source (take (i + 1) xs) ≡ joined source (take i xs) ++ source x
  joined-more xs i x within is =
      ap (joined source) (take_more xs i x within ∙ ap (λ y. take i xs ++ y ∷ []) (sym is))
      ∙ joined-append (take i xs) (x ∷ []) ∙ ap (λ t. joined source (take i xs) ++ t) (append-nil (source x))

  pub joined-drop : (xs : List A) (i : ℕ) (x : A) → i < length xs → x ≡ get_or xs i x
      → joined source (drop i xs) ≡ source x ++ joined source (drop (i + 1) xs)
  joined-drop xs i x within is =
      ap (joined source) (drop_more xs i x within ∙ ap (λ y. y ∷ drop (i + 1) xs) (sym is))

  -- what follows a list's first part
  pub joined-rest : (xs ys : List A) (r : Text)
      → joined source (xs ++ ys) ++ r ≡ joined source xs ++ (joined source ys ++ r)
  joined-rest xs ys r =
      ap (λ t. t ++ r) (joined-append xs ys) ∙ append_assoc (joined source xs) (joined source ys) r

  module _ {stands : ℕ → A → Text → Type 0} where
    pub in_place-split : {c : ℕ} {r : Text} (xs ys : List A) → AreInPlace source stands c (xs ++ ys) r
        → AreInPlace source stands c xs (joined source ys ++ r)
        × AreInPlace source stands (last_or c (joined source xs)) ys r
    in_place-split [] ys h = (AreInPlace.none, h)
    in_place-split {c} {r} (x ∷ xs) ys (AreInPlace.more s rest) =
        let more = in_place-split {c = last_or c (source x)} xs ys rest in (
          AreInPlace.more (subst (stands c x) (joined-rest xs ys r) s) more.0,
          subst (λ z. AreInPlace source stands z ys r) (sym (last_or-append c (source x)
              (joined source xs))) more.1,
        )

    pub in_place-join : {c : ℕ} {r : Text} (xs ys : List A)
        → AreInPlace source stands c xs (joined source ys ++ r)
        → AreInPlace source stands (last_or c (joined source xs)) ys r → AreInPlace source stands c
        (xs ++ ys) r
    in_place-join [] ys h g = g
    in_place-join {c} {r} (x ∷ xs) ys (AreInPlace.more s rest) g =
        AreInPlace.more (subst (stands c x) (sym (joined-rest xs ys r)) s)
        (in_place-join {c = last_or c (source x)} xs ys rest
        (subst (λ z. AreInPlace source stands z ys r) (last_or-append c (source x) (joined source xs)) g))

    module _ {o : ParseOption} (local : IsLocal source stands o) where
      -- after another character, and before another text
      pub in_place-like : {c d : ℕ} {r : Text} {xs : List A} → Agree o (c ∷ []) (d ∷ []) (joined source xs)
          → AreInPlace source stands c xs r → AreInPlace source stands d xs r
      in_place-like a AreInPlace.none = AreInPlace.none
      in_place-like {c} {d} a (AreInPlace.more {x = x} {xs = xs} s rest) =
          AreInPlace.more (local.front c d x _ (Agree-front (joined source xs) a) s)
          (in_place-like (Agree-after (source x) (joined source xs) a) rest)

      pub in_place-before : {c : ℕ} {r y : Text} {xs : List A} → BeginAlike r y
          → AreInPlace source stands c xs r → AreInPlace source stands c xs y
      in_place-before a AreInPlace.none = AreInPlace.none
      in_place-before {c} a (AreInPlace.more {x = x} {xs = xs} s rest) =
          AreInPlace.more (local.follows c x _ _ (BeginAlike-after (joined source xs) a) s)
          (in_place-before a rest)

      -- A part is exchanged for another that is in its place, where what stands before it stands there too,
      -- and what follows it agrees with both ends.
      pub in_place-put : {c : ℕ} {r : Text} (xs ys new zs : List A)
          → AreInPlace source stands c (xs ++ (ys ++ zs)) r
          → AreInPlace source stands c xs (joined source new ++ (joined source zs ++ r))
          → AreInPlace source stands (last_or c (joined source xs)) new (joined source zs ++ r)
          → Agree o (last_or (last_or c (joined source xs)) (joined source ys) ∷ [])
          (last_or (last_or c (joined source xs)) (joined source new) ∷ []) (joined source zs)
          → AreInPlace source stands c (xs ++ (new ++ zs)) r
      in_place-put {c} {r} xs ys new zs h front made ends =
          let rest = in_place-split ys zs (in_place-split xs (ys ++ zs) h).1 in
          in_place-join xs (new ++ zs)
          (subst (AreInPlace source stands c xs) (sym (joined-rest new zs r)) front)
          (in_place-join new zs made (in_place-like ends rest.1))

      -- the same, where what stands before sees the same first character
      pub in_place-exchanged : {c : ℕ} {r : Text} (xs ys new zs : List A)
          → AreInPlace source stands c (xs ++ (ys ++ zs)) r
          → AreInPlace source stands (last_or c (joined source xs)) new (joined source zs ++ r)
          → BeginAlike (joined source ys ++ (joined source zs ++ r)) (joined source new ++
          (joined source zs ++ r))
          → Agree o (last_or (last_or c (joined source xs)) (joined source ys) ∷ [])
          (last_or (last_or c (joined source xs)) (joined source new) ∷ []) (joined source zs)
          → AreInPlace source stands c (xs ++ (new ++ zs)) r
      in_place-exchanged {c} {r} xs ys new zs h made begins ends =
          let front = subst (AreInPlace source stands c xs) (joined-rest ys zs r)
          (in_place-split xs (ys ++ zs) h).0 in
          in_place-put xs ys new zs h (in_place-before begins front) made ends
