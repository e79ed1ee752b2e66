-- What a stable sort of lists comes to, where keys are texts.
use Rattle.std.proofs.Common.{◌≡◌, ◌≢◌, ◌∙◌, ◌<◌, ◌+◌, ◌&&◌, ℕ, Bool, true, false, cond, not, is_lt}
use Rattle.std.proofs.Common.{List, [], ◌∷◌, ap, ap₂, arith, length, map, refl, subst, sym}
use Rattle.std.specs.Cmp.{IsStrictWeakOrder, nat_cmp_is}
use Rattle.std.specs.Cmp.Lexicographic.{slice_cmp}
use Rattle.std.specs.List.{filter}
use Rattle.std.specs.List.Sorted.{IsPermutation, IsSortedBy, IsStableBy, ties}
use Rattle.std.specs.FinMap.{nat_cmp-IsAntisymmetric}
use Rattle.std.specs.Ordering.{is_eq, nat_cmp, ordering_reverse, ordering_then}
use Rattle.std.specs.declared.cmp.Ordering.{Ordering}
use Rattle.std.specs.declared.cmp.Ordering.TheVariants.{Equal, Greater, Less}
use Rattle.std.proofs.lemmas.Cmp.{nat_list_cmp_total}
use Rattle.std.proofs.lemmas.List.{get_or-map, length-map}
use Rattle.std.proofs.lemmas.List.MinMax.{ranks_by}
use Rattle.std.proofs.lemmas.List.Sorted.{IsPermutation-map}
use Rattle.std.proofs.lemmas.Map.Text.{is_eq-slice_cmp}
use Rattle.ini.specs.Texts.{Text, is_text}
use Rattle.ini.proofs.KeepingLemmas.{texts_equal}
use Rattle.ini_edit.specs.Sorting.{IsSortedFrom}

-- the test by which elements with these texts stand
abbrev pub less : {X : Type 0} → (X → Text) → X → X → Bool
less key a b = is_lt (slice_cmp nat_cmp (key a) (key b))

pub less_ranks : {X : Type 0} (key : X → Text) → IsStrictWeakOrder (less key)
less_ranks key = ranks_by nat_list_cmp_total key

-- texts, of which the first characters are compared
pub differ_first : (c d : ℕ) (xs ys : Text) → c ≢ d → nat_cmp c d ≡ slice_cmp nat_cmp (c ∷ xs) (d ∷ ys)
differ_first c d xs ys other = by (nat_cmp c d) refl
  where
    by : (r : Ordering) → nat_cmp c d ≡ r → r ≡ ordering_then r (slice_cmp nat_cmp xs ys)
    by Less e = refl
    by Equal e = absurd (other (nat_cmp-IsAntisymmetric c d e))
    by Greater e = refl

pub same_first : (c d : ℕ) (xs ys : Text) → c ≡ d
    → slice_cmp nat_cmp (c ∷ xs) (d ∷ ys) ≡ slice_cmp nat_cmp xs ys
same_first c d xs ys e =
    ap (λ r. ordering_then r (slice_cmp nat_cmp xs ys)) (sym (nat_cmp_is c d Equal e))

-- filters
pub filter_same : {X : Type 0} (p q : X → Bool) → ((x : X) → p x ≡ q x) → (xs : List X)
    → filter p xs ≡ filter q xs
filter_same p q same [] = refl
filter_same p q same (x ∷ xs) = ap₂ (λ b l. cond b (x ∷ l) l) (same x) (filter_same p q same xs)

pub filter_mapped : {X Y : Type 0} (p : Y → Bool) (f : X → Y) (xs : List X)
    → filter p (map f xs) ≡ map f (filter (λ x. p (f x)) xs)
filter_mapped p f [] = refl
filter_mapped p f (x ∷ xs) =
    let rest = filter_mapped p f xs in
    elim (p (f x)) as (λ b. cond b (f x ∷ filter p (map f xs)) (filter p (map f xs))
    ≡ map f (cond b (x ∷ filter (λ z. p (f z)) xs) (filter (λ z. p (f z)) xs))) [
      | true ↦ ap (λ l. f x ∷ l) rest
      | false ↦ rest
    ]

filter_first : {X : Type 0} (p : X → Bool) (xs : List X) (y : X) (ys : List X) → filter p xs ≡ y ∷ ys
    → p y ≡ true
filter_first p [] y ys is = absurd (let no : [] ≡ y ∷ ys = is in cc)
filter_first p (x ∷ xs) y ys is =
    elim (p x) as (λ b. p x ≡ b → cond b (x ∷ filter p xs) (filter p xs) ≡ y ∷ ys → p y ≡ true) [
      | true ↦ λ h e. let one : x ≡ y = cc in subst (λ z. p z ≡ true) one h
      | false ↦ λ h e. filter_first p xs y ys e
    ] refl is

-- two tie where their texts are one
ties_by : (r s : Ordering) → s ≡ ordering_reverse r → (not (is_lt r) && not (is_lt s)) ≡ is_eq r
ties_by Less s e = refl
ties_by Equal s e = ap (λ t. not (is_lt t)) e
ties_by Greater s e = ap (λ t. not (is_lt t)) e

pub ties_same : {X : Type 0} (key : X → Text) (x y : X) → ties (less key) x y ≡ is_text (key x) (key y)
ties_same key x y =
    ties_by (slice_cmp nat_cmp (key x) (key y)) (slice_cmp nat_cmp (key y) (key x))
    (nat_list_cmp_total.antisymm (key y) (key x))
    ∙ is_eq-slice_cmp (key x) (key y)

module _ {X : Type 0} (key : X → Text) (xs ys : List X) (stable : IsStableBy (less key) xs ys) where
  -- those of a text keep their order
  each_like : (k : Text) (x : X) → is_text k (key x) ≡ true
      → filter (λ y. is_text k (key y)) ys ≡ filter (λ y. is_text k (key y)) xs
  each_like k x h =
      let same : (y : X) → is_text k (key y) ≡ ties (less key) x y =
      λ y. ap (λ t. is_text t (key y)) (texts_equal k (key x) h) ∙ sym (ties_same key x y) in
      filter_same (λ y. is_text k (key y)) (ties (less key) x) same ys ∙ stable x
      ∙ sym (filter_same (λ y. is_text k (key y)) (ties (less key) x) same xs)

  pub each_stays : (k : Text) → filter (λ y. is_text k (key y)) ys ≡ filter (λ y. is_text k (key y)) xs
  each_stays k = by (filter p ys) refl (filter p xs) refl
    where
      p : X → Bool
      p y = is_text k (key y)

      by : (zs : List X) → filter p ys ≡ zs → (bs : List X) → filter p xs ≡ bs → filter p ys ≡ filter p xs
      by [] e [] f = e ∙ sym f
      by [] e (b ∷ bs) f = each_like k b (filter_first p xs b bs f)
      by (z ∷ zs) e bs f = each_like k z (filter_first p ys z zs e)

-- a list of parts stands as the list does
rises_mapped : {X Y : Type 0} (f : X → Y) (lt : Y → Y → Bool) (xs : List X)
    → IsSortedBy (λ a b. lt (f a) (f b)) xs → IsSortedBy lt (map f xs)
rises_mapped f lt [] up = λ k d low within. absurd (omega (arith, within))
rises_mapped {X} f lt (x ∷ xs) up = λ k d low within.
    let all : List X = x ∷ xs in
    let more : k + 1 < length all = subst (λ n. k + 1 < n) (length-map all f) within in
    let one = get_or-map f all k x d (omega (arith, more)) in
    let two = get_or-map f all (k + 1) x d more in
    ap₂ lt two one ∙ up k x low more

-- what a stable sort of elements comes to, of which these are parts
pub sorted_parts : {X Y : Type 0} (f : X → Y) (key : Y → Text) (xs ys : List X) → IsPermutation xs ys
    → IsSortedBy (less (λ x. key (f x))) ys → IsStableBy (less (λ x. key (f x))) xs ys
    → IsSortedFrom key (map f xs) (map f ys)
sorted_parts f key xs ys moved up stable = record {
  moved = IsPermutation-map f xs ys moved;
  rises = rises_mapped f (less key) ys up;
  each = λ k. filter_mapped (λ y. is_text k (key y)) f ys
      ∙ ap (map f) (each_stays (λ x. key (f x)) xs ys stable k)
      ∙ sym (filter_mapped (λ y. is_text k (key y)) f xs);
}
