-- The first of a list that fits: found on a walk, changed, and seen as an entry.
use Rattle.std.proofs.Common.{◌≡◌, ◌∙◌, ◌<◌, ◌≤◌, ◌+◌, ℕ, Bool, true, false, cond, List, [], ◌∷◌, ◌++◌}
use Rattle.std.proofs.Common.{length, map, None, Some, get_or, drop, take, ap, sym, refl, subst, append_assoc}
use Rattle.std.proofs.Common.{arith, suc}
use Rattle.std.proofs.lemmas.Bool.{cond-true, cond-false}
use Rattle.std.proofs.lemmas.List.{drop_all, drop_more, get_or_default, set_split, take_more}
use Rattle.std.specs.Map.{lookup}
use Rattle.std.specs.Option.{option_map}
use Rattle.ini.specs.Edits.{first_renamed}
use Rattle.ini_edit.specs.Inside.SourceSteps.{IsFirstAt}
use Rattle.ini_edit.specs.SourceEdits.{first_changed, first_fitting}

-- the value of the first entry that fits, changed
abbrev pub entry_changed : {K V : Type 0} → (K → Bool) → (V → V) → List (K × V) → List (K × V)
entry_changed fits h [] = []
entry_changed fits h (e ∷ es) = cond (fits e.0) ((e.0, h e.1) ∷ es) (e ∷ entry_changed fits h es)

-- what is left of a list from an index on, where this is read there
pub rest_here : {A : Type 0} (xs : List A) (i : ℕ) (x : A) → i < length xs → x ≡ get_or xs i x
    → drop i xs ≡ x ∷ drop (i + 1) xs
rest_here xs i x within is = drop_more xs i x within ∙ ap (λ y. y ∷ drop (i + 1) xs) (sym is)

module _ {A : Type 0} (test : A → Bool) where
  fitting-append : (xs ys : List A) → first_fitting test xs ≡ None
      → first_fitting test (xs ++ ys) ≡ first_fitting test ys
  fitting-append [] ys none = refl
  fitting-append (x ∷ xs) ys none = at (test x) none (fitting-append xs ys)
    where
      at : (b : Bool) → cond b (Some x) (first_fitting test xs) ≡ None
          → (first_fitting test xs ≡ None → first_fitting test (xs ++ ys) ≡ first_fitting test ys)
          → cond b (Some x) (first_fitting test (xs ++ ys)) ≡ first_fitting test ys
      at true none more = absurd (let no : Some x ≡ None = none in cc)
      at false none more = more none

  -- up to the index of the list none fitted
  pub record PassedTo (xs : List A) (i : ℕ) : Type 0 where
    pub fitting : first_fitting test xs ≡ first_fitting test (drop i xs)
    pub none_before : first_fitting test (take i xs) ≡ None
    pub changed : (f : A → A) → first_changed test f xs ≡ take i xs ++ first_changed test f (drop i xs)

  pub passed_start : (xs : List A) → PassedTo xs 0
  passed_start xs = record { fitting = refl; none_before = refl; changed = λ f. refl }

  module _ {xs : List A} {i : ℕ} (passed : PassedTo xs i) where
    pub passed_end : length xs ≤ i → first_fitting test xs ≡ None
    passed_end h = passed.fitting ∙ ap (first_fitting test) (drop_all i xs h)

    module _ {x : A} (within : i < length xs) (is : x ≡ get_or xs i x) where
      here : drop i xs ≡ x ∷ drop (i + 1) xs
      here = rest_here xs i x within is

      front : take (i + 1) xs ≡ take i xs ++ x ∷ []
      front = take_more xs i x within ∙ ap (λ y. take i xs ++ y ∷ []) (sym is)

      pub passed_more : test x ≡ false → PassedTo xs (i + 1)
      passed_more apart = record {
        fitting = passed.fitting ∙ ap (first_fitting test) here ∙ cond-false (test x) _ _ apart;
        none_before = ap (first_fitting test) front ∙ fitting-append (take i xs) (x ∷ []) passed.none_before
            ∙ cond-false (test x) _ _ apart;
        changed = λ f. passed.changed f ∙ ap (λ l. take i xs ++ first_changed test f l) here
            ∙ ap (λ l. take i xs ++ l) (cond-false (test x) _ _ apart)
            ∙ sym (append_assoc (take i xs) (x ∷ []) (first_changed test f (drop (i + 1) xs)))
            ∙ ap (λ l. l ++ first_changed test f (drop (i + 1) xs)) (sym front);
      }

      pub passed_found : test x ≡ true → IsFirstAt test xs i
      passed_found fits = record {
        found = x;
        fitting = passed.fitting ∙ ap (first_fitting test) here ∙ cond-true (test x) _ _ fits;
        within = within;
        is = is;
        none_before = passed.none_before;
        changed = λ f. set_split xs i (f x) within
            ∙ (let next : suc i ≡ i + 1 = omega arith in ap (λ n. take i xs ++ f x ∷ drop n xs) next)
            ∙ ap (λ l. take i xs ++ l) (sym (cond-true (test x) _ _ fits) ∙ sym (ap
            (first_changed test f) here))
            ∙ sym (passed.changed f);
      }

  -- what is read at such an index
  pub stands_there : {xs : List A} {i : ℕ} (at : IsFirstAt test xs i) {y : A} → y ≡ get_or xs i y
      → at.found ≡ y
  stands_there {xs} {i} at {y} is = at.is ∙ get_or_default xs i at.found y at.within ∙ sym is

  -- where the first that fits stands
  pub record IsFirstFitting (xs : List A) (x : A) : Type 0 where
    pub fits : test x ≡ true
    pub before : List A
    pub rest : List A
    pub whole : xs ≡ before ++ x ∷ rest
    pub changed : (f : A → A) → first_changed test f xs ≡ before ++ f x ∷ rest

  pub first_stands : (xs : List A) (x : A) → first_fitting test xs ≡ Some x → IsFirstFitting xs x
  first_stands [] x h = absurd (let no : None ≡ Some x = h in cc)
  first_stands (y ∷ ys) x h = at (test y) refl h (first_stands ys x)
    where
      at : (b : Bool) → test y ≡ b → cond b (Some y) (first_fitting test ys) ≡ Some x
          → (first_fitting test ys ≡ Some x → IsFirstFitting ys x) → IsFirstFitting (y ∷ ys) x
      at true is h more =
          let same : y ≡ x = cc in
          record {
            fits = subst (λ z. test z ≡ true) same is;
            before = [];
            rest = ys;
            whole = ap (λ z. z ∷ ys) same;
            changed = λ f. cond-true (test y) _ _ is ∙ ap (λ z. f z ∷ ys) same;
          }
      at false is h more =
          let m = more h in
          record {
            fits = m.fits;
            before = y ∷ m.before;
            rest = m.rest;
            whole = ap (λ l. y ∷ l) m.whole;
            changed = λ f. cond-false (test y) _ _ is ∙ ap (λ l. y ∷ l) (m.changed f);
          }

  -- seen as entries of keys that fit
  module _ {K V : Type 0} (fits : K → Bool) (view : A → K × V) (same : (x : A) → test x ≡ fits
      (view x).0) where
    pub lookup_first : (xs : List A)
        → lookup fits (map view xs) ≡ option_map (λ x. (view x).1) (first_fitting test xs)
    lookup_first [] = refl
    lookup_first (y ∷ ys) =
        ap (λ b. cond b (Some (view y).1) (lookup fits (map view ys))) (sym (same y))
        ∙ ap (λ l. cond (test y) (Some (view y).1) l) (lookup_first ys) ∙ at (test y)
      where
        at : (b : Bool) → cond b (Some (view y).1) (option_map (λ x. (view x).1) (first_fitting test ys))
            ≡ option_map (λ x. (view x).1) (cond b (Some y) (first_fitting test ys))
        at true = refl
        at false = refl

    pub looked_up : {xs : List A} {i : ℕ} (at : IsFirstAt test xs i) {y : A} → y ≡ get_or xs i y
        → lookup fits (map view xs) ≡ Some (view y).1
    looked_up {xs} at is = lookup_first xs ∙ ap (option_map (λ x. (view x).1)) at.fitting
        ∙ ap (λ x. Some (view x).1) (stands_there at is)

    pub looked_none : (xs : List A) → first_fitting test xs ≡ None → lookup fits (map view xs) ≡ None
    looked_none xs none = lookup_first xs ∙ ap (option_map (λ x. (view x).1)) none

    pub changed_first : (f : A → A) (h : V → V) → ((x : A) → view (f x) ≡ ((view x).0, h (view x).1))
        → (xs : List A) → map view (first_changed test f xs) ≡ entry_changed fits h (map view xs)
    changed_first f h is [] = refl
    changed_first f h is (y ∷ ys) =
        at (test y)
        ∙ ap (λ l. cond (test y) (((view y).0, h (view y).1) ∷ map view ys) (view y ∷ l))
        (changed_first f h is ys)
        ∙ ap (λ b. cond b (((view y).0, h (view y).1) ∷ map view ys) (view y ∷ entry_changed fits h
        (map view ys)))
        (same y)
      where
        at : (b : Bool) → map view (cond b (f y ∷ ys) (y ∷ first_changed test f ys))
            ≡ cond b (((view y).0, h (view y).1) ∷ map view ys) (view y ∷ map view (first_changed test f ys))
        at true = ap (λ e. e ∷ map view ys) (is y)
        at false = refl

    pub renamed_first : (f : A → A) (other : K) → ((x : A) → view (f x) ≡ (other, (view x).1))
        → (xs : List A) → map view (first_changed test f xs) ≡ first_renamed fits other (map view xs)
    renamed_first f other is [] = refl
    renamed_first f other is (y ∷ ys) =
        at (test y)
        ∙ ap (λ l. cond (test y) ((other, (view y).1) ∷ map view ys) (view y ∷ l))
        (renamed_first f other is ys)
        ∙ ap (λ b. cond b ((other, (view y).1) ∷ map view ys) (view y ∷ first_renamed fits other
        (map view ys)))
        (same y)
      where
        at : (b : Bool) → map view (cond b (f y ∷ ys) (y ∷ first_changed test f ys))
            ≡ cond b ((other, (view y).1) ∷ map view ys) (view y ∷ map view (first_changed test f ys))
        at true = ap (λ e. e ∷ map view ys) (is y)
        at false = refl
