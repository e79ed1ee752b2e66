-- Places in the lists of a text in pieces: where the search for one ends, what an edit of the list at its
-- index makes, and the last of the pairs before a place.
use Rattle.std.proofs.Common.{◌≡◌, ◌∙◌, ◌<◌, ◌≤◌, ◌+◌, ◌-◌, ◌==◌, ℕ, Bool, true, false, cond, List, [], ◌∷◌}
use Rattle.std.proofs.Common.{◌++◌, length, None, Option, Some, get_or, drop, set, take, ap, append-nil}
use Rattle.std.proofs.Common.{append_assoc, arith, refl, suc, sym}
use Rattle.std.proofs.lemmas.Bool.{cond-false, cond-true, eq-eqb, ne_eqb}
use Rattle.std.proofs.lemmas.List.{drop_all, drop_at, get_or_at, length-append, length-take-le, length_push}
use Rattle.std.proofs.lemmas.List.{set_at, take-append-drop, take_at, take_more}
use Rattle.std.specs.List.{insert, remove}
use Rattle.std.specs.Option.{option_map}
use Rattle.ini_text.specs.declared.option.ParseOption.{ParseOption}
use Rattle.ini.specs.Texts.{Text}
use Rattle.ini_edit.specs.Inside.SourceEnds.{IsFound, IsPlaceAt, end_put, trailing_of, with_new_end}
use Rattle.ini_edit.specs.Inside.SourceSteps.{IsFirstAt}
use Rattle.ini_edit.specs.SourceEdits.{first_fitting, with_pairs}
use Rattle.ini_edit.specs.SourceEditsDelete.{ends_in_value, rest_put, with_rest}
use Rattle.ini_edit.specs.SourcePlaces.{Place, exchanged, gap_of, gap_put, last_changed, last_word}
use Rattle.ini_edit.specs.SourcePlaces.{nth_place, one_on, with_last_word, with_raw_key, with_raw_value}
use Rattle.ini_edit.specs.Sources.{PairPiece, SectionPiece, has_separator, is_multiline}
use Rattle.ini_edit.specs.declared.source.pair.ends.NewEnd.{NewEnd}
use Rattle.ini_edit.proofs.FirstLemmas.{first_stands, rest_here}

-- a place's list at its index
module _ {A : Type 0} {xs : List A} {p : Place A} {i : ℕ} (at : IsPlaceAt xs p i) where
  pub place_take : take i xs ≡ p.before
  place_take = ap (take i) at.whole ∙ take_at p.before (p.here ∷ p.after) i (sym at.index)

  pub place_drop : drop i xs ≡ p.here ∷ p.after
  place_drop = ap (drop i) at.whole ∙ drop_at p.before (p.here ∷ p.after) i (sym at.index)

  pub place_drop_more : drop (i + 1) xs ≡ p.after
  place_drop_more =
      ap (drop (i + 1)) (at.whole ∙ sym (append_assoc p.before (p.here ∷ []) p.after))
      ∙ drop_at (p.before ++ p.here ∷ []) p.after (i + 1)
      (length_push p.before p.here ∙ ap (λ n. n + 1) (sym at.index))

  pub place_take_more : take (i + 1) xs ≡ p.before ++ p.here ∷ []
  place_take_more =
      ap (take (i + 1)) (at.whole ∙ sym (append_assoc p.before (p.here ∷ []) p.after))
      ∙ take_at (p.before ++ p.here ∷ []) p.after (i + 1)
      (length_push p.before p.here ∙ ap (λ n. n + 1) (sym at.index))

  pub place_within : i < length xs
  place_within =
      omega (arith, at.index, ap length at.whole, length-append p.before (p.here ∷ p.after))

  pub place_here : (d : A) → get_or xs i d ≡ p.here
  place_here d = ap (λ l. get_or l i d) at.whole ∙ get_or_at p.before p.here p.after d i (sym at.index)

  -- what is read there, as an index gives it
  pub place_read : {x : A} → x ≡ get_or xs i x → x ≡ p.here
  place_read {x} is = is ∙ place_here x

  pub place_same : exchanged p (p.here ∷ []) ≡ xs
  place_same = sym at.whole

  pub place_set : (y : A) → set xs i y ≡ exchanged p (y ∷ [])
  place_set y = ap (λ l. set l i y) at.whole ∙ set_at p.before p.here p.after y i (sym at.index)

  pub place_insert : (y : A) → insert xs i y ≡ exchanged p (y ∷ p.here ∷ [])
  place_insert y = ap (λ l. l ++ y ∷ drop i xs) place_take ∙ ap (λ l. p.before ++ y ∷ l) place_drop

  pub place_insert_after : (y : A) → insert xs (i + 1) y ≡ exchanged p (p.here ∷ y ∷ [])
  place_insert_after y =
      ap (λ l. l ++ y ∷ drop (i + 1) xs) place_take_more
      ∙ ap (λ l. (p.before ++ p.here ∷ []) ++ y ∷ l) place_drop_more
      ∙ append_assoc p.before (p.here ∷ []) (y ∷ p.after)

  pub place_remove : remove xs i ≡ exchanged p []
  place_remove =
      let next : suc i ≡ i + 1 = omega arith in
      ap (λ l. l ++ drop (suc i) xs) place_take
      ∙ ap (λ n. p.before ++ drop n xs) next ∙ ap (λ l. p.before ++ l) place_drop_more

  -- what stands before stays there once others stand in its stead
  pub place_take_put : (ys : List A) → take i (exchanged p ys) ≡ p.before
  place_take_put ys = take_at p.before (ys ++ p.after) i (sym at.index)

  pub place_drop_put : (ys : List A) → drop i (exchanged p ys) ≡ ys ++ p.after
  place_drop_put ys = drop_at p.before (ys ++ p.after) i (sym at.index)

  -- one list has one place at an index
  pub same_place : {q : Place A} → IsPlaceAt xs q i → p ≡ q
  same_place {q} other =
      let before : p.before ≡ q.before =
      sym place_take ∙ ap (take i) other.whole ∙ take_at q.before (q.here ∷ q.after) i (sym other.index) in
      let rest : p.here ∷ p.after ≡ q.here ∷ q.after =
      sym place_drop ∙ ap (drop i) other.whole ∙ drop_at q.before (q.here ∷ q.after) i (sym other.index) in
      let here : p.here ≡ q.here = cc in
      let after : p.after ≡ q.after = cc in
      ap (λ l. record { before = l; here = p.here; after = p.after }) before
      ∙ ap (λ x. record { before = q.before; here = x; after = p.after }) here
      ∙ ap (λ l. record { before = q.before; here = q.here; after = l }) after

-- the place at an index of a list
abbrev pub place_at : {A : Type 0} → List A → ℕ → A → Place A
place_at xs i x = record { before = take i xs; here = x; after = drop (i + 1) xs }

pub index_place : {A : Type 0} (xs : List A) (i : ℕ) (x : A) → i < length xs → x ≡ get_or xs i x
    → IsPlaceAt xs (place_at xs i x) i
index_place xs i x within is = record {
  whole = sym (take-append-drop i xs) ∙ ap (λ l. take i xs ++ l) (rest_here xs i x within is);
  index = sym (length-take-le i xs (omega arith));
}

-- the search for the one that fits before which so many others fit
module _ {A : Type 0} (test : A → Bool) where
  pub nth_apart : (n : ℕ) (x : A) (xs : List A) → test x ≡ false
      → nth_place test n (x ∷ xs) ≡ option_map (one_on x) (nth_place test n xs)
  nth_apart n x xs apart = cond-false (test x) _ _ apart

  pub nth_later : (n : ℕ) (x : A) (xs : List A) → test x ≡ true → (n == 0) ≡ false
      → nth_place test n (x ∷ xs) ≡ option_map (one_on x) (nth_place test (n - 1) xs)
  nth_later n x xs fits more = cond-true (test x) _ _ fits ∙ cond-false (n == 0) _ _ more

  pub nth_here : (n : ℕ) (x : A) (xs : List A) → test x ≡ true → (n == 0) ≡ true
      → nth_place test n (x ∷ xs) ≡ Some (record { before = []; here = x; after = xs })
  nth_here n x xs fits none = cond-true (test x) _ _ fits ∙ cond-true (n == 0) _ _ none

  -- a place after more before it
  abbrev pub put_before : List A → Place A → Place A
  put_before front p = record { before = front ++ p.before; here = p.here; after = p.after }

  put_nothing : (o : Option (Place A)) → o ≡ option_map (put_before []) o
  put_nothing None = refl
  put_nothing (Some p) = refl

  put_one : (front : List A) (x : A) (o : Option (Place A))
      → option_map (put_before front) (option_map (one_on x) o) ≡ option_map (put_before (front ++ x ∷ [])) o
  put_one front x None = refl
  put_one front x (Some p) =
      ap (λ l. Some (record { before = l; here = p.here; after = p.after })) (sym
      (append_assoc front (x ∷ []) p.before))

  -- up to the index as many fitted as are no more left
  pub record PassedNth (n : ℕ) (xs : List A) (left i : ℕ) : Type 0 where
    pub place : nth_place test n xs ≡ option_map (put_before (take i xs)) (nth_place test left (drop i xs))

  pub nth_start : (n : ℕ) (xs : List A) → PassedNth n xs n 0
  nth_start n xs = record { place = put_nothing (nth_place test n xs) }

  module _ {n : ℕ} {xs : List A} {left i : ℕ} (passed : PassedNth n xs left i) where
    pub nth_end : length xs ≤ i → nth_place test n xs ≡ None
    nth_end h = passed.place
        ∙ ap (λ l. option_map (put_before (take i xs)) (nth_place test left l)) (drop_all i xs h)

    module _ {x : A} (within : i < length xs) (is : x ≡ get_or xs i x) where
      -- the rest from the index on
      at_rest : nth_place test n xs
          ≡ option_map (put_before (take i xs)) (nth_place test left (x ∷ drop (i + 1) xs))
      at_rest = passed.place
          ∙ ap (λ l. option_map (put_before (take i xs)) (nth_place test left l)) (rest_here xs i x within is)

      gone_on : {m : ℕ}
          → nth_place test left (x ∷ drop (i + 1) xs)
          ≡ option_map (one_on x) (nth_place test m (drop (i + 1) xs))
          → PassedNth n xs m (i + 1)
      gone_on {m} one =
          let found = nth_place test m (drop (i + 1) xs) in
          record {
            place = at_rest ∙ ap (option_map (put_before (take i xs))) one ∙ put_one (take i xs) x found
                ∙ ap (λ l. option_map (put_before l) found)
                (ap (λ y. take i xs ++ y ∷ []) is ∙ sym (take_more xs i x within));
          }

      pub nth_more : test x ≡ false → PassedNth n xs left (i + 1)
      nth_more apart = gone_on (nth_apart left x (drop (i + 1) xs) apart)

      pub nth_less : test x ≡ true → (left ≡ 0 → ⊥) → PassedNth n xs (left - 1) (i + 1)
      nth_less fits more = gone_on (nth_later left x (drop (i + 1) xs) fits (ne_eqb left 0 more))

      pub nth_found : test x ≡ true → left ≡ 0 → IsFound xs (nth_place test n xs) i
      nth_found fits none = record {
        place = place_at xs i x;
        is = at_rest ∙ ap (option_map (put_before (take i xs)))
            (nth_here left x (drop (i + 1) xs) fits (eq-eqb left 0 none))
            ∙ ap (λ l. Some (record { before = l; here = x; after = drop (i + 1) xs }))
            (append-nil (take i xs));
        at = index_place xs i x within is;
      }

  -- the first that fits
  first_place : (xs : List A) (x : A) (rest : List A) → first_fitting test xs ≡ None → test x ≡ true
      → nth_place test 0 (xs ++ x ∷ rest) ≡ Some (record { before = xs; here = x; after = rest })
  first_place [] x rest none fits = nth_here 0 x rest fits refl
  first_place (y ∷ ys) x rest none fits =
      at (test y) refl none (λ h. first_place ys x rest h fits)
    where
      at : (b : Bool) → test y ≡ b → cond b (Some y) (first_fitting test ys) ≡ None
          → (first_fitting test ys ≡ None
          → nth_place test 0 (ys ++ x ∷ rest) ≡ Some (record { before = ys; here = x; after = rest }))
          → nth_place test 0 (y ∷ (ys ++ x ∷ rest))
          ≡ Some (record { before = y ∷ ys; here = x; after = rest })
      at true is h more = absurd (let no : Some y ≡ None = h in cc)
      at false is h more = nth_apart 0 y (ys ++ x ∷ rest) is ∙ ap (option_map (one_on y)) (more h)

  pub first_found : {xs : List A} {i : ℕ} → IsFirstAt test xs i → IsFound xs (nth_place test 0 xs) i
  first_found {xs} {i} first =
      let at = index_place xs i first.found first.within first.is in
      record {
        place = place_at xs i first.found;
        is = ap (nth_place test 0) at.whole
            ∙ first_place (take i xs) first.found (drop (i + 1) xs) first.none_before
            (first_stands test xs first.found first.fitting).fits;
        at = at;
      }

  pub first_nowhere : (xs : List A) → first_fitting test xs ≡ None → nth_place test 0 xs ≡ None
  first_nowhere [] none = refl
  first_nowhere (y ∷ ys) none = at (test y) refl none (first_nowhere ys)
    where
      at : (b : Bool) → test y ≡ b → cond b (Some y) (first_fitting test ys) ≡ None
          → (first_fitting test ys ≡ None → nth_place test 0 ys ≡ None)
          → nth_place test 0 (y ∷ ys) ≡ None
      at true is h more = absurd (let no : Some y ≡ None = h in cc)
      at false is h more = nth_apart 0 y ys is ∙ ap (option_map (one_on y)) (more h)

-- the last of the pairs before a place
pub last_changed-end : {A : Type 0} (f : A → A) (xs : List A) (x : A)
    → last_changed f (xs ++ x ∷ []) ≡ xs ++ f x ∷ []
last_changed-end f [] x = refl
last_changed-end f (y ∷ []) x = refl
last_changed-end f (y ∷ z ∷ zs) x = ap (λ l. y ∷ l) (last_changed-end f (z ∷ zs) x)

pub gap_of-end : (after : Text) (ps : List PairPiece) (p : PairPiece) → gap_of after (ps ++ p ∷ []) ≡ p.after
gap_of-end after [] p = refl
gap_of-end after (q ∷ ps) p = gap_of-end q.after ps p

pub trailing_of-end : (ps : List PairPiece) (p : PairPiece)
    → trailing_of (ps ++ p ∷ []) ≡ p.stretches.trailing_lines
trailing_of-end [] p = refl
trailing_of-end (q ∷ []) p = refl
trailing_of-end (q ∷ r ∷ ps) p = trailing_of-end (r ∷ ps) p

pub ends_in_value-end : (o : ParseOption) (ps : List PairPiece) (p : PairPiece)
    → ends_in_value o (ps ++ p ∷ []) ≡ is_multiline o p
ends_in_value-end o [] p = refl
ends_in_value-end o (q ∷ []) p = refl
ends_in_value-end o (q ∷ r ∷ ps) p = ends_in_value-end o (r ∷ ps) p

-- what another last word leaves as it was
pub word_kept : {A : Type 0} (part : PairPiece → A) (word : Text) (p : PairPiece)
    → part (with_raw_value word p) ≡ part p → part (with_raw_key word p) ≡ part p
    → part (with_last_word word p) ≡ part p
word_kept part word p value key = by (has_separator p)
  where
    by : (b : Bool) → part (cond b (with_raw_value word p) (with_raw_key word p)) ≡ part p
    by true = value
    by false = key

pub word_separator : (word : Text) (p : PairPiece)
    → (with_last_word word p).stretches.separator ≡ p.stretches.separator
word_separator word p = word_kept (λ q. q.stretches.separator) word p refl refl

pub word_lines : (word : Text) (p : PairPiece)
    → (with_last_word word p).stretches.trailing_lines ≡ p.stretches.trailing_lines
word_lines word p = word_kept (λ q. q.stretches.trailing_lines) word p refl refl

pub word_multiline : (o : ParseOption) (word : Text) (p : PairPiece)
    → is_multiline o (with_last_word word p) ≡ is_multiline o p
word_multiline o word p = word_kept (is_multiline o) word p refl refl

-- the same last word put in
pub same_word : (p : PairPiece) → with_last_word (last_word p) p ≡ p
same_word p = by (has_separator p)
  where
    word : Bool → Text
    word b = cond b p.stretches.raw_value p.stretches.key

    by : (b : Bool) → cond b (with_raw_value (word b) p) (with_raw_key (word b) p) ≡ p
    by true = refl
    by false = refl

last_put : (f : PairPiece → PairPiece) (s : SectionPiece) (ps : List PairPiece) (p : PairPiece)
    (after : List PairPiece)
    → with_pairs s (last_changed f (ps ++ p ∷ []) ++ after) ≡ with_pairs s (ps ++ f p ∷ after)
last_put f s ps p after =
    ap (λ l. with_pairs s (l ++ after)) (last_changed-end f ps p)
    ∙ ap (with_pairs s) (append_assoc ps (f p ∷ []) after)

module _ (s : SectionPiece) (ps : List PairPiece) (p : PairPiece) (after : List PairPiece) where
  pub gap_put-end : (g : Text)
      → gap_put g s (ps ++ p ∷ []) after ≡ with_pairs s (ps ++ record p { after = g } ∷ after)
  gap_put-end g = at ps
    where
      at : (ps : List PairPiece)
          → gap_put g s (ps ++ p ∷ []) after ≡ with_pairs s (ps ++ record p { after = g } ∷ after)
      at [] = refl
      at (q ∷ ps) = last_put (λ q. record q { after = g }) s (q ∷ ps) p after

  pub rest_put-end : (o : ParseOption) (lines g : Text)
      → rest_put o lines g s (ps ++ p ∷ []) after ≡ with_pairs s (ps ++ with_rest o lines g p ∷ after)
  rest_put-end o lines g = at ps
    where
      at : (ps : List PairPiece)
          → rest_put o lines g s (ps ++ p ∷ []) after ≡ with_pairs s (ps ++ with_rest o lines g p ∷ after)
      at [] = refl
      at (q ∷ ps) = last_put (with_rest o lines g) s (q ∷ ps) p after

  pub end_put-end : (e : NewEnd)
      → end_put e s (ps ++ p ∷ []) after ≡ with_pairs s (ps ++ with_new_end e p ∷ after)
  end_put-end e = at ps
    where
      at : (ps : List PairPiece)
          → end_put e s (ps ++ p ∷ []) after ≡ with_pairs s (ps ++ with_new_end e p ∷ after)
      at [] = refl
      at (q ∷ ps) = last_put (with_new_end e) s (q ∷ ps) p after
