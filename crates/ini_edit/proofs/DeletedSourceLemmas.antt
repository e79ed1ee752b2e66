-- Pairs of a key taken out of a text in pieces: the sections are those of a whole text, and the document is
-- the one without these pairs.
use Rattle.std.proofs.Common.{◌≡◌, ◌≢◌, ◌∙◌, ◌==◌, ◌-◌, ◌+◌, ◌<◌, ◌≤◌, ℕ, Bool, true, false, cond, List, []}
use Rattle.std.proofs.Common.{◌&&◌, ◌∷◌, ◌++◌, None, Option, Some, ap, arith, if◌then◌else◌, map, refl, subst}
use Rattle.std.proofs.Common.{suc, sym, zero}
use Rattle.std.proofs.lemmas.Bool.{cond-false, cond-true, eqb-true, false≢true}
use Rattle.std.proofs.lemmas.List.{map-append}
use Rattle.std.proofs.lemmas.List.Sums.{sum_by-append}
use Rattle.std.specs.List.{count_by}
use Rattle.std.specs.Map.{remove_entry}
use Rattle.std.specs.Option.{option_map}
use Rattle.std.specs.Prelude.{option_and_then}
use Rattle.ini_text.specs.Grammar.CharacterKinds.{line_feed}
use Rattle.ini_text.specs.declared.option.ParseOption.{ParseOption}
use Rattle.ini.specs.Edits.{delete_in}
use Rattle.ini.specs.Properties.{removed}
use Rattle.ini.specs.Texts.{Text, is_name, is_text}
use Rattle.ini_edit.specs.Inside.SourceEnds.{IsWithout}
use Rattle.ini_edit.specs.Inside.Spans.{AreSections}
use Rattle.ini_edit.specs.SourceEditsDelete.{count_of, deleted_at, deleted_from, deleted_nth, deleted_times}
use Rattle.ini_edit.specs.SourceEditsDelete.{empty_comment, follows_value, gap_after, line_end_left}
use Rattle.ini_edit.specs.SourceEditsDelete.{lines_after, pair_taken_out, rest_put, to_line_feed, with_rest}
use Rattle.ini_edit.specs.SourceEditsDelete.{would_be_taken}
use Rattle.ini_edit.specs.SourcePlaces.{PairPlace, Place, edited_at, last_before_pair, last_before_section}
use Rattle.ini_edit.specs.SourcePlaces.{last_changed, nth_place, one_on, pair_place, section_place, with_end}
use Rattle.ini_edit.specs.SourceLines.{is_empty}
use Rattle.ini_edit.specs.SourceEdits.{with_pairs}
use Rattle.ini_edit.specs.Sources.{PairPiece, SectionPiece, given_pair, given_section, is_multiline}
use Rattle.ini_edit.proofs.FirstLemmas.{entry_changed}
use Rattle.ini_edit.proofs.SourceSetLemmas.{as_edit}
use Rattle.ini_edit.proofs.TakenLemmas.{sections_taken, taken_name}

-- what the search for a place finds
pub data IsMapped {A B : Type 0} (f : A → B) (o : Option A) (y : B) : Type 0 where
  to : (x : A) → o ≡ Some x → f x ≡ y → IsMapped f o y

pub mapped : {A B : Type 0} (f : A → B) (o : Option A) (y : B) → option_map f o ≡ Some y → IsMapped f o y
mapped f None y h = absurd (let other : None ≡ Some y = h in cc)
mapped f (Some x) y h = let same : f x ≡ y = cc in IsMapped.to x refl same

pub unmapped : {A B : Type 0} (f : A → B) (o : Option A) → option_map f o ≡ None → o ≡ None
unmapped f None h = refl
unmapped f (Some x) h = absurd (let other : Some (f x) ≡ None = h in cc)

one_less : (n : ℕ) → (n == 0) ≡ false → n ≡ suc (n - 1)
one_less n positive =
    let some : n ≢ 0 = λ is. false≢true (sym positive ∙ ap (λ m. m == 0) is) in omega arith

-- the place of the one that fits before which so many fit
pub data NthIs {A : Type 0} (test : A → Bool) : ℕ → List A → Place A → Type 0 where
  found : {x : A} {xs : List A} → test x ≡ true
      → NthIs test 0 (x ∷ xs) (record { before = []; here = x; after = xs })
  fits : {n : ℕ} {x : A} {xs : List A} {p : Place A} → test x ≡ true → NthIs test n xs p
      → NthIs test (suc n) (x ∷ xs) (one_on x p)
  apart : {n : ℕ} {x : A} {xs : List A} {p : Place A} → test x ≡ false → NthIs test n xs p
      → NthIs test n (x ∷ xs) (one_on x p)

-- no more than so many fit
pub data NthNone {A : Type 0} (test : A → Bool) : ℕ → List A → Type 0 where
  ends : {n : ℕ} → NthNone test n []
  fits : {n : ℕ} {x : A} {xs : List A} → test x ≡ true → NthNone test n xs → NthNone test (suc n) (x ∷ xs)
  apart : {n : ℕ} {x : A} {xs : List A} → test x ≡ false → NthNone test n xs → NthNone test n (x ∷ xs)

module _ {A : Type 0} (test : A → Bool) where
  pub nth_is : (xs : List A) (n : ℕ) (p : Place A) → nth_place test n xs ≡ Some p → NthIs test n xs p
  nth_is [] n p h = absurd (let other : None ≡ Some p = h in cc)
  nth_is (x ∷ xs) n p h = by (test x) (n == 0) refl refl h (nth_is xs)
    where
      by : (b z : Bool) → test x ≡ b → (n == 0) ≡ z
          → cond b (cond z (Some (record { before = []; here = x; after = xs }))
          (option_map (one_on x) (nth_place test (n - 1) xs))) (option_map (one_on x) (nth_place test n xs))
          ≡ Some p
          → ((m : ℕ) (q : Place A) → nth_place test m xs ≡ Some q → NthIs test m xs q)
          → NthIs test n (x ∷ xs) p
      by true true is empty h more =
          let same : record { before = []; here = x; after = xs } ≡ p = cc in
          subst (λ k. NthIs test k (x ∷ xs) p) (sym (eqb-true n 0 empty))
          (subst (NthIs test 0 (x ∷ xs)) same (NthIs.found is))
      by true false is positive h more = go (mapped (one_on x) (nth_place test (n - 1) xs) p h)
        where
          go : IsMapped (one_on x) (nth_place test (n - 1) xs) p → NthIs test n (x ∷ xs) p
          go (IsMapped.to q there same) =
              subst (λ k. NthIs test k (x ∷ xs) p) (sym (one_less n positive))
              (subst (NthIs test (suc (n - 1)) (x ∷ xs)) same (NthIs.fits is (more (n - 1) q there)))
      by false z is any h more = go (mapped (one_on x) (nth_place test n xs) p h)
        where
          go : IsMapped (one_on x) (nth_place test n xs) p → NthIs test n (x ∷ xs) p
          go (IsMapped.to q there same) = subst (NthIs test n (x ∷ xs)) same
              (NthIs.apart is (more n q there))

  pub nth_none : (xs : List A) (n : ℕ) → nth_place test n xs ≡ None → NthNone test n xs
  nth_none [] n h = NthNone.ends
  nth_none (x ∷ xs) n h = by (test x) (n == 0) refl refl h (nth_none xs)
    where
      by : (b z : Bool) → test x ≡ b → (n == 0) ≡ z
          → cond b (cond z (Some (record { before = []; here = x; after = xs }))
          (option_map (one_on x) (nth_place test (n - 1) xs))) (option_map (one_on x) (nth_place test n xs))
          ≡ None
          → ((m : ℕ) → nth_place test m xs ≡ None → NthNone test m xs) → NthNone test n (x ∷ xs)
      by true true is empty h more =
          absurd (let other : Some (record { before = []; here = x; after = xs }) ≡ None = h in cc)
      by true false is positive h more =
          subst (λ k. NthNone test k (x ∷ xs)) (sym (one_less n positive))
          (NthNone.fits is (more (n - 1) (unmapped (one_on x) (nth_place test (n - 1) xs) h)))
      by false z is any h more = NthNone.apart is (more n (unmapped (one_on x) (nth_place test n xs) h))

  pub count_more : (x : A) (xs : List A) → count_by test (x ∷ xs) ≡ cond (test x) 1 0 + count_by test xs
  count_more x xs =
      let sum = sum_by-append (λ y. cond (test y) 1 0) (x ∷ []) xs in omega (arith, sum)

  pub count_fits : (x : A) (xs : List A) → test x ≡ true → count_by test (x ∷ xs) ≡ suc (count_by test xs)
  count_fits x xs is =
      let one = ap (λ b. cond b 1 0 + count_by test xs) is in omega (arith, count_more x xs, one)

  pub count_apart : (x : A) (xs : List A) → test x ≡ false → count_by test (x ∷ xs) ≡ count_by test xs
  count_apart x xs is =
      let one = ap (λ b. cond b 1 0 + count_by test xs) is in omega (arith, count_more x xs, one)

module _ {A : Type 0} {test : A → Bool} where
  pub nth_whole : {n : ℕ} {xs : List A} {p : Place A} → NthIs test n xs p → xs ≡ p.before ++ p.here ∷ p.after
  nth_whole (NthIs.found is) = refl
  nth_whole (NthIs.fits {x = x} is more) = ap (λ l. x ∷ l) (nth_whole more)
  nth_whole (NthIs.apart {x = x} is more) = ap (λ l. x ∷ l) (nth_whole more)

  pub nth_fits : {n : ℕ} {xs : List A} {p : Place A} → NthIs test n xs p → test p.here ≡ true
  nth_fits (NthIs.found is) = is
  nth_fits (NthIs.fits is more) = nth_fits more
  nth_fits (NthIs.apart is more) = nth_fits more

  nth_below : {n : ℕ} {xs : List A} {p : Place A} → NthIs test n xs p → n < count_by test xs
  nth_below (NthIs.found {x = x} {xs} is) = omega (arith, count_fits test x xs is)
  nth_below (NthIs.fits {x = x} {xs} is more) = omega (arith, nth_below more, count_fits test x xs is)
  nth_below (NthIs.apart {x = x} {xs} is more) = omega (arith, nth_below more, count_apart test x xs is)

  pub none_above : {n : ℕ} {xs : List A} → NthNone test n xs → count_by test xs ≤ n
  none_above NthNone.ends = omega arith
  none_above (NthNone.fits {x = x} {xs} is more) = omega (arith, none_above more, count_fits test x xs is)
  none_above (NthNone.apart {x = x} {xs} is more) = omega (arith, none_above more, count_apart test x xs is)

  -- the first that fits, found again once it is another that fits
  pub first_again : {xs : List A} {p : Place A} (y : A) → NthIs test 0 xs p → test y ≡ true
      → nth_place test 0 (p.before ++ y ∷ p.after)
      ≡ Some (record { before = p.before; here = y; after = p.after })
  first_again y (NthIs.found is) passes = cond-true (test y) _ _ passes
  first_again y (NthIs.apart {x = x} is more) passes =
      cond-false (test x) _ _ is ∙ ap (option_map (one_on x)) (first_again y more passes)

  -- seen as entries of keys that fit
  module _ {K V : Type 0} (passes : K → Bool) (view : A → K × V)
      (same : (x : A) → test x ≡ passes (view x).0) where
    entry_at : (h : V → V) {xs : List A} {p : Place A} → NthIs test 0 xs p
        → entry_changed passes h (map view xs)
        ≡ map view p.before ++ (((view p.here).0, h (view p.here).1) ∷ map view p.after)
    entry_at h (NthIs.found {x = x} is) = cond-true (passes (view x).0) _ _ (sym (same x) ∙ is)
    entry_at h (NthIs.apart {x = x} is more) =
        cond-false (passes (view x).0) _ _ (sym (same x) ∙ is) ∙ ap (λ l. view x ∷ l) (entry_at h more)

    entry_nowhere : (h : V → V) {xs : List A} → NthNone test 0 xs
        → entry_changed passes h (map view xs) ≡ map view xs
    entry_nowhere h NthNone.ends = refl
    entry_nowhere h (NthNone.apart {x = x} is more) =
        cond-false (passes (view x).0) _ _ (sym (same x) ∙ is) ∙ ap (λ l. view x ∷ l) (entry_nowhere h more)

    removed_at : {xs : List A} {p : Place A} → NthIs test 0 xs p
        → remove_entry passes (map view xs) ≡ map view (p.before ++ p.after)
    removed_at (NthIs.found {x = x} is) = cond-true (passes (view x).0) _ _ (sym (same x) ∙ is)
    removed_at (NthIs.apart {x = x} is more) =
        cond-false (passes (view x).0) _ _ (sym (same x) ∙ is) ∙ ap (λ l. view x ∷ l) (removed_at more)

    removed_nowhere : {xs : List A} → NthNone test 0 xs → remove_entry passes (map view xs) ≡ map view xs
    removed_nowhere NthNone.ends = refl
    removed_nowhere (NthNone.apart {x = x} is more) =
        cond-false (passes (view x).0) _ _ (sym (same x) ∙ is) ∙ ap (λ l. view x ∷ l) (removed_nowhere more)

-- a pair that takes lines and a gap keeps its key and value
rest_given : (o : ParseOption) (lines gap : Text) (p : PairPiece) → given_pair (with_rest o lines gap p)
    ≡ given_pair p
rest_given o lines gap p = at (is_multiline o p && is_empty p.after)
  where
    at : (b : Bool) → given_pair (if b then with_end (p.stretches.trailing_lines ++ lines) (p.after ++ gap) p
        else with_end p.stretches.trailing_lines (p.after ++ (lines ++ gap)) p) ≡ given_pair p
    at true = refl
    at false = refl

last_given : {A B : Type 0} (view : A → B) (f : A → A) → ((x : A) → view (f x) ≡ view x) → (xs : List A)
    → map view (last_changed f xs) ≡ map view xs
last_given view f same [] = refl
last_given view f same (x ∷ []) = ap (λ y. y ∷ []) (same x)
last_given view f same (x ∷ y ∷ ys) = ap (λ l. view x ∷ l) (last_given view f same (y ∷ ys))

-- what a section gives without the pair
rest_put_given : (o : ParseOption) (lines g : Text) (s : SectionPiece) (before after : List PairPiece)
    → given_section (rest_put o lines g s before after) ≡ (s.name, map given_pair (before ++ after))
rest_put_given o lines g s [] after = refl
rest_put_given o lines g s (x ∷ xs) after =
    ap (λ l. (s.name, l))
    (map-append given_pair (last_changed (with_rest o lines g) (x ∷ xs)) after
    ∙ ap (λ l. l ++ map given_pair after)
    (last_given given_pair (with_rest o lines g) (rest_given o lines g) (x ∷ xs))
    ∙ sym (map-append given_pair (x ∷ xs) after))

pub taken_given : (o : ParseOption) (front : ℕ) (s : SectionPiece) (p : Place PairPiece)
    → given_section (pair_taken_out o front s p) ≡ (s.name, map given_pair (p.before ++ p.after))
taken_given o front s p = at (follows_value o p.before && would_be_taken o p.here p.after)
  where
    last : ℕ
    last = last_before_pair front s p

    at : (apart : Bool) → given_section (if apart
        then rest_put o (to_line_feed last) (empty_comment (line_feed ∷ []) ++ gap_after o p.here) s p.before
        p.after
        else rest_put o (line_end_left o last p.here ++ lines_after o p.here) (gap_after o p.here) s p.before
        p.after) ≡ (s.name, map given_pair (p.before ++ p.after))
    at true =
        rest_put_given o (to_line_feed last)
        (empty_comment (line_feed ∷ []) ++ gap_after o p.here) s p.before
        p.after
    at false =
        rest_put_given o (line_end_left o last p.here ++ lines_after o p.here)
        (gap_after o p.here) s p.before
        p.after

-- a place in a section, and that of a pair of the key
abbrev pub placed_in : Place SectionPiece → Place PairPiece → PairPlace
placed_in s p = record { section = s; pair = p }

abbrev pub pair_within : Text → ℕ → Place SectionPiece → Option PairPlace
pair_within key n s = option_map (placed_in s) (nth_place (λ p. is_text key p.key) n s.here.pairs)

-- the sections without the pair
module _ (o : ParseOption) (name : Option Text) (key : Text) where
  abbrev pub named : SectionPiece → Bool
  named s = is_name name s.name

  abbrev pub keyed : PairPiece → Bool
  keyed p = is_text key p.key

  -- the pair's place is that in its section's
  pub data IsPlaced (n : ℕ) (ss : List SectionPiece) (p : PairPlace) : Type 0 where
    in_section : NthIs named 0 ss p.section → NthIs keyed n p.section.here.pairs p.pair → IsPlaced n ss p

  pub placed : (n : ℕ) (ss : List SectionPiece) (p : PairPlace) → pair_place name key n ss ≡ Some p
      → IsPlaced n ss p
  placed n ss p h = by (section_place name ss) refl h
    where
      by : (s : Option (Place SectionPiece)) → section_place name ss ≡ s
          → option_and_then (pair_within key n) s
          ≡ Some p → IsPlaced n ss p
      by None is h = absurd (let other : None ≡ Some p = h in cc)
      by (Some s) is h =
          go (mapped (placed_in s) (nth_place keyed n s.here.pairs) p h)
        where
          go : IsMapped (placed_in s) (nth_place keyed n s.here.pairs) p
              → IsPlaced n ss p
          go (IsMapped.to q there same) =
              subst (IsPlaced n ss) same (IsPlaced.in_section (nth_is named ss 0 s is)
              (nth_is keyed s.here.pairs n q there))

  deleted_there : (n : ℕ) (ss : List SectionPiece) (p : PairPlace) → IsPlaced n ss p → AreSections o ss
      → AreSections o (deleted_at o p)
  deleted_there n ss p (IsPlaced.in_section section pair) h =
      let s = p.section in
      sections_taken s.before s.here s.after p.pair.here p.pair.after p.pair.before
      (subst (AreSections o) (nth_whole section
      ∙ ap (λ ps. s.before ++ with_pairs s.here ps ∷ s.after) (nth_whole pair)) h)

  -- the sections are those of a whole text
  pub nth_sections : (n : ℕ) (ss : List SectionPiece) → AreSections o ss
      → AreSections o (deleted_nth o name key n ss)
  nth_sections n ss h = by (pair_place name key n ss) refl
    where
      by : (p : Option PairPlace) → pair_place name key n ss ≡ p
          → AreSections o (edited_at (deleted_at o) p ss)
      by None is = h
      by (Some p) is = deleted_there n ss p (placed n ss p is) h

  pub times_sections : (kept times : ℕ) (ss : List SectionPiece) → AreSections o ss
      → AreSections o (deleted_times o name key kept times ss)
  times_sections kept zero ss h = h
  times_sections kept (suc times) ss h =
      times_sections kept times (deleted_nth o name key kept ss) (nth_sections kept ss h)

  pub from_sections : (kept : ℕ) (ss : List SectionPiece) → AreSections o ss
      → AreSections o (deleted_from o name key kept ss)
  from_sections kept ss h = times_sections kept (count_of name key ss - kept) ss h

  -- and the document is that without the first pair of the key
  pub first_document : (ss : List SectionPiece)
      → map given_section (deleted_nth o name key 0 ss) ≡ delete_in name key (map given_section ss)
  first_document ss = by (section_place name ss) refl ∙ as_edit name (removed key) (map given_section ss)
    where
      by : (s : Option (Place SectionPiece)) → section_place name ss ≡ s
          → map given_section (edited_at (deleted_at o)
          (option_and_then (pair_within key 0) s) ss)
          ≡ entry_changed (is_name name) (removed key) (map given_section ss)
      by None is =
          sym (entry_nowhere (is_name name) given_section (λ s. refl) (removed key) (nth_none named ss 0 is))
      by (Some s) is = pair (nth_place keyed 0 s.here.pairs) refl
        where
          section : NthIs named 0 ss s
          section = nth_is named ss 0 s is

          at : entry_changed (is_name name) (removed key) (map given_section ss)
              ≡ map given_section s.before ++ ((s.here.name, removed key (map given_pair s.here.pairs))
              ∷ map given_section s.after)
          at = entry_at (is_name name) given_section (λ s. refl) (removed key) section

          pair : (p : Option (Place PairPiece)) → nth_place keyed 0 s.here.pairs ≡ p
              → map given_section (edited_at (deleted_at o)
              (option_map (placed_in s) p) ss)
              ≡ entry_changed (is_name name) (removed key) (map given_section ss)
          pair None gone =
              ap (map given_section) (nth_whole section)
              ∙ map-append given_section s.before (s.here ∷ s.after)
              ∙ ap (λ ps. map given_section s.before ++ ((s.here.name, ps) ∷ map given_section s.after))
              (sym (removed_nowhere (is_text key) given_pair (λ p. refl)
              (nth_none keyed s.here.pairs 0 gone)))
              ∙ sym at
          pair (Some p) there =
              map-append given_section s.before (pair_taken_out o (last_before_section s) s.here p ∷ s.after)
              ∙ ap (λ g. map given_section s.before ++ (g ∷ map given_section s.after))
              (taken_given o (last_before_section s) s.here p
              ∙ ap (λ ps. (s.here.name, ps)) (sym (removed_at (is_text key) given_pair (λ p. refl)
              (nth_is keyed s.here.pairs 0 p there))))
              ∙ sym at

  -- one pair fewer of the key
  pub keyed_count : (ps : List PairPiece) → count_by keyed ps
      ≡ count_by (λ g. is_text key g.0) (map given_pair ps)
  keyed_count [] = refl
  keyed_count (p ∷ ps) =
      count_more keyed p ps ∙ ap (λ n. cond (is_text key p.key) 1 0 + n) (keyed_count ps)
      ∙ sym (count_more (λ g. is_text key g.0) (given_pair p) (map given_pair ps))

  pub taken_count : (front : ℕ) (s : SectionPiece) (n : ℕ) (p : Place PairPiece) → NthIs keyed n s.pairs p
      → count_by keyed s.pairs ≡ suc (count_by keyed (pair_taken_out o front s p).pairs)
  taken_count front s n p there =
      let fewer = keyed_count (pair_taken_out o front s p).pairs
      ∙ ap (λ g. count_by (λ g. is_text key g.0) g.1) (taken_given o front s p)
      ∙ sym (keyed_count (p.before ++ p.after)) in
      let sum = sum_by-append (λ q. cond (keyed q) 1 0) p.before p.after in
      let whole =
      ap (count_by keyed) (nth_whole there) ∙ sum_by-append (λ q. cond (keyed q) 1 0) p.before
      (p.here ∷ p.after) in
      omega (arith, fewer, sum, whole, count_fits keyed p.here p.after (nth_fits there))

  -- so many pairs of the first section of the name are taken out
  pub times_there : (kept front : ℕ) {s t : SectionPiece} → IsWithout o front key kept s t
      → (ss : List SectionPiece) (p : Place SectionPiece) → section_place name ss ≡ Some p → p.here ≡ s
      → last_before_section p ≡ front
      → p.before ++ t ∷ p.after ≡ deleted_times o name key kept (count_by keyed s.pairs - kept) ss
  times_there kept front (IsWithout.no_more {s = s} gone) ss p is same last =
      let section = nth_is named ss 0 p is in
      let above = none_above (nth_none keyed s.pairs kept gone) in
      let nothing : count_by keyed s.pairs - kept ≡ 0 = omega (arith, above) in
      ap (λ x. p.before ++ x ∷ p.after) (sym same) ∙ sym (nth_whole section)
      ∙ ap (λ n. deleted_times o name key kept n ss) (sym nothing)
  times_there kept front (IsWithout.one_more {s = s} {p = q} there more) ss p is same last =
      let section = nth_is named ss 0 p is in
      let new = pair_taken_out o front s q in
      let pair = nth_is keyed s.pairs kept q there in
      let fewer = taken_count front s kept q pair in
      let below = nth_below pair in
      let next : count_by keyed s.pairs - kept ≡ suc (count_by keyed new.pairs - kept) =
      omega (arith, fewer, below) in
      let passes : named new ≡ true =
      ap (is_name name) (taken_name o front s q) ∙ ap named (sym same) ∙ nth_fits section in
      let found : pair_place name key kept ss ≡ Some (record { section = p; pair = q }) =
      ap (option_and_then (pair_within key kept)) is
      ∙ ap (λ s. option_map (placed_in p) (nth_place keyed kept s.pairs)) same
      ∙ ap (option_map (placed_in p)) there in
      let one : deleted_nth o name key kept ss ≡ p.before ++ new ∷ p.after =
      ap (λ f. edited_at (deleted_at o) f ss) found
      ∙ ap (λ c. p.before ++ pair_taken_out o c p.here q ∷ p.after) last
      ∙ ap (λ s. p.before ++ pair_taken_out o front s q ∷ p.after) same in
      times_there kept front more (p.before ++ new ∷ p.after)
      (record { before = p.before; here = new; after = p.after }) (first_again new section passes) refl last
      ∙ ap (deleted_times o name key kept (count_by keyed new.pairs - kept)) (sym one)
      ∙ ap (λ n. deleted_times o name key kept n ss) (sym next)
