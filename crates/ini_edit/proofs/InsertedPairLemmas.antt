-- A pair put into a section's list, as the code puts it there.
use Rattle.std.proofs.Common.{◌≡◌, ◌∙◌, ◌+◌, ◌-◌, ◌==◌, ◌≤◌, ◌&&◌, ◌||◌, ℕ, Bool, true, false, not, List, []}
use Rattle.std.proofs.Common.{◌∷◌, ◌++◌, None, Some, ap, arith, drop, get_or, if◌then◌else◌, is_ok, length}
use Rattle.std.proofs.Common.{ne_eqb, refl, set, subst, sym, Result}
use Rattle.std.proofs.lemmas.Bool.{cond-false, cond-true}
use Rattle.std.proofs.lemmas.List.{set_at}
use Rattle.std.specs.List.{insert}
use Rattle.ini_text.specs.Grammar.CharacterKinds.{is_line_end}
use Rattle.ini_text.specs.Grammar.Positions.{last_or}
use Rattle.ini_text.specs.Parsing.Fronts.{front_of}
use Rattle.ini_text.specs.Parsing.Items.{string_text}
use Rattle.ini_text.specs.declared.option.ParseOption.{ParseOption}
use Rattle.ini.specs.Texts.{Text}
use Rattle.ini_edit.specs.Inside.SourceEnds.{IsPlaceAt, end_put, end_put_at, trailing_of, word_of}
use Rattle.ini_edit.specs.Inside.SourceEnds.{with_new_end}
use Rattle.ini_edit.specs.SourceEdits.{with_pairs}
use Rattle.ini_edit.specs.SourceEditsAdd.{Maker, pair_put_after, pair_put_before, pair_put_last, would_go_on}
use Rattle.ini_edit.specs.SourceLines.{comments_at_end, is_empty}
use Rattle.ini_edit.specs.SourcePlaces.{Place, exchanged, gap_of, gap_put, is_nil, last_before_gap}
use Rattle.ini_edit.specs.SourcePlaces.{last_changed, last_place, last_word, with_end, with_last_word}
use Rattle.ini_edit.specs.Sources.{PairPiece, SectionPiece}
use Rattle.ini_edit.specs.declared.source.pair.ends.NewEnd.{NewEnd}
use Rattle.ini_edit.proofs.ClosedPairLemmas.{same_word}
use Rattle.ini_edit.proofs.SourcePlaceLemmas.{place_drop_put, place_insert, place_insert_after, place_read}
use Rattle.ini_edit.proofs.SourcePlaceLemmas.{place_take_put}

-- directly after the one at a place, which is another then
pub put_after_place : {xs ys : List PairPiece} {p : Place PairPiece} {i : ℕ} (at : IsPlaceAt xs p i)
    (new other : PairPiece) → ys ≡ insert xs (i + 1) new
    → set ys i other ≡ exchanged p (other ∷ new ∷ [])
put_after_place {p = p} {i} at new other is =
    ap (λ l. set l i other) (is ∙ place_insert_after at new)
    ∙ set_at p.before p.here (new ∷ p.after) other i (sym at.index)

-- the last of the pairs before a place has another gap alone
kept_end : (e : NewEnd) (x : PairPiece) (xs : List PairPiece) → e.last_word ≡ None
    → string_text e.trailing_lines ≡ trailing_of (x ∷ xs)
    → last_changed (with_new_end e) (x ∷ xs)
    ≡ last_changed (λ q. record q { after = string_text e.after }) (x ∷ xs)
kept_end e x [] none same =
    let lines = string_text e.trailing_lines in
    let gap = string_text e.after in
    ap (λ w. with_end lines gap (with_last_word (word_of (last_word x) w) x) ∷ []) none
    ∙ ap (λ q. with_end lines gap q ∷ []) (same_word x) ∙ ap (λ t. with_end t gap x ∷ []) same
kept_end e x (y ∷ xs) none same = ap (λ l. x ∷ l) (kept_end e y xs none same)

-- before the one at a place, after another gap there
pub put_before_place : (e : NewEnd) (s : SectionPiece) {t : SectionPiece} {p : Place PairPiece} {i : ℕ}
    (at : IsPlaceAt s.pairs p i) (new : PairPiece) → t ≡ with_pairs s (insert s.pairs i new)
    → e.last_word ≡ None → string_text e.trailing_lines ≡ trailing_of p.before
    → end_put_at e i t ≡ gap_put (string_text e.after) s p.before (new ∷ p.here ∷ p.after)
put_before_place e s {t} {p} {i} at new is none same =
    let put = is ∙ ap (with_pairs s) (place_insert at new) in
    ap (end_put_at e i) put
    ∙ ap (λ l. end_put e (with_pairs s (exchanged p (new ∷ p.here ∷ []))) l
    (drop i (exchanged p (new ∷ p.here ∷ [])))) (place_take_put at (new ∷ p.here ∷ []))
    ∙ ap (end_put e (with_pairs s (exchanged p (new ∷ p.here ∷ []))) p.before)
    (place_drop_put at (new ∷ p.here ∷ []))
    ∙ by p.before same
  where
    by : (before : List PairPiece) → string_text e.trailing_lines ≡ trailing_of before
        → end_put e (with_pairs s (exchanged p (new ∷ p.here ∷ []))) before (new ∷ p.here ∷ p.after)
        ≡ gap_put (string_text e.after) s before (new ∷ p.here ∷ p.after)
    by [] same = refl
    by (x ∷ xs) same = ap (λ l. with_pairs s (l ++ new ∷ p.here ∷ p.after)) (kept_end e x xs none same)

-- the index of a place is 0 where nothing stands before it
pub first_index : {xs : List PairPiece} {p : Place PairPiece} {i : ℕ} → IsPlaceAt xs p i
    → (i == 0) ≡ is_nil p.before
first_index {p = p} at = ap (λ n. n == 0) at.index ∙ by p.before
  where
    by : (before : List PairPiece) → (length before == 0) ≡ is_nil before
    by [] = refl
    by (x ∷ xs) = ne_eqb (length (x ∷ xs)) 0 (λ e. omega (arith, e))

-- the one at the place is still there
pub put_after_stays : {xs ys : List PairPiece} {p : Place PairPiece} {i : ℕ} (at : IsPlaceAt xs p i)
    (new : PairPiece) {x : PairPiece} → ys ≡ insert xs (i + 1) new → x ≡ get_or ys i x → x ≡ p.here
put_after_stays {p = p} at new is read =
    let there : IsPlaceAt _ (record { before = p.before; here = p.here; after = new ∷ p.after }) _ =
    record { whole = is ∙ place_insert_after at new; index = at.index } in
    place_read there read

-- what was put in, where memory wasn't refused
pub was_put : {A E : Type 0} (r : Result A E) {xs ys : List PairPiece} (zs : List PairPiece)
    → true ≡ is_ok r
    → xs ≡ (if is_ok r then ys else zs) → xs ≡ ys
was_put r {ys = ys} zs ok is = is ∙ cond-true (is_ok r) ys zs (sym ok)

-- the place of the last of a list
pub last_at : (x : PairPiece) (xs : List PairPiece) → IsPlaceAt (x ∷ xs) (last_place x xs) (length xs)
last_at x [] = record { whole = refl; index = refl }
last_at x (y ∷ ys) =
    let rest = last_at y ys in
    record { whole = ap (λ l. x ∷ l) rest.whole; index = omega (arith, rest.index) }

module _ (o : ParseOption) (end : Text) (make : Maker) where
  pub put_last : (is_last : Bool) (s : SectionPiece) {new : SectionPiece} {i : ℕ} (pairs : List PairPiece)
      → (1 ≤ length pairs) × (i ≡ length pairs - 1)
      → ((p : Place PairPiece) → IsPlaceAt pairs p i → new ≡ pair_put_after o end make s p)
      → pair_put_last o end make is_last s pairs ≡ Some new
  put_last is_last s [] within put = absurd (omega (arith, within.0))
  put_last is_last s (x ∷ xs) within put =
      ap Some (sym (put (last_place x xs)
      (let same : length xs ≡ _ = omega (arith, within.1) in
      subst (IsPlaceAt (x ∷ xs) (last_place x xs)) same (last_at x xs))))

  -- a pair put in before another, part by part
  pub put_before : (front : ℕ) (s : SectionPiece) (p : Place PairPiece) {gap comments kept after : Text}
      {last : ℕ} {new : PairPiece}
      → gap ≡ gap_of s.after p.before → last ≡ last_before_gap front s p.before
      → comments ≡ comments_at_end last gap → kept ≡ front_of gap comments
      → (is_empty comments && would_go_on o p.here) ≡ false
      → new ≡ make (not o.enabled_indented_mutiline_value || (is_nil p.before || not (is_empty kept)))
      end comments
      → after ≡ kept ++ (if is_line_end (last_or last kept) then [] else end)
      → pair_put_before o end make front s p ≡ Some (gap_put after s p.before (new ∷ p.here ∷ p.after))
  put_before front s p {gap} {comments} {kept} {after} {last} {new} is_gap is_last are is_kept free
      is_new is_after =
      let g = gap_of s.after p.before in
      let l = last_before_gap front s p.before in
      let c : comments ≡ comments_at_end l g =
      are ∙ ap (λ z. comments_at_end z gap) is_last ∙ ap (comments_at_end l) is_gap in
      let k : kept ≡ front_of g (comments_at_end l g) =
      is_kept ∙ ap (λ z. front_of z comments) is_gap ∙ ap (front_of g) c in
      cond-false (is_empty (comments_at_end l g) && would_go_on o p.here) None _
      (ap (λ z. is_empty z && would_go_on o p.here) (sym c) ∙ free)
      ∙ ap (λ z. Some (gap_put (z ++ (if is_line_end (last_or l z) then [] else end)) s p.before
      (make (not o.enabled_indented_mutiline_value || (is_nil p.before || not (is_empty z))) end
      (comments_at_end l g) ∷ p.here ∷ p.after))) (sym k)
      ∙ ap (λ z. Some (gap_put (kept ++ (if is_line_end (last_or z kept) then [] else end)) s p.before
      (make (not o.enabled_indented_mutiline_value || (is_nil p.before || not (is_empty kept))) end
      (comments_at_end l g) ∷ p.here ∷ p.after))) (sym is_last)
      ∙ ap (λ z. Some (gap_put (kept ++ (if is_line_end (last_or last kept) then [] else end)) s p.before
      (make (not o.enabled_indented_mutiline_value || (is_nil p.before || not (is_empty kept))) end
      z ∷ p.here ∷ p.after))) (sym c)
      ∙ ap (λ z. Some (gap_put z s p.before
      (make (not o.enabled_indented_mutiline_value || (is_nil p.before || not (is_empty kept))) end
      comments ∷ p.here ∷ p.after))) (sym is_after)
      ∙ ap (λ z. Some (gap_put after s p.before (z ∷ p.here ∷ p.after))) (sym is_new)
