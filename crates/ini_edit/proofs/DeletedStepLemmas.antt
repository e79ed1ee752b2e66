-- What the calls that take pairs out make, step by step.
use Rattle.std.proofs.Common.{◌≡◌, ◌∙◌, ◌&&◌, ◌+◌, ◌-◌, ◌<◌, ℕ, Bool, true, false, List, [], ◌∷◌, ◌++◌, None}
use Rattle.std.proofs.Common.{Option, Some, ap, arith, drop, get_or, length, refl, set, subst, sym, take}
use Rattle.std.proofs.lemmas.Bool.{and_parts, cond-false, cond-true}
use Rattle.std.specs.List.{count_by, remove}
use Rattle.std.specs.Prelude.{option_and_then}
use Rattle.ini_text.specs.Grammar.CharacterKinds.{carriage_return, is_line_end, line_feed, space}
use Rattle.ini_text.specs.Grammar.Positions.{last_or}
use Rattle.ini_text.specs.declared.option.ParseOption.{ParseOption}
use Rattle.ini.specs.Texts.{Text, is_text}
use Rattle.ini.proofs.KeepingLemmas.{texts_equal}
use Rattle.ini_edit.specs.Inside.SourceEnds.{IsPairAt, IsPlaceAt, IsWithout, end_put, end_put_at, last_before}
use Rattle.ini_edit.specs.SourceEdits.{with_pairs}
use Rattle.ini_edit.specs.SourceEditsDelete.{deleted_at, deleted_from, deleted_nth, deleted_times}
use Rattle.ini_edit.specs.SourceEditsDelete.{empty_comment, follows_value, gap_after, goes_after, left_after}
use Rattle.ini_edit.specs.SourceEditsDelete.{line_end_after, line_end_left, lines_after, pair_taken_out}
use Rattle.ini_edit.specs.SourceEditsDelete.{rest_put, to_line_feed, would_be_taken}
use Rattle.ini_edit.specs.SourcePlaces.{Place, edited_at, exchanged, last_before_pair, last_before_section}
use Rattle.ini_edit.specs.SourcePlaces.{nth_place, pair_place, section_place, text_up_to}
use Rattle.ini_edit.specs.Sources.{PairPiece, Pieces, SectionPiece, sections_text}
use Rattle.ini_edit.specs.declared.source.pair.ends.NewEnd.{NewEnd}
use Rattle.ini_edit.proofs.DeletedSourceLemmas.{IsMapped, mapped, none_above, nth_none, pair_within}
use Rattle.ini_edit.proofs.DeletedSourceLemmas.{placed_in, times_there, unmapped}
use Rattle.ini_edit.proofs.SourcePlaceLemmas.{place_drop_more, place_drop_put, place_remove, place_set}
use Rattle.ini_edit.proofs.SourcePlaceLemmas.{place_read, place_take, place_take_put, place_within}

end_put_bare : (e : NewEnd) (s : SectionPiece) (ps before after : List PairPiece)
    → end_put e (with_pairs s ps) before after ≡ end_put e s before after
end_put_bare e s ps [] after = refl
end_put_bare e s ps (x ∷ xs) after = refl

-- what stays of a line end, in each case
module _ (multiline : Bool) (last : ℕ) (e lines g : Text) where
  pub left_none : goes_after last e lines g ≡ true → [] ≡ left_after multiline last e lines g
  left_none goes = sym (cond-true (goes_after last e lines g) _ _ goes)

  pub left_blank : goes_after last e lines g ≡ false
      → (multiline && (is_line_end last && is_text e (carriage_return ∷ []))) ≡ true
      → space ∷ carriage_return ∷ [] ≡ left_after multiline last e lines g
  left_blank stays blank =
      let inner = (and_parts multiline _ blank).1 in
      let same = texts_equal e (carriage_return ∷ []) (and_parts (is_line_end last) _ inner).1 in
      ap (λ t. space ∷ t) (sym same)
      ∙ sym (cond-false (goes_after last e lines g) _ _ stays
      ∙ cond-true (multiline && (is_line_end last && is_text e (carriage_return ∷ []))) _ _ blank)

  pub left_whole : goes_after last e lines g ≡ false
      → (multiline && (is_line_end last && is_text e (carriage_return ∷ []))) ≡ false
      → e ≡ left_after multiline last e lines g
  left_whole stays bare =
      sym (cond-false (goes_after last e lines g) _ _ stays
      ∙ cond-false (multiline && (is_line_end last && is_text e (carriage_return ∷ []))) _ _ bare)

-- what stays of a pair: what the code puts together
module _ (o : ParseOption) (front : ℕ) (t : SectionPiece) (p : Place PairPiece) {last : ℕ}
    (is_last : last ≡ last_before_pair front t p) {lines g : Text} where
  pub taken_apart : {gap : Text} → (follows_value o p.before && would_be_taken o p.here p.after) ≡ true
      → lines ≡ to_line_feed last → gap ≡ gap_after o p.here → g ≡ empty_comment (line_feed ∷ []) ++ gap
      → rest_put o lines g t p.before p.after ≡ pair_taken_out o front t p
  taken_apart apart is_lines is_gap is_g =
      let comment = empty_comment (line_feed ∷ []) in
      ap (λ l. rest_put o l g t p.before p.after) (is_lines ∙ ap to_line_feed is_last)
      ∙ ap (λ h. rest_put o (to_line_feed (last_before_pair front t p)) h t p.before p.after)
      (is_g ∙ ap (λ z. comment ++ z) is_gap)
      ∙ sym (cond-true (follows_value o p.before && would_be_taken o p.here p.after) _ _ apart)

  pub taken_left : {end after first : Text}
      → (follows_value o p.before && would_be_taken o p.here p.after) ≡ false
      → end ≡ line_end_after o p.here → after ≡ lines_after o p.here → g ≡ gap_after o p.here
      → first ≡ left_after o.enabled_indented_mutiline_value last end after g → lines ≡ first ++ after
      → rest_put o lines g t p.before p.after ≡ pair_taken_out o front t p
  taken_left {end} {after} {first} apart is_end is_after is_gap is_first is_lines =
      let up_to = last_before_pair front t p in
      let left : ℕ → Text → Text → Text → Text = λ z e l h.
      left_after o.enabled_indented_mutiline_value z e l h ++ l in
      let all : lines ≡ line_end_left o up_to p.here ++ lines_after o p.here =
      is_lines ∙ ap (λ f. f ++ after) is_first ∙ ap (λ z. left z end after g) is_last
      ∙ ap (λ e. left up_to e after g) is_end ∙ ap (λ l. left up_to (line_end_after o p.here) l g) is_after
      ∙ ap (left up_to (line_end_after o p.here) (lines_after o p.here)) is_gap in
      ap (λ l. rest_put o l g t p.before p.after) all
      ∙ ap (λ h. rest_put o (line_end_left o up_to p.here ++ lines_after o p.here) h t p.before p.after)
      is_gap
      ∙ sym (cond-false (follows_value o p.before && would_be_taken o p.here p.after) _ _ apart)

-- what the code reads at an index, for the place there
module _ (o : ParseOption) (t : SectionPiece) {i : ℕ} {x : PairPiece} {p : Place PairPiece}
    (at : IsPlaceAt t.pairs p i) (here : x ≡ p.here) where
  pub last_of_place : (front : ℕ)
      → last_or front (text_up_to t (take i t.pairs)) ≡ last_before_pair front t p
  last_of_place front = ap (λ ps. last_or front (text_up_to t ps)) (place_take at)

  -- whether an empty comment keeps it apart
  pub apart_of_place : {follows is_taken : Bool} → follows ≡ follows_value o (take i t.pairs)
      → is_taken ≡ would_be_taken o x (drop (i + 1) t.pairs)
      → (follows_value o p.before && would_be_taken o p.here p.after) ≡ (follows && is_taken)
  apart_of_place {follows} {is_taken} is_follows is_takes =
      sym (ap (λ b. b && is_taken) (is_follows ∙ ap (follows_value o) (place_take at))
      ∙ ap (λ b. follows_value o p.before && b)
      (is_takes ∙ ap (would_be_taken o x) (place_drop_more at)
      ∙ ap (λ y. would_be_taken o y p.after) here))

  pub put_at_place : (e : NewEnd) (lines g : Text)
      → ((after : List PairPiece) → end_put e t (take i t.pairs) after
      ≡ rest_put o lines g t (take i t.pairs) after)
      → end_put e t p.before p.after ≡ rest_put o lines g t p.before p.after
  put_at_place e lines g put =
      ap (λ ps. end_put e t ps p.after) (sym (place_take at)) ∙ put p.after
      ∙ ap (λ ps. rest_put o lines g t ps p.after) (place_take at)

-- a pair out of its section's list, with what stays of it put after what stood before it
pub out_of_section : (o : ParseOption) (t : SectionPiece) (p : Place PairPiece) (i : ℕ)
    → IsPlaceAt t.pairs p i → (front : ℕ) (e : NewEnd) (left : List PairPiece)
    → end_put e t p.before p.after ≡ pair_taken_out o front t p → left ≡ remove t.pairs i
    → end_put_at e i (with_pairs t left) ≡ pair_taken_out o front t p
out_of_section o t p i at front e left put is_left =
    let bare = with_pairs t (remove t.pairs i) in
    ap (λ ps. end_put_at e i (with_pairs t ps)) is_left
    ∙ ap (λ ps. end_put e bare (take i ps) (drop i ps)) (place_remove at)
    ∙ ap (λ ps. end_put e bare ps (drop i (exchanged p []))) (place_take_put at [])
    ∙ ap (end_put e bare p.before) (place_drop_put at [])
    ∙ end_put_bare e t (remove t.pairs i) p.before p.after ∙ put

module _ (o : ParseOption) (name : Option Text) (key : Text) (n : ℕ) {ss : List SectionPiece} {i j : ℕ}
    (at : IsPairAt (pair_place name key n ss) ss i j) where
  last_there : last_before ss i ≡ last_before_section at.place.section
  last_there = ap (λ l. last_or line_feed (sections_text l)) (place_take at.section)

  -- one pair out
  pub nth_made : (new : SectionPiece)
      → new ≡ pair_taken_out o (last_before ss i) at.place.section.here at.place.pair
      → set ss i new ≡ deleted_nth o name key n ss
  nth_made new is =
      place_set at.section new
      ∙ ap (λ s. exchanged at.place.section (s ∷ []))
      (is ∙ ap (λ c. pair_taken_out o c at.place.section.here at.place.pair) last_there)
      ∙ ap (λ p. edited_at (deleted_at o) p ss) (sym at.is)

  section_there : section_place name ss ≡ Some at.place.section
  section_there = by (section_place name ss) refl at.is
    where
      by : (s : Option (Place SectionPiece)) → section_place name ss ≡ s
          → option_and_then (pair_within key n) s ≡ Some at.place
          → section_place name ss ≡ Some at.place.section
      by None is h = absurd (let other : None ≡ Some at.place = h in cc)
      by (Some s) is h =
          go (mapped (placed_in s) (nth_place (λ p. is_text key p.key) n s.here.pairs)
          at.place h)
        where
          go : IsMapped (placed_in s)
              (nth_place (λ p. is_text key p.key) n s.here.pairs) at.place
              → section_place name ss ≡ Some at.place.section
          go (IsMapped.to p there same) = is ∙ ap (λ p. Some p.section) same

  -- all pairs out but for the first n
  pub from_made : (new : SectionPiece) → IsWithout o (last_before ss i) key n at.place.section.here new
      → set ss i new ≡ deleted_from o name key n ss
  from_made new out =
      place_set at.section new
      ∙ times_there o name key n (last_before ss i) out ss at.place.section section_there refl
      (sym last_there)
      ∙ ap (λ s. deleted_times o name key n
      (edited_at (λ s. count_by (λ p. is_text key p.key) s.here.pairs) s 0 - n) ss) (sym section_there)

-- the sections that a call leaves, where it read the pieces v, which it was given as w
module _ (name : Option Text) (key : Text) (n : ℕ) {v w : Pieces} (view : v ≡ w) {i j : ℕ}
    (there : IsPairAt (pair_place name key n w.sections) w.sections i j) {y : SectionPiece}
    (read : y ≡ get_or v.sections i y) where
  pair_there : IsPairAt (pair_place name key n v.sections) v.sections i j
  pair_there = subst (λ v. IsPairAt (pair_place name key n v.sections) v.sections i j) (sym view) there

  section_read : y ≡ pair_there.place.section.here
  section_read = place_read pair_there.section read

  in_section : IsPlaceAt y.pairs pair_there.place.pair j
  in_section = subst (λ s. IsPlaceAt s.pairs pair_there.place.pair j) (sym section_read) pair_there.pair

  pub pair_within_section : j < length y.pairs
  pair_within_section = place_within in_section

  pub nth_set : (new : SectionPiece) (front : ℕ) → front ≡ last_before w.sections i
      → ((p : Place PairPiece) → IsPlaceAt y.pairs p j → new ≡ pair_taken_out v.option front y p)
      → set v.sections i new ≡ deleted_nth v.option name key n v.sections
  nth_set new front before deleted =
      let p = pair_there.place.pair in
      nth_made v.option name key n pair_there new
      (deleted p in_section
      ∙ ap (λ f. pair_taken_out v.option f y p) (before ∙ ap (λ v. last_before v.sections i) (sym view))
      ∙ ap (λ s. pair_taken_out v.option (last_before v.sections i) s p) section_read)

  pub from_set : (new : SectionPiece) (front : ℕ) → front ≡ last_before w.sections i
      → IsWithout v.option front key n y new → set v.sections i new
      ≡ deleted_from v.option name key n v.sections
  from_set new front before without =
      from_made v.option name key n pair_there new
      (subst (λ s. IsWithout v.option (last_before v.sections i) key n s new) section_read
      (subst (λ f. IsWithout v.option f key n y new) (before ∙ ap (λ v. last_before v.sections i) (sym view))
      without))

-- where there is none, all stays
pub nth_nowhere : (o : ParseOption) (name : Option Text) (key : Text) (n : ℕ) (ss : List SectionPiece)
    → pair_place name key n ss ≡ None → deleted_nth o name key n ss ≡ ss
nth_nowhere o name key n ss is = ap (λ p. edited_at (deleted_at o) p ss) is

pub from_nowhere : (o : ParseOption) (name : Option Text) (key : Text) (n : ℕ) (ss : List SectionPiece)
    → pair_place name key n ss ≡ None → deleted_from o name key n ss ≡ ss
from_nowhere o name key n ss is = by (section_place name ss) is
  where
    by : (s : Option (Place SectionPiece))
        → option_and_then (pair_within key n) s ≡ None
        → deleted_times o name key n
        (edited_at (λ s. count_by (λ p. is_text key p.key) s.here.pairs) s 0 - n) ss ≡ ss
    by None gone = let nothing : 0 - n ≡ 0 = omega arith in ap (λ k. deleted_times o name key n k ss) nothing
    by (Some s) gone =
        let above = none_above (nth_none (λ p. is_text key p.key) s.here.pairs n
        (unmapped (placed_in s) (nth_place (λ p. is_text key p.key) n s.here.pairs) gone)) in
        let nothing : count_by (λ p. is_text key p.key) s.here.pairs - n ≡ 0 = omega (arith, above) in
        ap (λ k. deleted_times o name key n k ss) nothing
