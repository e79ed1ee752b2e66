-- The last parts of a section, written anew: what is kept of its last gap, lines, and a rest.
use Rattle.std.proofs.Common.{◌≡◌, ◌∙◌, ◌<◌, ◌+◌, ◌&&◌, ℕ, Bool, true, false, not, cond, List, [], ◌∷◌, ◌++◌}
use Rattle.std.proofs.Common.{Option, None, String, ap, append_assoc, arith, drop, get_or, length, refl}
use Rattle.std.proofs.Common.{subst, sym, take}
use Rattle.std.specs.declared.alloc.Global.{Global}
use Rattle.std.proofs.lemmas.Bool.{and_right, cond-false}
use Rattle.std.proofs.lemmas.List.{append_cancel_right, drop_at, take_all}
use Rattle.ini_text.specs.Grammar.Places.{pair_source}
use Rattle.ini_text.specs.Grammar.Positions.{is_column_one}
use Rattle.ini_text.specs.Parsing.Fronts.{IsRest, front_of}
use Rattle.ini_text.specs.Parsing.Items.{string_text}
use Rattle.ini_text.specs.declared.option.ParseOption.{ParseOption}
use Rattle.ini_text.proofs.StringLemmas.FrontLemmas.{front_is}
use Rattle.ini.specs.Texts.{Text}
use Rattle.ini_edit.specs.Inside.SourceEnds.{IsKept, end_put_last, put_after_kept, takes_lines}
use Rattle.ini_edit.specs.Inside.SourceEnds.{trailing_of, with_new_end, word_of}
use Rattle.ini_edit.specs.Inside.Spans.{span_source}
use Rattle.ini_edit.specs.SourceEdits.{with_pairs}
use Rattle.ini_edit.specs.SourceEditsAdd.{closed, closed_word}
use Rattle.ini_edit.specs.SourceEditsDelete.{line_end_after, lines_after, with_rest}
use Rattle.ini_edit.specs.SourceEditsSections.{is_pair_ended, rest_before_header, with_last_closed}
use Rattle.ini_edit.specs.SourceLines.{comments_at_end, indentation_at_end, is_empty}
use Rattle.ini_edit.specs.SourcePlaces.{gap_of, last_gap, last_word, with_after, with_end, with_last_word}
use Rattle.ini_edit.specs.Sources.{PairPiece, SectionPiece, is_multiline, joined, section_text}
use Rattle.ini_edit.specs.declared.source.pair.ends.NewEnd.{NewEnd}
use Rattle.ini_edit.proofs.SectionEndLemmas.{LastOf, last_of, put_one}
use Rattle.ini_edit.proofs.SourcePartLemmas.{rest_after, rest_taken, take_before, to_last}
use Rattle.ini_edit.proofs.SourcePlaceLemmas.{end_put-end, ends_in_value-end, gap_of-end, last_changed-end}
use Rattle.ini_edit.proofs.SourcePlaceLemmas.{same_word, trailing_of-end, word_lines, word_multiline}
use Rattle.ini_edit.proofs.SourceSpanLemmas.{spans_to_gap, text_to_gap}

swapped : (a b : Bool) → (a && b) ≡ (b && a)
swapped true true = refl
swapped true false = refl
swapped false true = refl
swapped false false = refl

-- without pairs no lines are taken, and else where the gap begins with them
module _ (o : ParseOption) (kept : Text) where
  takes_none : takes_lines o kept [] ≡ false
  takes_none = and_right (is_empty kept) false refl

  pub takes_last : (ps : List PairPiece) (p : PairPiece)
      → takes_lines o kept (ps ++ p ∷ []) ≡ (is_multiline o p && is_empty kept)
  takes_last ps p =
      ap (λ b. is_empty kept && b) (ends_in_value-end o ps p) ∙ swapped (is_empty kept) (is_multiline o p)

module _ (o : ParseOption) (kept lines rest : Text) where
  -- the last pair changed, and its last parts put in
  last_kept : (s : SectionPiece) (ps : List PairPiece) (p q : PairPiece) (e : NewEnd)
      → with_new_end e p ≡ with_rest o lines rest (record q { after = kept })
      → end_put_last e (with_pairs s (ps ++ p ∷ []))
      ≡ put_after_kept o kept lines rest (with_pairs s (ps ++ q ∷ []))
  last_kept s ps p q e put =
      end_put-end (with_pairs s (ps ++ p ∷ [])) ps p [] e ∙ ap (λ r. with_pairs s (ps ++ r ∷ [])) put
      ∙ sym (put_one o kept lines rest (with_pairs s (ps ++ q ∷ [])) ps q refl)

  -- a pair's last parts
  new_end_kept : (p : PairPiece) (b : Bool) {t g : Text} → (is_multiline o p && is_empty kept) ≡ b
      → t ≡ cond b (p.stretches.trailing_lines ++ lines) p.stretches.trailing_lines
      → g ≡ cond b (kept ++ rest) (kept ++ (lines ++ rest))
      → with_end t g p ≡ with_rest o lines rest (record p { after = kept })
  new_end_kept p true is is_t is_g = rest_taken o lines rest (record p { after = kept }) is is_t is_g
  new_end_kept p false is is_t is_g =
      rest_after o lines rest (record p { after = kept }) is is_t (is_g ∙ sym (append_assoc kept lines rest))

  module _ (s : SectionPiece) (e : NewEnd) (raw : Option (String Global)) where
    abbrev with_raw : NewEnd
    with_raw =
        record { last_word = raw; trailing_lines = e.trailing_lines; after = e.after; room = e.room }

    -- with the last pair's last word closed, or not
    abbrev ClosesInto : Bool → List PairPiece → Type 0
    ClosesInto closes ps =
        ((front : List PairPiece) (p : PairPiece) → ps ≡ front ++ p ∷ []
        → word_of (last_word p) raw ≡ cond closes (closed_word o p) (last_word p))
        → IsKept o kept lines rest ps e
        → end_put_last with_raw (with_pairs s ps)
        ≡ put_after_kept o kept lines rest (with_last_closed o closes (with_pairs s ps))

    none_closed : (closes : Bool) → ClosesInto closes []
    none_closed closes raw_is is = at closes
      where
        text : string_text e.after ≡ kept ++ (lines ++ rest)
        text = is.after ∙ cond-false (takes_lines o kept []) _ _ (takes_none o kept)

        at : (closes : Bool) → end_put_last with_raw (with_pairs s [])
            ≡ put_after_kept o kept lines rest (with_last_closed o closes (with_pairs s []))
        at true = ap (λ t. with_after t (with_pairs s [])) text
        at false = ap (λ t. with_after t (with_pairs s [])) text

    last_closed : (closes : Bool) (front : List PairPiece) (p : PairPiece)
        → ClosesInto closes (front ++ p ∷ [])
    last_closed closes front p raw_is is = at closes (raw_is front p refl)
      where
        b : Bool
        b = is_multiline o p && is_empty kept

        lines_is : string_text e.trailing_lines
            ≡ cond b (p.stretches.trailing_lines ++ lines) p.stretches.trailing_lines
        lines_is = is.trailing_lines
            ∙ ap (λ x. cond x (trailing_of (front ++ p ∷ []) ++ lines) (trailing_of (front ++ p ∷ [])))
            (takes_last o kept front p)
            ∙ ap (λ t. cond b (t ++ lines) t) (trailing_of-end front p)

        after_is : string_text e.after ≡ cond b (kept ++ rest) (kept ++ (lines ++ rest))
        after_is = is.after ∙ ap (λ x. cond x (kept ++ rest) (kept ++ (lines ++ rest))) (takes_last o kept front p)

        put : (new : Text) → word_of (last_word p) raw ≡ new
            → end_put_last with_raw (with_pairs s (front ++ p ∷ []))
            ≡ put_after_kept o kept lines rest (with_pairs s (front ++ with_last_word new p ∷ []))
        put new same =
            let q = with_last_word new p in
            last_kept s front p q with_raw
            (ap (λ r. with_end (string_text e.trailing_lines) (string_text e.after) (with_last_word r p)) same
            ∙ new_end_kept q b (ap (λ m. m && is_empty kept) (word_multiline o new p))
            (lines_is ∙ ap (λ t. cond b (t ++ lines) t) (sym (word_lines new p))) after_is)

        at : (closes : Bool) → word_of (last_word p) raw ≡ cond closes (closed_word o p) (last_word p)
            → end_put_last with_raw (with_pairs s (front ++ p ∷ []))
            ≡ put_after_kept o kept lines rest (with_last_closed o closes (with_pairs s (front ++ p ∷ [])))
        at true same =
            put (closed_word o p) same
            ∙ ap (λ ps. put_after_kept o kept lines rest (with_pairs s ps))
            (sym (last_changed-end (closed o) front p))
        at false same =
            put (last_word p) same
            ∙ ap (λ q. put_after_kept o kept lines rest (with_pairs s (front ++ q ∷ []))) (same_word p)

    pub closed_put : (closes : Bool) → ClosesInto closes s.pairs
    closed_put closes = at (last_of s.pairs)
      where
        at : LastOf s.pairs → ClosesInto closes s.pairs
        at (LastOf.nothing is) = subst (ClosesInto closes) (sym is) (none_closed closes)
        at (LastOf.one front p is) = subst (ClosesInto closes) (sym is) (last_closed closes front p)

  pub kept_put : (s : SectionPiece) (e : NewEnd) → IsKept o kept lines rest s.pairs e
      → end_put_last e s ≡ put_after_kept o kept lines rest s
  kept_put s e is =
      ap (λ r. end_put_last
      (record { last_word = r; trailing_lines = e.trailing_lines; after = e.after; room = e.room }) s)
      is.last_word
      ∙ closed_put s e None false (λ front p same. refl) is

pub take_count : {A : Type 0} (xs : List A) (n : ℕ) → n ≡ length xs → take n xs ≡ xs
take_count xs n is = take_all n xs (omega arith)

-- whether LF ends a section's last line
pub pair_ended-end : (o : ParseOption) (ps : List PairPiece) (p : PairPiece)
    → is_pair_ended o (ps ++ p ∷ [])
    ≡ (not (is_empty (line_end_after o p) && is_empty (lines_after o p))
    && is_column_one p.stretches.trailing_lines)
pair_ended-end o [] p = refl
pair_ended-end o (q ∷ []) p = refl
pair_ended-end o (q ∷ r ∷ ps) p = pair_ended-end o (r ∷ ps) p

-- a gap in three parts, of which two stay
pub parts_whole : (indentation comments : Text) {gap front before : Text} → IsRest gap indentation
    → front ≡ front_of gap indentation → IsRest front comments → before ≡ front_of front comments
    → before ++ (comments ++ indentation) ≡ gap
parts_whole indentation comments {front = front} h is_front g is_before =
    ap (λ b. b ++ (comments ++ indentation)) is_before
    ∙ sym (append_assoc (front_of front comments) comments indentation)
    ∙ ap (λ t. t ++ indentation) (g ∙ is_front) ∙ h

pub cut_rest_is : (before rest : Text) {gap : Text} → before ++ rest ≡ gap → drop (length before) gap ≡ rest
cut_rest_is before rest whole =
    ap (drop (length before)) (sym whole) ∙ drop_at before rest (length before) refl

pub comments_and_indentation : (before : ℕ) (gap indentation comments : Text)
    → indentation ≡ indentation_at_end before gap
    → comments ≡ comments_at_end before (front_of gap indentation)
    → comments ++ indentation ≡ rest_before_header before gap
comments_and_indentation before gap indentation comments is_indentation is_comments =
    ap (λ c. c ++ indentation) is_comments
    ∙ ap (λ i. comments_at_end before (front_of gap i) ++ i) is_indentation

-- the text up to a gap
pub text_one_on : (s : SectionPiece) (xs : List PairPiece) (i : ℕ) (x : PairPiece) → i < length xs
    → x ≡ get_or xs i x
    → (joined span_source (spans_to_gap s (take i xs)) ++ gap_of s.after (take i xs))
    ++ pair_source x.stretches
    ≡ joined span_source (spans_to_gap s (take (i + 1) xs))
text_one_on s xs i x within is =
    let before = take i xs in
    append_cancel_right _ _ x.after
    (ap (λ t. (t ++ pair_source x.stretches) ++ x.after) (sym (text_to_gap s before))
    ∙ sym (to_last s before x) ∙ text_to_gap s (before ++ x ∷ [])
    ∙ ap (λ g. joined span_source (spans_to_gap s (before ++ x ∷ [])) ++ g) (gap_of-end s.after before x)
    ∙ ap (λ l. joined span_source (spans_to_gap s l) ++ x.after) (sym
    (take_before xs (i + 1) i x refl within is)))

pub text_before_is : (s : SectionPiece) (gap rest : Text) → last_gap s ≡ gap ++ rest
    → joined span_source (spans_to_gap s s.pairs) ++ gap ≡ front_of (section_text s) rest
text_before_is s gap rest is =
    let text = joined span_source (spans_to_gap s s.pairs) in
    sym (front_is (text ++ gap) rest (section_text s) (append_assoc text gap rest
    ∙ ap (λ g. text ++ g) (sym is) ∙ sym (text_to_gap s s.pairs)))
