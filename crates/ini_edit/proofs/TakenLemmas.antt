-- A pair taken out of its section: the sections are those of a whole text still.
use Rattle.std.proofs.Common.{◌≡◌, ◌≢◌, ◌∙◌, ◌==◌, ◌&&◌, ◌||◌, ◌≤◌, ℕ, Bool, true, false, cond, not, List, []}
use Rattle.std.proofs.Common.{◌∷◌, ◌++◌, None, Option, Some, ap, append_assoc, append-nil, arith, eqb-true}
use Rattle.std.proofs.Common.{if◌then◌else◌, inl, inr, length, refl, subst, sym}
use Rattle.std.specs.Prelude.{◌⊎◌, is_some}
use Rattle.std.proofs.lemmas.Bool.{and_from, and_left, and_parts, and_right, both_ways, cases_Bool}
use Rattle.std.proofs.lemmas.Bool.{cond-false, cond-true, false≢true}
use Rattle.std.proofs.lemmas.Bool.{false_from_ne_true, not_from_true, or_cases, or_left, or_parts}
use Rattle.std.proofs.lemmas.List.Folds.{list_all-append}
use Rattle.std.specs.List.{list_all}
use Rattle.ini_text.specs.Grammar.CharacterKinds.{BeginsWith, BeginsWithNo, carriage_return, is_blank}
use Rattle.ini_text.specs.Grammar.CharacterKinds.{is_comment_mark, is_line_end, is_line_feed, line_feed}
use Rattle.ini_text.specs.Grammar.CharacterKinds.{open_bracket, space}
use Rattle.ini_text.specs.Grammar.Places.{after_key_source, pair_source}
use Rattle.ini_text.specs.Grammar.Positions.{last_or}
use Rattle.ini_text.specs.Grammar.CharacterKinds.{begins}
use Rattle.ini_text.specs.Inside.LineReader.{past_note}
use Rattle.ini_text.specs.Parsing.Fronts.{front_of}
use Rattle.ini_text.specs.declared.option.ParseOption.{ParseOption}
use Rattle.ini_text.proofs.GrammarLemmas.ItemLemmas.{element-some}
use Rattle.ini_text.proofs.LawLemmas.ExportedLemmas.{front_is}
use Rattle.ini_text.proofs.LawLemmas.PieceLemmas.{last_or-append}
use Rattle.ini.proofs.KeepingLemmas.{texts_equal}
use Rattle.ini.specs.Texts.{Text, is_text}
use Rattle.ini_edit.specs.Inside.InPlace.{AreInPlace}
use Rattle.ini_edit.specs.Inside.Spans.{AreSections, AreSpans, BeginGeneral, IsPair, IsSpan, Span, gap}
use Rattle.ini_edit.specs.Inside.Spans.{opening, pair, pairs_spans, sections_spans, span_source}
use Rattle.ini_edit.specs.Places.{Follows}
use Rattle.ini_edit.specs.SourceEdits.{with_pairs}
use Rattle.ini_edit.specs.SourceEditsDelete.{after_own, begin_with_blank, empty_comment, ends_in_value}
use Rattle.ini_edit.specs.SourceEditsDelete.{follows_value, gap_after, goes_after, left_after, line_end_after}
use Rattle.ini_edit.specs.SourceEditsDelete.{line_end_left, lines_after, pair_taken_out, rest_put}
use Rattle.ini_edit.specs.SourceEditsDelete.{to_line_feed, with_rest, would_be_taken}
use Rattle.ini_edit.specs.SourceLines.{after_line_end, ends_alike, ends_in_line, is_blank_or_line_end}
use Rattle.ini_edit.specs.SourceLines.{is_empty, line_end_at_end, quiet_lines_at_end}
use Rattle.ini_edit.specs.SourcePlaces.{Place, gap_of, last_before_pair, text_up_to, with_after, with_end}
use Rattle.ini_edit.specs.Sources.{PairPiece, SectionPiece, has_separator, is_multiline, joined}
use Rattle.ini_edit.specs.Sources.{sections_text}
use Rattle.ini_edit.proofs.CommentLemmas.{begins_front, begins_with, no_key}
use Rattle.ini_edit.proofs.CommentPutLemmas.{no_end_begins, pair_follows, pair_then}
use Rattle.ini_edit.proofs.DeletedKeyLemmas.{MayBePut, comment_between, line_left}
use Rattle.ini_edit.proofs.DeletedLinesLemmas.{alike_is, begins_here, end_of, own_of, staying}
use Rattle.ini_edit.proofs.DeletedPairLemmas.{gap_stands, key_some, last_of_pair, lone_stands}
use Rattle.ini_edit.proofs.DeletedPairLemmas.{multiline_to_gap, multiline_to_pair, put_in_lines}
use Rattle.ini_edit.proofs.DeletedPairLemmas.{section_stands, taken_there, value_ends_line, with_lines}
use Rattle.ini_edit.proofs.InPlaceLemmas.{in_place-split, joined-append}
use Rattle.ini_edit.proofs.HeaderLemmas.{header_bracket}
use Rattle.ini_edit.proofs.LineCutLemmas.{OwnCut, past_nothing}
use Rattle.ini_edit.proofs.PairEndLemmas.{gap_lone, gap_on, line_end_off, lines_lone, lines_on, own_off}
use Rattle.ini_edit.proofs.PairEndLemmas.{own_on, rest_off}
use Rattle.ini_edit.proofs.PairViewLemmas.{key_front_of}
use Rattle.ini_edit.proofs.QuietLemmas.{as_header}
use Rattle.ini_edit.proofs.RestPutLemmas.{empty_is}
use Rattle.ini_edit.proofs.SourceDeleteLemmas.{StandsBefore, StaysOf, spans_deleted}
use Rattle.ini_edit.proofs.SourcePlaceLemmas.{gap_of-end, rest_put-end}
use Rattle.ini_edit.proofs.SourceReadLemmas.{begin-same, pairs_spans-append, sections_spans-append}
use Rattle.ini_edit.proofs.SourceSetLemmas.{spans_at, spans_before}
use Rattle.ini_edit.proofs.SourceSpanLemmas.{last_of_pairs}

-- what stays of the gap after a pair in one line
abbrev left_line : ParseOption → (multiline : Bool) (last : ℕ) → (b : Text) → Text
left_line o multiline last b =
    left_after multiline last (line_end_at_end (front_of b (after_line_end (past_note o b)))) []
    (after_line_end (past_note o b))

left_of : (o : ParseOption) (multiline : Bool) (last before : ℕ) (b x : Text)
    → BeginsWithNo is_comment_mark x
    → OwnCut o before b (x ++ [])
    → StaysOf o last before b x (left_line o multiline last b ++ after_line_end (past_note o b))
left_of o multiline last before b x unmarked own = at own
  where
    left : (e c : Text) → Text
    left e c = left_after multiline last e [] c ++ c

    Left : (e c : Text) → Type 0
    Left e c = StaysOf o last before b x (left e c)

    nothing_kept : (goes m ends : Bool)
        → [] ≡ (if goes then [] else (if m && (ends && false) then space ∷ [] else [])) ++ []
    nothing_kept true m ends = refl
    nothing_kept false true true = refl
    nothing_kept false true false = refl
    nothing_kept false false ends = refl

    none_left : StaysOf o last before b x [] → Left [] []
    none_left = subst (StaysOf o last before b x)
        (nothing_kept (goes_after last [] [] []) multiline (is_line_end last))

    at : OwnCut o before b (x ++ [])
        → Left (line_end_at_end (front_of b (after_line_end (past_note o b))))
        (after_line_end (past_note o b))
    at (OwnCut.nothing is) =
        let later : after_line_end (past_note o b) ≡ [] =
        ap (λ t. after_line_end (past_note o t)) is ∙ ap after_line_end (past_nothing o) in
        subst (λ c. Left (line_end_at_end (front_of b c)) c) (sym later)
        (subst (λ f. Left (line_end_at_end f) []) (sym (front_is b [] b (append-nil b)))
        (subst (λ t. Left (line_end_at_end t) []) (sym is)
        (none_left (StaysOf.nothing is unmarked))))
    at (OwnCut.noted some closes none is head) =
        subst (λ c. Left (line_end_at_end (front_of b c)) c) (sym is)
        (subst (λ f. Left (line_end_at_end f) []) (sym (front_is b [] b (append-nil b)))
        (subst (λ e. Left e []) (sym none) (none_left (StaysOf.noted closes))))
    at (OwnCut.cut f e c same head end one ends is) =
        subst (λ d. Left (line_end_at_end (front_of b d)) d) (sym is)
        (subst (λ g. Left (line_end_at_end g) c) (sym (front_is f c b (sym same)))
        (subst (λ e. Left e c) (sym one)
        (by (goes_after last e [] c) (multiline && (is_line_end last && is_text e (carriage_return ∷ [])))
        refl refl)))
      where
        by : (goes blank : Bool) → goes_after last e [] c ≡ goes
            → (multiline && (is_line_end last && is_text e (carriage_return ∷ []))) ≡ blank
            → StaysOf o last before b x ((if goes then [] else (if blank then space ∷ e else e)) ++ c)
        by true blank goes is_blank =
            let parts = and_parts (is_line_end last) _ goes in
            StaysOf.after same head parts.0 (λ mark d. ap is_line_feed (ends d last)
            ∙ alike_is last (last_or last e) (alike (begins_here c x unmarked mark)
            (or_cases (ends_alike last (last_or last e)) (not (begins is_comment_mark c)) parts.1)))
          where
            alike : begins is_comment_mark c ≡ true
                → (ends_alike last (last_or last e) ≡ true) ⊎ (not (begins is_comment_mark c) ≡ true)
                → ends_alike last (last_or last e) ≡ true
            alike mark h = elim h [
              | inl is ↦ is
              | inr other ↦
                  absurd (both_ways (not (begins is_comment_mark c))
                  (not_from_true (begins is_comment_mark c) mark) other)
            ]
        by false true stays is_blank =
            let parts = and_parts (is_line_end last) _ (and_parts multiline _ is_blank).1 in
            let return : e ≡ carriage_return ∷ [] = texts_equal e (carriage_return ∷ []) parts.1 in
            subst (λ f. StaysOf o last before b x ((space ∷ f) ++ c)) (sym return)
            (StaysOf.blank same head (λ d. ends d last ∙ ap (last_or last) return) parts.0)
        by false false stays is_blank = StaysOf.kept same head end (λ d. ends d last)

abbrev taken : ParseOption → (last : ℕ) → PairPiece → Text
taken o last p = line_end_left o last p ++ lines_after o p

module _ (o : ParseOption) (last : ℕ) (p : PairPiece) where
  staying_is : is_multiline o p ≡ true → taken o last p ≡ staying o last p.stretches.trailing_lines p.after
  staying_is goes =
      let t = p.stretches.trailing_lines in
      let q = quiet_lines_at_end o t in
      let on = (and_parts o.enabled_indented_mutiline_value (has_separator p) goes).0 in
      let end : line_end_after o p ≡ end_of o (own_of o t) =
      ap (λ own. cond (is_multiline o p && not (ends_in_line o own)) [] (line_end_at_end own))
      (own_on o p goes)
      ∙ ap (λ m. cond (m && not (ends_in_line o (own_of o t))) [] (line_end_at_end (own_of o t))) goes in
      let put : Bool → Text → Text → Text → Text = λ m e l g. left_after m last e l g ++ l in
      ap (λ m. put m (line_end_after o p) (lines_after o p) (gap_after o p)) on
      ∙ ap (λ e. put true e (lines_after o p) (gap_after o p)) end
      ∙ ap (λ l. put true (end_of o (own_of o t)) l (gap_after o p)) (lines_on o p goes)
      ∙ ap (put true (end_of o (own_of o t)) q) (gap_on o p goes)

  taken_multiline : is_multiline o p ≡ true → taken o last p ++ gap_after o p
      ≡ staying o last p.stretches.trailing_lines p.after ++ p.after
  taken_multiline goes =
      ap (λ t. t ++ gap_after o p) (staying_is goes)
      ∙ ap (λ g. staying o last p.stretches.trailing_lines p.after ++ g) (gap_on o p goes)

  module _ (off : is_multiline o p ≡ false) where
    end_off : line_end_after o p ≡ line_end_at_end (front_of p.after (after_own o p))
    end_off = line_end_off o p off (front_of p.after (after_own o p)) (sym (own_off o p off))

    taken_off : taken o last p ++ gap_after o p
        ≡ left_line o o.enabled_indented_mutiline_value last p.after ++ after_own o p
    taken_off =
        let on = o.enabled_indented_mutiline_value in
        let put : Text → Text → Text = λ e c. left_after on last e [] c ++ c in
        append_assoc (line_end_left o last p) (lines_after o p) (gap_after o p)
        ∙ ap (λ e. put e (lines_after o p ++ gap_after o p)) end_off
        ∙ ap (put (line_end_at_end (front_of p.after (after_own o p)))) (rest_off o p off)

    taken_lone : o.enabled_indented_mutiline_value ≡ true → taken o last p ≡ left_line o true last p.after
    taken_lone on =
        let put : Bool → Text → Text → Text = λ m e l. left_after m last e l (gap_after o p) ++ l in
        ap (put o.enabled_indented_mutiline_value (line_end_after o p)) (lines_lone o p off on)
        ∙ append-nil (left_after o.enabled_indented_mutiline_value last (line_end_after o p) []
        (gap_after o p))
        ∙ ap (λ m. left_after m last (line_end_after o p) [] (gap_after o p)) on
        ∙ ap (λ e. left_after true last e [] (gap_after o p)) end_off
        ∙ ap (left_after true last (line_end_at_end (front_of p.after (after_own o p))) [])
        (gap_lone o p off on)

-- the spans of a pair with lines and a gap after it
abbrev pair_with : ParseOption → PairPiece → (lines g : Text) → List Span
pair_with o q lines g =
    let new = with_rest o lines g q in pair new.stretches new.key new.value ∷ gap new.after ∷ []

rest_apart : (o : ParseOption) (q : PairPiece) (lines g : Text)
    → (is_multiline o q && is_empty q.after) ≡ false
    → with_rest o lines g q ≡ with_end q.stretches.trailing_lines (q.after ++ (lines ++ g)) q
rest_apart o q lines g apart = cond-false (is_multiline o q && is_empty q.after) _ _ apart

rest_within : (o : ParseOption) (q : PairPiece) (lines g : Text) → is_multiline o q ≡ true → q.after ≡ []
    → with_rest o lines g q ≡ with_end (q.stretches.trailing_lines ++ lines) g q
rest_within o q lines g goes none =
    cond-true (is_multiline o q && is_empty q.after) _ _
    (and_from (is_multiline o q) (is_empty q.after) goes (ap is_empty none))
    ∙ ap (λ a. with_end (q.stretches.trailing_lines ++ lines) (a ++ g) q) none

module _ (o : ParseOption) (p : PairPiece) (zs : List Span)
    (unmarked : BeginsWithNo is_comment_mark (joined span_source zs)) where
  rest_unmarked : BeginsWithNo is_comment_mark (joined span_source zs ++ [])
  rest_unmarked = subst (BeginsWithNo is_comment_mark) (sym (append-nil (joined span_source zs))) unmarked

  -- into the gap before it
  to_gap : (xs : List Span) (a : Text)
      → AreSpans o line_feed (xs ++ (gap a ∷ pair p.stretches p.key p.value ∷ gap p.after ∷ zs)) []
      → StandsBefore o (xs ++ gap a ∷ [])
      → AreSpans o line_feed (xs ++ (gap (a ++
      (taken o (last_or line_feed (joined span_source (xs ++ gap a ∷ []))) p ++ gap_after o p)) ∷ zs)) []
  to_gap xs a whole stands = elim (cases_Bool (is_multiline o p)) [
    | inl goes ↦
        subst (λ t. AreSpans o line_feed (xs ++ (gap (a ++ t) ∷ zs)) [])
        (sym (taken_multiline o last p goes))
        (multiline_to_gap xs a p.after p.stretches p.key p.value zs goes whole rest_unmarked stands)
    | inr off ↦
        subst (λ t. AreSpans o line_feed (xs ++ (gap (a ++ t) ∷ zs)) []) (sym (taken_off o last p off))
        (spans_deleted xs a p.after p.stretches p.key p.value zs off whole
        (left_of o o.enabled_indented_mutiline_value last (last_or last (pair_source p.stretches)) p.after
        (joined span_source zs) unmarked) stands)
  ]
    where
      last : ℕ
      last = last_or line_feed (joined span_source (xs ++ gap a ∷ []))

  -- or after the pair before it
  module _ (xs : List Span) (q : PairPiece)
      (whole : AreSpans o line_feed (xs ++ (pair q.stretches q.key q.value ∷ gap q.after
      ∷ pair p.stretches p.key p.value ∷ gap p.after ∷ zs)) []) where
    abbrev end : ℕ
    end = last_or line_feed (joined span_source (xs ++ (pair q.stretches q.key q.value ∷ gap q.after ∷ [])))

    abbrev Put : (lines g : Text) → Type 0
    Put lines g = AreSpans o line_feed (xs ++ (pair_with o q lines g ++ zs)) []

    abbrev spans_of : PairPiece → List Span
    spans_of new = pair new.stretches new.key new.value ∷ gap new.after ∷ []

    stands : (is_multiline o q && is_empty q.after) ≡ false
        → StandsBefore o ((xs ++ pair q.stretches q.key q.value ∷ []) ++ gap q.after ∷ [])
    stands apart = at q.after refl
      where
        front : List Span
        front = xs ++ pair q.stretches q.key q.value ∷ []

        first : (m : Bool) → (m && true) ≡ false → m ≡ false
        first true h = h
        first false h = refl

        at : (a : Text) → q.after ≡ a → StandsBefore o (front ++ gap q.after ∷ [])
        at [] is =
            subst (λ a. StandsBefore o (front ++ gap a ∷ [])) (sym is)
            (lone_stands xs q.stretches q.key q.value
            (first (is_multiline o q) (sym (ap (λ a. is_multiline o q && is_empty a) is) ∙ apart)))
        at (d ∷ a) is =
            gap_stands front q.after (λ empty. (let other : d ∷ a ≡ [] = sym is ∙ empty in cc))

    to_pair_gap : (is_multiline o q && is_empty q.after) ≡ false → Put (taken o end p) (gap_after o p)
    to_pair_gap apart =
        let front = xs ++ pair q.stretches q.key q.value ∷ [] in
        let rest = pair p.stretches p.key p.value ∷ gap p.after ∷ zs in
        subst (λ new. AreSpans o line_feed (xs ++ (spans_of new ++ zs)) [])
        (sym (rest_apart o q (taken o end p) (gap_after o p) apart))
        (subst (λ l. AreSpans o line_feed l [])
        (append_assoc xs (pair q.stretches q.key q.value ∷ [])
        (gap (q.after ++ (taken o end p ++ gap_after o p)) ∷ zs))
        (subst (λ z. AreSpans o line_feed
        (front ++ (gap (q.after ++ (taken o z p ++ gap_after o p)) ∷ zs)) [])
        (ap (λ l. last_or line_feed (joined span_source l))
        (append_assoc xs (pair q.stretches q.key q.value ∷ []) (gap q.after ∷ [])))
        (to_gap front q.after
        (subst (λ l. AreSpans o line_feed l []) (sym (append_assoc xs (pair q.stretches q.key q.value ∷ [])
        (gap q.after ∷ rest))) whole) (stands apart))))

    module _ (goes : is_multiline o q ≡ true) (none : q.after ≡ []) where
      directly : AreSpans o line_feed (xs ++ (pair q.stretches q.key q.value ∷ gap []
          ∷ pair p.stretches p.key p.value ∷ gap p.after ∷ zs)) []
      directly =
          subst (λ a. AreSpans o line_feed (xs ++ (pair q.stretches q.key q.value ∷ gap a
          ∷ pair p.stretches p.key p.value ∷ gap p.after ∷ zs)) []) none whole

      end_is : last_of_pair xs q.stretches ≡ end
      end_is =
          ap (last_or (last_or line_feed (joined span_source xs)))
          (sym (append-nil (pair_source q.stretches))
          ∙ ap (λ a. pair_source q.stretches ++ (a ++ [])) (sym none))
          ∙ sym (last_or-append line_feed (joined span_source xs)
          (pair_source q.stretches ++ (q.after ++ [])))
          ∙ ap (last_or line_feed)
          (sym (joined-append span_source xs (pair q.stretches q.key q.value ∷ gap q.after ∷ [])))

      put : (lines g : Text)
          → AreSpans o line_feed (xs ++ (pair (with_lines lines q.stretches) q.key q.value ∷ gap g ∷ zs)) []
          → Put lines g
      put lines g h =
          subst (λ new. AreSpans o line_feed (xs ++ (spans_of new ++ zs)) [])
          (sym (rest_within o q lines g goes none)) h

      -- a multiline value
      to_pair_lines : is_multiline o p ≡ true → Put (taken o end p) (gap_after o p)
      to_pair_lines is =
          let made = multiline_to_pair xs q.stretches p.stretches q.key q.value p.after p.key p.value zs goes
          directly is rest_unmarked in
          put (taken o end p) (gap_after o p)
          (subst (λ g. AreSpans o line_feed
          (xs ++ (pair (with_lines (taken o end p) q.stretches) q.key q.value
          ∷ gap g ∷ zs)) []) (sym (gap_on o p is))
          (subst (λ t. AreSpans o line_feed (xs ++ (pair (with_lines t q.stretches) q.key q.value
          ∷ gap p.after ∷ zs)) []) (sym (staying_is o end p is))
          (subst (λ z. AreSpans o line_feed (xs ++ (pair
          (with_lines (staying o z p.stretches.trailing_lines p.after) q.stretches) q.key q.value
          ∷ gap p.after ∷ zs)) []) end_is made)))

      -- a key alone
      module _ (off : is_multiline o p ≡ false) where
        on : o.enabled_indented_mutiline_value ≡ true
        on = (and_parts o.enabled_indented_mutiline_value (has_separator q) goes).0

        lone_put : (lines g : Text)
            → MayBePut o (last_of_pair xs q.stretches) p.stretches p.after
            (joined span_source zs ++ []) lines g
            → Put lines g
        lone_put lines g made =
            put lines g
            (put_in_lines xs q.stretches p.stretches q.key q.value p.after p.key p.value zs goes directly
            lines g made.are made.is_gap made.agrees)

        to_pair_line : Follows o (gap_after o p ++ (joined span_source zs ++ []))
            → Put (taken o end p) (gap_after o p)
        to_pair_line follows =
            subst (λ g. Put (taken o end p) g) (sym (gap_lone o p off on))
            (subst (λ t. Put t (after_own o p)) (sym (taken_lone o end p off on))
            (subst (λ z. Put (left_line o true z p.after) (after_own o p)) end_is
            (lone_put (left_line o true (last_of_pair xs q.stretches) p.after) (after_own o p)
            (line_left (taken_there xs q.stretches p.stretches q.key q.value p.after p.key p.value zs goes
            directly) off on
            (value_ends_line xs q.stretches p.stretches q.key q.value p.after p.key p.value zs goes directly)
            rest_unmarked
            (subst (λ g. Follows o (g ++ (joined span_source zs ++ []))) (gap_lone o p off on) follows)))))

        to_pair_apart : BeginsWith is_blank_or_line_end (gap_after o p ++ (joined span_source zs ++ []))
            → Put (to_line_feed end) (empty_comment (line_feed ∷ []) ++ gap_after o p)
        to_pair_apart begins =
            subst (λ g. Put (to_line_feed end) (empty_comment (line_feed ∷ []) ++ g))
            (sym (gap_lone o p off on))
            (subst (λ z. Put (to_line_feed z) (empty_comment (line_feed ∷ []) ++ after_own o p)) end_is
            (lone_put (to_line_feed (last_of_pair xs q.stretches))
            (empty_comment (line_feed ∷ []) ++ after_own o p)
            (comment_between (taken_there xs q.stretches p.stretches q.key q.value p.after p.key p.value zs
            goes directly) off
            (subst (λ g. BeginsWith is_blank_or_line_end (g ++ (joined span_source zs ++ [])))
            (gap_lone o p off on) begins))))

-- what no header and no pair begins with, no item begins with
bracket_apart : (test : ℕ → Bool) → test open_bracket ≡ false → (s x : Text)
    → BeginsWith (λ c. c == open_bracket) s → BeginsWithNo test (s ++ x)
bracket_apart test none [] x h = absurd (false≢true (sym h))
bracket_apart test none (c ∷ s) x h =
    subst (λ d. test d ≡ false) (sym (eqb-true c open_bracket h)) none

module _ {o : ParseOption} (test : ℕ → Bool) (bracket : test open_bracket ≡ false) where
  items_apart : {c : ℕ} (later : List PairPiece) (rest : List SectionPiece)
      → ((q : PairPiece) (more : List PairPiece) → later ≡ q ∷ more → (d : ℕ) (x : Text)
      → IsPair o d q.stretches q.key q.value (x ++ []) → BeginsWithNo test (pair_source q.stretches ++ x))
      → list_all (λ t. is_some t.name) rest ≡ true
      → AreSpans o c (pairs_spans later ++ sections_spans rest) []
      → BeginsWithNo test (joined span_source (pairs_spans later ++ sections_spans rest))
  items_apart [] [] first named h = tt
  items_apart [] (t ∷ rest) first named h = at t.name refl h
    where
      at : {c : ℕ} (name : Option Text) → t.name ≡ name
          → AreSpans o c (opening t.name t.header ∷ gap
          t.after ∷ (pairs_spans t.pairs ++ sections_spans rest))
          []
          → BeginsWithNo test (t.header ++ (t.after
          ++ joined span_source (pairs_spans t.pairs ++ sections_spans rest)))
      at None is h =
          absurd (false≢true (ap is_some (sym is)
          ∙ (and_parts (is_some t.name) (list_all (λ t. is_some t.name) rest) named).0))
      at {c} (Some name) is h =
          by (subst (λ n. AreSpans o c (opening n t.header ∷ gap t.after
          ∷ (pairs_spans t.pairs ++ sections_spans rest)) [])
          is h)
        where
          by : {c : ℕ} → AreSpans o c
              (opening (Some name) t.header ∷ gap t.after ∷ (pairs_spans t.pairs ++ sections_spans rest)) []
              → BeginsWithNo test (t.header ++ (t.after
              ++ joined span_source (pairs_spans t.pairs ++ sections_spans rest)))
          by (AreInPlace.more (IsSpan.header e) later) =
              bracket_apart test bracket t.header (t.after ++ joined span_source
              (pairs_spans t.pairs ++ sections_spans rest))
              (header_bracket (as_header e))
  items_apart (q ∷ later) rest first named (AreInPlace.more (IsSpan.is_pair is) more) =
      first q later refl _ (q.after ++ joined span_source (pairs_spans later ++ sections_spans rest)) is

-- no pair begins with a comment mark or a line end, and one that isn't indented begins with no blank
apart_by : (test : ℕ → Bool) (x : Text) → (BeginsWith test x → ⊥) → BeginsWithNo test x
apart_by test [] h = tt
apart_by test (c ∷ x) h = false_from_ne_true (test c) h

module _ {o : ParseOption} {c : ℕ} (q : PairPiece) (x : Text)
    (is : IsPair o c q.stretches q.key q.value (x ++ [])) where
  pair_said : pair_source q.stretches ++ x ≡ q.stretches.key ++ (after_key_source q.stretches ++ (x ++ []))
  pair_said =
      ap (λ t. pair_source q.stretches ++ t) (sym (append-nil x)) ∙ pair_then q.stretches (x ++ [])

  pair_unmarked : BeginsWithNo is_comment_mark (pair_source q.stretches ++ x)
  pair_unmarked =
      apart_by is_comment_mark (pair_source q.stretches ++ x)
      (λ mark. no_key (key_front_of is) (subst (BeginsWith is_comment_mark) pair_said mark))

  pair_no_end : BeginsWithNo is_line_end (pair_source q.stretches ++ x)
  pair_no_end =
      subst (BeginsWithNo is_line_end) (sym pair_said)
      (no_end_begins (q.stretches.key ++ (after_key_source q.stretches ++ (x ++ []))) (pair_follows is).some)

  pair_no_blank : begins is_blank q.stretches.key ≡ false
      → BeginsWithNo is_blank (pair_source q.stretches ++ x)
  pair_no_blank apart = at q.stretches.key (key_some is) apart
    where
      at : (k : Text) → k ≢ [] → begins is_blank k ≡ false
          → BeginsWithNo is_blank ((k ++ after_key_source q.stretches) ++ x)
      at [] some h = absurd (some refl)
      at (c ∷ k) some h = h

-- of the sections of a text the general one is the first
rest_named : (before : List SectionPiece) (s : SectionPiece) (rest : List SectionPiece)
    → BeginGeneral (before ++ s ∷ rest) → list_all (λ t. is_some t.name) rest ≡ true
rest_named [] s rest h = h.1
rest_named (u ∷ before) s rest h =
    (and_parts (is_some s.name) (list_all (λ t. is_some t.name) rest)
    (and_parts (list_all (λ t. is_some t.name) before) _
    (sym (list_all-append (λ t. is_some t.name) before (s ∷ rest)) ∙ h.1)).1).1

unnamed_first : (before : List SectionPiece) (s : SectionPiece) (rest : List SectionPiece) → s.name ≡ None
    → BeginGeneral (before ++ s ∷ rest) → before ≡ []
unnamed_first [] s rest unnamed h = refl
unnamed_first (u ∷ before) s rest unnamed h =
    absurd (false≢true (ap is_some (sym unnamed)
    ∙ (and_parts (is_some s.name) (list_all (λ t. is_some t.name) rest)
    (and_parts (list_all (λ t. is_some t.name) before) _
    (sym (list_all-append (λ t. is_some t.name) before (s ∷ rest)) ∙ h.1)).1).0))

length_some : {A : Type 0} (x : List A) → 1 ≤ length x → x ≢ []
length_some [] h is = absurd (omega arith)
length_some (c ∷ x) h is = cc

opening_some : {o : ParseOption} {c : ℕ} {r : Text} (name : Option Text) (s : Text) → name ≢ None
    → IsSpan o c (opening name s) r → s ≢ []
opening_some None s named h = absurd (named refl)
opening_some (Some name) s named (IsSpan.header e) = length_some s (element-some e)

-- a section that a pair is taken out of keeps its name
rest_put_name : (o : ParseOption) (lines g : Text) (s : SectionPiece) (before after : List PairPiece)
    → (rest_put o lines g s before after).name ≡ s.name
rest_put_name o lines g s [] after = refl
rest_put_name o lines g s (x ∷ xs) after = refl

pub taken_name : (o : ParseOption) (front : ℕ) (s : SectionPiece) (p : Place PairPiece)
    → (pair_taken_out o front s p).name ≡ s.name
taken_name o front s p = at (follows_value o p.before && would_be_taken o p.here p.after)
  where
    last : ℕ
    last = last_before_pair front s p

    at : (apart : Bool) → (if apart
        then rest_put o (to_line_feed last) (empty_comment (line_feed ∷ []) ++ gap_after o p.here) s p.before
        p.after
        else rest_put o (line_end_left o last p.here ++ lines_after o p.here) (gap_after o p.here) s p.before
        p.after).name ≡ s.name
    at true =
        rest_put_name o (to_line_feed last) (empty_comment (line_feed ∷ []) ++ gap_after o p.here) s p.before
        p.after
    at false =
        rest_put_name o (line_end_left o last p.here ++ lines_after o p.here) (gap_after o p.here) s p.before
        p.after

-- the last of a list, and those before it
record HasLast {A : Type 0} (x : A) (xs : List A) : Type 0 where
  front : List A
  last : A
  whole : x ∷ xs ≡ front ++ last ∷ []

has_last : {A : Type 0} (x : A) (xs : List A) → HasLast x xs
has_last x [] = record { front = []; last = x; whole = refl }
has_last x (y ∷ ys) =
    let more = has_last y ys in
    record { front = x ∷ more.front; last = more.last; whole = ap (λ l. x ∷ l) more.whole }

-- the last of pairs goes on over lines, or none does
pub ends_in_value-end : (o : ParseOption) (ps : List PairPiece) (p : PairPiece)
    → ends_in_value o (ps ++ p ∷ []) ≡ is_multiline o p
ends_in_value-end o [] p = refl
ends_in_value-end o (q ∷ []) p = refl
ends_in_value-end o (q ∷ r ∷ ps) p = ends_in_value-end o (r ∷ ps) p

-- an indented pair begins with a blank
blank_begins : (later : List PairPiece) (rest : List SectionPiece) → begin_with_blank later ≡ true
    → BeginsWith is_blank_or_line_end (joined span_source (pairs_spans later ++ sections_spans rest) ++ [])
blank_begins [] rest h = absurd (false≢true h)
blank_begins (q ∷ later) rest h =
    at q.stretches.key (after_key_source q.stretches)
    (q.after ++ joined span_source (pairs_spans later ++ sections_spans rest)) h
  where
    at : (k t y : Text) → begins is_blank k ≡ true → BeginsWith is_blank_or_line_end (((k ++ t) ++ y) ++ [])
    at [] t y h = absurd (false≢true h)
    at (d ∷ k) t y h = or_left (is_blank d) (is_line_end d) h

-- the spans of pairs and sections that follow
abbrev following_spans : List PairPiece → List SectionPiece → List Span
following_spans later rest = pairs_spans later ++ sections_spans rest

module _ {o : ParseOption} (before : List SectionPiece) (s : SectionPiece) (rest : List SectionPiece)
    (p : PairPiece) (later : List PairPiece) where
  spans_there : (earlier : List PairPiece) → AreSections o
      (before ++ with_pairs s (earlier ++ p ∷ later) ∷ rest)
      → AreSpans o line_feed (spans_before before s earlier
      ++ (pair p.stretches p.key p.value ∷ gap p.after ∷ following_spans later rest)) []
  spans_there earlier h =
      subst (λ l. AreSpans o line_feed l []) (spans_at before s rest earlier later p) h.spans

  zs_there : (earlier : List PairPiece) → AreSections o
      (before ++ with_pairs s (earlier ++ p ∷ later) ∷ rest)
      → (c : ℕ) × AreSpans o c (following_spans later rest) []
  zs_there earlier h =
      at (in_place-split span_source (spans_before before s earlier)
      (pair p.stretches p.key p.value ∷ gap p.after ∷ following_spans later rest) (spans_there earlier h)).1
    where
      at : {c : ℕ} → AreSpans o c (pair p.stretches p.key p.value ∷ gap p.after ∷ following_spans later rest)
          [] → (c : ℕ) × AreSpans o c (following_spans later rest) []
      at (AreInPlace.more _ (AreInPlace.more _ more)) = (_, more)

  following_named : (earlier : List PairPiece) → AreSections o
      (before ++ with_pairs s (earlier ++ p ∷ later) ∷ rest) → list_all (λ t. is_some t.name) rest ≡ true
  following_named earlier h =
      rest_named before (with_pairs s (earlier ++ p ∷ later)) rest h.begin_general

  zs_unmarked : (earlier : List PairPiece) → AreSections o
      (before ++ with_pairs s (earlier ++ p ∷ later) ∷ rest)
      → BeginsWithNo is_comment_mark (joined span_source (following_spans later rest))
  zs_unmarked earlier h =
      items_apart is_comment_mark refl later rest (λ q more same d x is. pair_unmarked q x is)
      (following_named earlier h) (zs_there earlier h).1

  -- the first pair of its section
  first_taken : AreSections o (before ++ with_pairs s (p ∷ later) ∷ rest)
      → AreSpans o line_feed (sections_spans (before
      ++ pair_taken_out o (last_or line_feed (sections_text before)) s
      (record { before = []; here = p; after = later }) ∷ rest)) []
  first_taken h =
      let base = sections_spans before in
      let first = opening s.name s.header in
      let last = last_or (last_or line_feed (sections_text before)) (text_up_to s []) in
      let new = s.after ++ (taken o last p ++ gap_after o p) in
      let there = spans_there [] h in
      let in_two = append_assoc base (first ∷ []) (gap s.after ∷ []) in
      let whole : AreSpans o line_feed ((base ++ first ∷ []) ++ (gap s.after ∷ pair p.stretches p.key p.value
      ∷ gap p.after ∷ following_spans later rest)) [] =
      subst (λ l. AreSpans o line_feed l [])
      (append_assoc base (first ∷ gap s.after ∷ [])
      (pair p.stretches p.key p.value ∷ gap p.after ∷ following_spans later rest)
      ∙ sym (append_assoc base (first ∷ []) (gap s.after ∷ pair p.stretches p.key p.value ∷ gap p.after
      ∷ following_spans later rest)))
      there in
      let made = to_gap o p (following_spans later rest) (zs_unmarked [] h)
      (base ++ first ∷ []) s.after whole
      (section_stands base s.name s.header s.after (header_there there)) in
      let same : last_or line_feed (joined span_source ((base ++ first ∷ []) ++ gap s.after ∷ [])) ≡ last =
      ap (λ l. last_or line_feed (joined span_source l)) in_two
      ∙ sym (last_of_pairs (record { before = before; here = s; after = rest }) []) in
      subst (λ l. AreSpans o line_feed l [])
      (append_assoc base (first ∷ []) (gap new ∷ following_spans later rest)
      ∙ sym (sections_spans-append before (with_after new (with_pairs s later) ∷ rest)))
      (subst (λ z. AreSpans o line_feed ((base ++ first ∷ [])
      ++ (gap (s.after ++ (taken o z p ++ gap_after o p)) ∷ following_spans later rest)) []) same made)
    where
      header_there : AreSpans o line_feed
          (spans_before before s [] ++ (pair p.stretches p.key p.value ∷ gap p.after
          ∷ following_spans later rest)) []
          → (sections_spans before ≡ []) ⊎ (s.header ≢ [])
      header_there there = at s.name refl
        where
          opens : {c : ℕ} {ys : List Span} → s.name ≢ None
              → AreSpans o c (opening s.name s.header ∷ ys) [] → s.header ≢ []
          opens named (AreInPlace.more is more) = opening_some s.name s.header named is

          at : (name : Option Text) → s.name ≡ name → (sections_spans before ≡ []) ⊎ (s.header ≢ [])
          at None is =
              inl (ap sections_spans (unnamed_first before
              (with_pairs s (p ∷ later)) rest is h.begin_general))
          at (Some name) is =
              inr (opens (λ unnamed. (let other : Some name ≡ None = sym is ∙ unnamed in cc))
              (in_place-split span_source (sections_spans before)
              (opening s.name s.header ∷ gap s.after ∷ pair p.stretches p.key p.value ∷ gap p.after
              ∷ following_spans later rest)
              (subst (λ l. AreSpans o line_feed l [])
              (append_assoc (sections_spans before) (opening s.name s.header ∷ gap s.after ∷ [])
              (pair p.stretches p.key p.value ∷ gap p.after ∷ following_spans later rest)) there)).1)

  -- a later one
  module _ (x : PairPiece) (xs : List PairPiece)
      (h : AreSections o (before ++ with_pairs s ((x ∷ xs) ++ p ∷ later) ∷ rest)) where
    abbrev place : Place PairPiece
    place = record { before = x ∷ xs; here = p; after = later }

    abbrev last : ℕ
    last = last_or (last_or line_feed (sections_text before)) (text_up_to s (x ∷ xs))

    abbrev new : SectionPiece
    new = pair_taken_out o (last_or line_feed (sections_text before)) s place

    abbrev view : HasLast x xs
    view = has_last x xs

    abbrev q : PairPiece
    q = view.last

    abbrev base : List Span
    base = spans_before before s view.front

    abbrev zs : List Span
    zs = following_spans later rest

    abbrev lone_gap : Text
    lone_gap = gap_after o p

    more : spans_before before s (x ∷ xs) ≡ base ++ (pair q.stretches q.key q.value ∷ gap q.after ∷ [])
    more =
        ap (λ ps. sections_spans before ++ (opening s.name s.header ∷ gap s.after ∷ ps))
        (ap pairs_spans view.whole ∙ pairs_spans-append view.front (q ∷ []))
        ∙ sym (append_assoc (sections_spans before)
        (opening s.name s.header ∷ gap s.after ∷ pairs_spans view.front)
        (pair q.stretches q.key q.value ∷ gap q.after ∷ []))

    whole : AreSpans o line_feed (base ++ (pair q.stretches q.key q.value ∷ gap q.after
        ∷ pair p.stretches p.key p.value ∷ gap p.after ∷ zs)) []
    whole =
        let two = pair q.stretches q.key q.value ∷ gap q.after ∷ [] in
        let one = pair p.stretches p.key p.value ∷ gap p.after ∷ zs in
        subst (λ l. AreSpans o line_feed l []) (ap (λ l. l ++ one) more ∙ append_assoc base two one)
        (spans_there (x ∷ xs) h)

    unmarked : BeginsWithNo is_comment_mark (joined span_source zs)
    unmarked = zs_unmarked (x ∷ xs) h

    last_is : last_or line_feed (joined span_source
        (base ++ (pair q.stretches q.key q.value ∷ gap q.after ∷ []))) ≡ last
    last_is =
        ap (λ l. last_or line_feed (joined span_source l)) (sym more)
        ∙ sym (last_of_pairs (record { before = before; here = s; after = rest }) (x ∷ xs))

    put_taken : (lines g : Text) → new ≡ rest_put o lines g s (x ∷ xs) later
        → AreSpans o line_feed (base ++ (pair_with o q lines g ++ zs)) []
        → AreSpans o line_feed (sections_spans (before ++ new ∷ rest)) []
    put_taken lines g is made =
        subst (λ l. AreSpans o line_feed l [])
        (sym (ap (λ t. sections_spans (before ++ t ∷ rest))
        (is ∙ ap (λ ps. rest_put o lines g s ps later) view.whole
        ∙ rest_put-end s view.front q later o lines g)
        ∙ spans_at before s rest view.front later (with_rest o lines g q))) made

    follows_is : follows_value o (x ∷ xs) ≡ (is_multiline o q && is_empty q.after)
    follows_is =
        ap (follows_value o) view.whole
        ∙ ap (λ m. m && is_empty (gap_of [] (view.front ++ q ∷ []))) (ends_in_value-end o view.front q)
        ∙ ap (λ g. is_multiline o q && is_empty g) (gap_of-end [] view.front q)

    -- no comment stands between
    plainly : (follows_value o (x ∷ xs) && would_be_taken o p later) ≡ false
        → AreSpans o line_feed (base ++ (pair_with o q (taken o (last_or line_feed (joined span_source
        (base ++ (pair q.stretches q.key q.value ∷ gap q.after ∷ [])))) p) lone_gap ++ zs)) []
        → AreSpans o line_feed (sections_spans (before ++ new ∷ rest)) []
    plainly stays made =
        put_taken (taken o last p) lone_gap
        (cond-false (follows_value o (x ∷ xs) && would_be_taken o p later) _ _ stays)
        (subst (λ z. AreSpans o line_feed (base ++ (pair_with o q (taken o z p) lone_gap ++ zs)) []) last_is
        made)

    -- a key alone after a multiline value
    module _ (goes : is_multiline o q ≡ true) (none : q.after ≡ []) (off : is_multiline o p ≡ false) where
      multi : o.enabled_indented_mutiline_value ≡ true
      multi = (and_parts o.enabled_indented_mutiline_value (has_separator q) goes).0

      lone : has_separator p ≡ false
      lone = sym (ap (λ b. b && has_separator p) multi) ∙ off

      abbrev takes : Bool
      takes = begins is_blank_or_line_end lone_gap || (is_empty lone_gap && begin_with_blank later)

      takes_is : would_be_taken o p later ≡ takes
      takes_is =
          ap (λ m. m && (not (has_separator p) && takes)) multi ∙ ap (λ b. not b && takes) lone

      taken_begins : would_be_taken o p later ≡ true
          → BeginsWith is_blank_or_line_end (lone_gap ++ (joined span_source zs ++ []))
      taken_begins take =
          elim (or_cases (begins is_blank_or_line_end lone_gap) (is_empty lone_gap && begin_with_blank later)
          (sym takes_is ∙ take)) [
            | inl begins ↦
                begins_front is_blank_or_line_end lone_gap (joined span_source zs ++ [])
                (begins_with is_blank_or_line_end lone_gap begins)
            | inr both ↦
                let parts = and_parts (is_empty lone_gap) (begin_with_blank later) both in
                subst (λ g. BeginsWith is_blank_or_line_end (g ++ (joined span_source zs ++ [])))
                (sym (empty_is lone_gap parts.0)) (blank_begins later rest parts.1)
          ]

      left_follows : would_be_taken o p later ≡ false
          → Follows o (lone_gap ++ (joined span_source zs ++ []))
      left_follows stay =
          let parts = or_parts (begins is_blank_or_line_end lone_gap)
          (is_empty lone_gap && begin_with_blank later) (sym takes_is ∙ stay) in
          at lone_gap parts.0 parts.1
        where
          no_blank_first : (q : PairPiece) (more : List PairPiece) → begin_with_blank later ≡ false
              → later ≡ q ∷ more → begins is_blank q.stretches.key ≡ false
          no_blank_first q more apart same = sym (ap begin_with_blank same) ∙ apart

          at : (g : Text) → begins is_blank_or_line_end g ≡ false
              → (is_empty g && begin_with_blank later) ≡ false
              → Follows o (g ++ (joined span_source zs ++ []))
          at (d ∷ g) apart any =
              let parts = or_parts (is_blank d) (is_line_end d) apart in
              record { no_blank = λ _. parts.0; no_line_end = λ _. parts.1 }
          at [] any apart =
              let spans = (zs_there (x ∷ xs) h).1 in
              let named = following_named (x ∷ xs) h in
              record {
                no_blank = λ _. subst (BeginsWithNo is_blank) (sym (append-nil (joined span_source zs)))
                    (items_apart is_blank refl later rest
                    (λ q more same d x is. pair_no_blank q x is (no_blank_first q more apart same)) named
                    spans);
                no_line_end = λ _. subst (BeginsWithNo is_line_end)
                    (sym (append-nil (joined span_source zs)))
                    (items_apart is_line_end refl later rest (λ q more same d x is. pair_no_end q x is)
                    named spans);
              }

      lone_taken : follows_value o (x ∷ xs) ≡ true
          → AreSpans o line_feed (sections_spans (before ++ new ∷ rest)) []
      lone_taken follows = elim (cases_Bool (would_be_taken o p later)) [
        | inl take ↦
            let g = empty_comment (line_feed ∷ []) ++ lone_gap in
            put_taken (to_line_feed last) g
            (cond-true (follows_value o (x ∷ xs) && would_be_taken o p later) _ _
            (and_from (follows_value o (x ∷ xs)) (would_be_taken o p later) follows take))
            (subst (λ z. AreSpans o line_feed (base ++ (pair_with o q (to_line_feed z) g ++ zs)) []) last_is
            (to_pair_apart o p zs unmarked base q whole goes none off (taken_begins take)))
        | inr stay ↦
            plainly (and_right (follows_value o (x ∷ xs)) (would_be_taken o p later) stay)
            (to_pair_line o p zs unmarked base q whole goes none off (left_follows stay))
      ]

    -- no multiline value takes what follows one
    value_stays : is_multiline o p ≡ true → would_be_taken o p later ≡ false
    value_stays is =
        let some = (and_parts o.enabled_indented_mutiline_value (has_separator p) is).1 in
        and_right o.enabled_indented_mutiline_value _
        (and_left (not (has_separator p)) _ (not_from_true (has_separator p) some))

    later_taken : AreSpans o line_feed (sections_spans (before ++ new ∷ rest)) []
    later_taken = elim (cases_Bool (is_multiline o q && is_empty q.after)) [
      | inl both ↦
          let parts = and_parts (is_multiline o q) (is_empty q.after) both in
          let none = empty_is q.after parts.1 in
          elim (cases_Bool (is_multiline o p)) [
            | inl is ↦
                plainly (and_right (follows_value o (x ∷ xs)) (would_be_taken o p later) (value_stays is))
                (to_pair_lines o p zs unmarked base q whole parts.0 none is)
            | inr off ↦ lone_taken parts.0 none off (follows_is ∙ both)
          ]
      | inr apart ↦
          plainly (and_left (follows_value o (x ∷ xs)) (would_be_taken o p later) (follows_is ∙ apart))
          (to_pair_gap o p zs unmarked base q whole apart)
    ]

  -- the pair taken out of its section
  pub sections_taken : (earlier : List PairPiece)
      → AreSections o (before ++ with_pairs s (earlier ++ p ∷ later) ∷ rest)
      → AreSections o (before ++ pair_taken_out o (last_or line_feed (sections_text before)) s
      (record { before = earlier; here = p; after = later }) ∷ rest)
  sections_taken [] h = record {
    begin_general = begin-same before (with_pairs s (p ∷ later)) _ rest refl h.begin_general;
    spans = first_taken h;
  }
  sections_taken (x ∷ xs) h = record {
    begin_general = begin-same before (with_pairs s ((x ∷ xs) ++ p ∷ later)) (new x xs h) rest
        (taken_name o (last_or line_feed (sections_text before)) s (place x xs h)) h.begin_general;
    spans = later_taken x xs h;
  }
