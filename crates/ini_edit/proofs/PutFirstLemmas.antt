-- A section's first pair put in: its spans, and what stands before them.
use Rattle.std.proofs.Common.{◌≡◌, ◌∙◌, ◌&&◌, ℕ, Bool, true, false, cond, not, List, [], ◌∷◌, ◌++◌, ap}
use Rattle.std.proofs.Common.{append_assoc, append-nil, inl, inr, refl, subst, sym}
use Rattle.std.proofs.lemmas.Bool.{and_cases, and_parts, both_ways, cases_Bool, cond-false, cond-true}
use Rattle.std.proofs.lemmas.Bool.{false≢true, not-false, not-true, or_left}
use Rattle.std.specs.List.{list_all}
use Rattle.ini_text.specs.Grammar.CharacterKinds.{BeginsWith, BeginsWithNo, is_blank}
use Rattle.ini_text.specs.Grammar.CharacterKinds.{is_comment_mark, is_line_end, is_line_feed, line_feed}
use Rattle.ini_text.specs.Grammar.Places.{pair_source}
use Rattle.ini_text.specs.Grammar.Positions.{is_column_one, last_or}
use Rattle.ini_text.specs.Grammar.Values.{LineEnd}
use Rattle.ini_text.specs.Grammar.CharacterKinds.{begins}
use Rattle.ini_text.specs.Laws.PieceLaws.{Agree}
use Rattle.ini_text.specs.declared.option.ParseOption.{ParseOption}
use Rattle.ini_text.proofs.LawLemmas.PieceLemmas.{last_or-append}
use Rattle.ini.specs.Texts.{Text}
use Rattle.ini_edit.specs.Inside.InPlace.{AreInPlace}
use Rattle.ini_edit.specs.Inside.Spans.{AreSpans, IsGap, IsPair, IsSpan, Span, gap, pair, span_source}
use Rattle.ini_edit.specs.SourceEditsAdd.{GapPlace, Maker, end_at}
use Rattle.ini_edit.specs.SourceLines.{is_empty}
use Rattle.ini_edit.specs.Sources.{PairPiece, joined}
use Rattle.ini_edit.proofs.FirstPlaceLemmas.{IsFirstPlace, IsFreePlace}
use Rattle.ini_edit.proofs.CommentLemmas.{begins_with}
use Rattle.ini_edit.proofs.EndingLemmas.{no_feed_by}
use Rattle.ini_edit.proofs.GapLemmas.{gap_join, gap_like}
use Rattle.ini_edit.proofs.GapPartLemmas.{all_last}
use Rattle.ini_edit.proofs.InPlaceLemmas.{in_place-join, in_place-like, in_place-split}
use Rattle.ini_edit.proofs.MakerLemmas.{MakesReadPairs, made_last}
use Rattle.ini_edit.proofs.HeaderLemmas.{EmptyOrHeader}
use Rattle.ini_edit.proofs.SectionTakenLemmas.{header_alike}
use Rattle.ini_edit.proofs.SourceAddLemmas.{IsNewEnd, line_ends_gap}
use Rattle.ini_edit.proofs.SourceSetLemmas.{before_tail}
use Rattle.ini_edit.proofs.SpanLemmas.{spans_local}

module _ (o : ParseOption) (xs zs : List Span) (old kept : Text) (n : PairPiece) where
  abbrev front_last : ℕ
  front_last = last_or line_feed (joined span_source xs)

  abbrev with_new : List Span
  with_new = pair n.stretches n.key n.value ∷ gap n.after ∷ zs

  abbrev following : Text
  following = joined span_source zs ++ []

  -- The new pair is in its place, after what is kept of the gap, and before what follows.
  pub record IsFirstThere : Type 0 where
    pub front : AreSpans o line_feed xs ((old ++ joined span_source zs) ++ [])
        → AreSpans o line_feed xs ((kept ++ joined span_source with_new) ++ [])
    pub kept_gap : IsGap o front_last kept (joined span_source with_new ++ [])
    pub is : IsPair o (last_or front_last kept) n.stretches n.key n.value (n.after ++ following)
    pub is_gap : IsGap o (last_or (last_or front_last kept) (pair_source n.stretches)) n.after following
    pub header : EmptyOrHeader (joined span_source zs)

  pub spans_put_first : AreSpans o line_feed (xs ++ (gap old ∷ zs)) [] → IsFirstThere
      → AreSpans o line_feed (xs ++ (gap kept ∷ with_new)) []
  spans_put_first h new =
      let split = in_place-split span_source xs (gap old ∷ zs) h in
      at split.0 split.1
    where
      at : AreSpans o line_feed xs ((old ++ joined span_source zs) ++ [])
          → AreSpans o front_last (gap old ∷ zs) []
          → AreSpans o line_feed (xs ++ (gap kept ∷ with_new)) []
      at before (AreInPlace.more (IsSpan.is_gap g) later) =
          in_place-join span_source xs (gap kept ∷ with_new) (new.front before)
          (AreInPlace.more (IsSpan.is_gap new.kept_gap)
          (AreInPlace.more
          (IsSpan.is_pair (subst (IsPair o (last_or front_last kept) n.stretches n.key n.value)
          (sym (append_assoc n.after (joined span_source zs) [])) new.is))
          (AreInPlace.more (IsSpan.is_gap new.is_gap)
          (in_place-like span_source spans_local (header_alike new.header) later))))

-- A line end of a new pair at a place: a comment behind CR stays behind one.
pub record IsEndAt (c : ℕ) (q : GapPlace) (r : Text) (e : ℕ) (es : Text) : Type 0 where
  pub all : list_all is_line_end (e ∷ es) ≡ true
  pub is_end : LineEnd (e ∷ es) (q.lines ++ (q.after ++ r))
  pub column : BeginsWith is_comment_mark (q.lines ++ q.after)
      → is_line_feed (last_or c q.before) ≡ is_line_feed (last_or e es)

pub data EndAt (c : ℕ) (q : GapPlace) (r : Text) : Text → Type 0 where
  stands_so : {e : ℕ} {es : Text} → IsEndAt c q r e es → EndAt c q r (e ∷ es)

mark_no_feed : (t r : Text) → BeginsWith is_comment_mark t → BeginsWithNo is_line_feed (t ++ r)
mark_no_feed [] r mark = absurd (false≢true (sym mark))
mark_no_feed (m ∷ t) r mark = no_feed_by is_comment_mark m refl mark

last_same : (c : ℕ) (t : Text) (b : Bool) → is_column_one t ≡ b → (t ≡ [] → is_line_feed c ≡ b)
    → is_line_feed (last_or c t) ≡ b
last_same c [] b is empty = empty refl
last_same c (x ∷ t) b is empty = is

begins_is : (test : ℕ → Bool) (x : Text) → BeginsWith test x → begins test x ≡ true
begins_is test [] h = absurd (false≢true (sym h))
begins_is test (c ∷ x) h = h

-- a text of two parts begins as the first does, or, where that is empty, as the second
pub begins_later : (test : ℕ → Bool) (t r : Text) → is_empty t ≡ true → begins test (t ++ r) ≡ begins test r
begins_later test [] r none = refl
begins_later test (c ∷ t) r none = absurd (false≢true none)

pub begins_sooner : (test : ℕ → Bool) (t r : Text) → is_empty t ≡ false
    → begins test (t ++ r) ≡ begins test t
begins_sooner test [] r some = absurd (false≢true (sym some))
begins_sooner test (c ∷ t) r some = refl

pub end_there : (c : ℕ) (q : GapPlace) (r : Text) {d : ℕ} {ds : Text} → IsNewEnd d ds
    → (q.before ≡ [] → BeginsWith is_comment_mark (q.lines ++ q.after) → is_line_feed c ≡ true)
    → EndAt c q r (end_at (d ∷ ds) q)
end_there c q r {d} {ds} end front =
    by (begins is_comment_mark (q.lines ++ q.after) && not (is_column_one q.before)) refl
  where
    by : (b : Bool) → (begins is_comment_mark (q.lines ++ q.after) && not (is_column_one q.before)) ≡ b
        → EndAt c q r (end_at (d ∷ ds) q)
    by true h =
        let parts = and_parts (begins is_comment_mark (q.lines ++ q.after)) _ h in
        let mark = begins_with is_comment_mark (q.lines ++ q.after) parts.0 in
        let late : is_column_one q.before ≡ false = not-true _ parts.1 in
        subst (EndAt c q r) (sym (cond-true _ _ _ h))
        (EndAt.stands_so (record {
          all = refl;
          is_end = LineEnd.cr (subst (BeginsWithNo is_line_feed) (append_assoc q.lines q.after r)
              (mark_no_feed (q.lines ++ q.after) r mark));
          column = λ _. last_same c q.before false late (λ none.
              absurd (both_ways (is_column_one q.before) late (ap is_column_one none)));
        }))
    by false h =
        subst (EndAt c q r) (sym (cond-false _ _ _ h))
        (EndAt.stands_so (record {
          all = end.all;
          is_end = end.is_end _;
          column = λ mark. elim (and_cases (begins is_comment_mark (q.lines ++ q.after)) _ h) [
            | inl none ↦ absurd (both_ways (begins is_comment_mark (q.lines ++ q.after)) none
                (begins_is is_comment_mark (q.lines ++ q.after) mark))
            | inr one ↦ last_same c q.before true (not-false _ one) (λ none. front none mark) ∙ sym end.feed
          ];
        }))

-- the text from the place on, and what follows the new pair's line
module _ {o : ParseOption} {c : ℕ} {gap_text r : Text} {q : GapPlace} {d : ℕ} {ds : Text}
    (end : IsNewEnd d ds)
    (first : IsFirstPlace o c gap_text r q) where
  abbrev ended : Text
  ended = q.before ++ cond q.starts [] (d ∷ ds)

  pub line_starts_there : is_line_end (last_or c ended) ≡ true
  line_starts_there = elim (cases_Bool q.starts) [
    | inl starts ↦
        ap (λ g. is_line_end (last_or c (q.before ++ g))) (cond-true q.starts [] (d ∷ ds) starts)
        ∙ ap (λ t. is_line_end (last_or c t)) (append-nil q.before) ∙ first.starts starts
    | inr other ↦
        ap (λ g. is_line_end (last_or c (q.before ++ g))) (cond-false q.starts [] (d ∷ ds) other)
        ∙ ap is_line_end (last_or-append c q.before (d ∷ ds)) ∙ or_left
        (is_line_feed (last_or d ds)) _ end.feed
  ]

  module _ {e : ℕ} {es : Text} (there : IsEndAt c q r e es) where
    ends_line : is_line_end (last_or e es) ≡ true
    ends_line = all_last is_line_end e es there.all

    -- a line starts at the place, where something follows that
    starts_alike : (test : ℕ → Bool) → BeginsWith test (q.lines ++ q.after)
        → is_line_end (last_or c q.before) ≡ is_line_end (last_or e es)
    starts_alike test begins = elim (cases_Bool q.starts) [
      | inl starts ↦ first.starts starts ∙ sym ends_line
      | inr other ↦ absurd (false≢true (sym (subst (BeginsWith test) (first.ends other) begins)))
    ]

    -- the line end agrees with the place's front
    rest_agrees : Agree o (last_or c q.before ∷ []) (last_or e es ∷ []) (q.lines ++ q.after)
    rest_agrees = record {
      line = starts_alike is_blank;
      column = there.column;
      comment = λ _. starts_alike is_comment_mark;
    }

    -- where values are in one line all that stood after the place follows the new pair's line end
    pub rest_after : (x : ℕ) → IsGap o x (((e ∷ es) ++ q.lines) ++ q.after) r
    rest_after x =
        subst (λ t. IsGap o x t r) (sym (append_assoc (e ∷ es) q.lines q.after))
        (gap_join (line_ends_gap (e ∷ es) there.all) (gap_like rest_agrees first.rest))

    -- where they are multiline the value takes the blank lines
    pub lines_after : (x : ℕ) → IsFreePlace o c r q → IsGap o (last_or x ((e ∷ es) ++ q.lines)) q.after r
    lines_after x free =
        subst (λ y. IsGap o y q.after r) (sym (last_or-append x (e ∷ es) q.lines))
        (gap_like (agrees q.lines refl) free.after)
      where
        agrees : (l : Text) → q.lines ≡ l
            → Agree o (last_or (last_or c q.before) q.lines ∷ [])
            (last_or (last_or e es) q.lines ∷ []) q.after
        agrees (y ∷ l) is =
            subst (λ l. Agree o (last_or (last_or c q.before) l ∷ [])
            (last_or (last_or e es) l ∷ []) q.after) (sym is)
            (record { line = λ _. refl; column = λ _. refl; comment = λ _ _. refl })
        agrees [] is =
            subst (λ l. Agree o (last_or (last_or c q.before) l ∷ [])
            (last_or (last_or e es) l ∷ []) q.after) (sym is)
            (subst (Agree o (last_or c q.before ∷ []) (last_or e es ∷ []))
            (ap (λ l. l ++ q.after) is) rest_agrees)

    -- both
    pub first_after : {make : Maker} (makes : MakesReadPairs o make) (x : ℕ)
        → (o.enabled_indented_mutiline_value ≡ true → IsFreePlace o c r q)
        → IsGap o (last_or x (pair_source (make true ((e ∷ es) ++ q.lines) q.after).stretches))
        (make true ((e ∷ es) ++ q.lines) q.after).after r
    first_after {make} makes x free =
        let l = (e ∷ es) ++ q.lines in
        let p = (make true l q.after).stretches in
        elim (cases_Bool o.enabled_indented_mutiline_value) [
          | inl on ↦
              subst (λ g. IsGap o (last_or x (pair_source p)) g r)
              (sym (makes.makes.after true l q.after ∙ cond-true o.enabled_indented_mutiline_value q.after
              (l ++ q.after) on))
              (subst (λ y. IsGap o y q.after r) (sym (made_last end makes true x l q.after on))
              (lines_after (last_or x (before_tail p)) (free on)))
          | inr off ↦
              subst (λ g. IsGap o (last_or x (pair_source p)) g r)
              (sym (makes.makes.after true l q.after ∙ cond-false o.enabled_indented_mutiline_value q.after
              (l ++ q.after) off))
              (rest_after (last_or x (pair_source p)))
        ]
