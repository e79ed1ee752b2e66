-- Comment lines put directly above a pair of a section: the sections are those of a text, as before.
use Rattle.std.proofs.Common.{◌≡◌, ◌≢◌, ◌∙◌, ℕ, Bool, true, false, not, ◌&&◌, List, [], ◌∷◌, ◌++◌, ap, None}
use Rattle.std.proofs.Common.{Some, append_assoc, append-nil, if◌then◌else◌, inl, inr, refl, subst, sym}
use Rattle.std.proofs.lemmas.Bool.{and_from, and_parts, both_ways, cases_Bool, cond-false, cond-true}
use Rattle.std.proofs.lemmas.Bool.{false≢true, false_from_ne_true}
use Rattle.std.specs.List.{list_all}
use Rattle.std.specs.Prelude.{is_some}
use Rattle.ini_text.specs.Grammar.CharacterKinds.{is_blank, is_line_feed, line_feed}
use Rattle.ini_text.specs.Grammar.Positions.{last_or}
use Rattle.ini_text.specs.Grammar.CharacterKinds.{begins}
use Rattle.ini_text.specs.Parsing.Fronts.{front_of}
use Rattle.ini_text.specs.declared.option.ParseOption.{ParseOption}
use Rattle.ini_text.proofs.StringLemmas.FrontLemmas.{front_is}
use Rattle.ini.specs.Texts.{Text}
use Rattle.ini_edit.specs.Inside.SourceEnds.{IsPlaceAt}
use Rattle.ini_edit.specs.Inside.Spans.{AreSections, AreSpans, BeginGeneral, Span, gap, pair}
use Rattle.ini_edit.specs.Inside.Spans.{pairs_spans, sections_spans, span_source}
use Rattle.ini_edit.specs.SourceEdits.{with_pairs}
use Rattle.ini_edit.specs.SourceEditsAdd.{would_go_on}
use Rattle.ini_edit.specs.SourceEditsComments.{IsCommentText, comment_put}
use Rattle.ini_edit.specs.SourceEditsDelete.{rest_put, with_rest}
use Rattle.ini_edit.specs.SourceLines.{are_comments, comments_at_end, is_empty}
use Rattle.ini_edit.specs.SourcePlaces.{Place, exchanged, gap_of, gap_put, is_nil, last_before_gap}
use Rattle.ini_edit.specs.SourcePlaces.{last_before_section, with_end}
use Rattle.ini_edit.specs.Sources.{PairPiece, SectionPiece, has_separator, is_multiline, joined}
use Rattle.ini_edit.specs.Places.{Follows}
use Rattle.ini_edit.proofs.AheadLemmas.{FollowsFront, any_follows}
use Rattle.ini_edit.proofs.CommentLineLemmas.{AreLines, line_taken, lines_made, lines_may_follow}
use Rattle.ini_edit.proofs.CommentLineLemmas.{value_there, with_lines}
use Rattle.ini_edit.proofs.CommentPutLemmas.{lines_put}
use Rattle.ini_edit.proofs.CommentRowLemmas.{IsNewLine, comment_lines, comments_there}
use Rattle.ini_edit.proofs.GapPartLemmas.{gap_nothing}
use Rattle.ini_edit.proofs.SourcePlaceLemmas.{gap_of-end, gap_put-end, rest_put-end}
use Rattle.ini_edit.proofs.SourceSpanLemmas.{gap_put_in, last_of_gap, pairs_put_in, pairs_there}
use Rattle.ini_edit.proofs.SourceSpanLemmas.{spans_after_pairs}
use Rattle.ini_edit.proofs.SourceSpanLemmas.{spans_before_gap, spans_before_pairs, spans_up_to_gap}
use Rattle.ini_edit.proofs.SpanFrontLemmas.{opening_free, spans_follow}

-- a list is empty, or one is its last
pub data Ended {A : Type 0} : List A → Type 0 where
  nothing : Ended []
  one_last : (xs : List A) (x : A) → Ended (xs ++ x ∷ [])

pub ended : {A : Type 0} (xs : List A) → Ended xs
ended [] = Ended.nothing
ended {A} (x ∷ xs) = at (ended xs)
  where
    at : {l : List A} → Ended l → Ended (x ∷ l)
    at Ended.nothing = Ended.one_last [] x
    at (Ended.one_last ys y) = Ended.one_last (x ∷ ys) y

-- nothing stands before the general section
all_named : (before : List SectionPiece) (s : SectionPiece) (after : List SectionPiece)
    → list_all (λ t. is_some t.name) (before ++ s ∷ after) ≡ true → is_some s.name ≡ true
all_named [] s after h = (and_parts (is_some s.name) _ h).0
all_named (b ∷ before) s after h = all_named before s after (and_parts (is_some b.name) _ h).1

pub general_first : (before : List SectionPiece) (s : SectionPiece) (after : List SectionPiece)
    → BeginGeneral (before ++ s ∷ after) → s.name ≡ None → sections_spans before ≡ []
general_first [] s after h none = refl
general_first (b ∷ before) s after h none =
    absurd (false≢true (sym (ap is_some none) ∙ all_named before s after h.1))

pub up_to_last : (first : Span) (after : Text) (ps : List PairPiece) (p : PairPiece)
    → spans_up_to_gap first after (ps ++ p ∷ [])
    ≡ (first ∷ gap after ∷ pairs_spans ps) ++ pair p.stretches p.key p.value ∷ []
up_to_last first after [] p = refl
up_to_last first after (q ∷ ps) p =
    ap (λ l. first ∷ gap after ∷ l) (up_to_last (pair q.stretches q.key q.value) q.after ps p)

-- what is put after a gap that is cut: lines and a gap, of which a multiline value takes the lines
module _ (o : ParseOption) (lines g kept : Text) (s : SectionPiece) (after : List PairPiece) where
  abbrev pub put_over : List PairPiece → SectionPiece
  put_over before = rest_put o lines g (gap_put kept s before []) (gap_put kept s before []).pairs after

  pub put_over-end : (ps : List PairPiece) (p : PairPiece)
      → put_over (ps ++ p ∷ [])
      ≡ with_pairs s (ps ++ with_rest o lines g (record p { after = kept }) ∷ after)
  put_over-end ps p =
      let last : PairPiece = record p { after = kept } in
      ap (λ b. rest_put o lines g b b.pairs after) (gap_put-end s ps p [] kept)
      ∙ rest_put-end (with_pairs s (ps ++ last ∷ [])) ps last after o lines g

  gap_put_over : (before : List PairPiece)
      → (before ≢ [] → o.enabled_indented_mutiline_value ≡ true → kept ≡ [] → lines ≡ [])
      → put_over before ≡ gap_put (kept ++ (lines ++ g)) s before after
  gap_put_over before none = at (ended before) none
    where
      one : (p : PairPiece) → (o.enabled_indented_mutiline_value ≡ true → kept ≡ [] → lines ≡ [])
          → with_rest o lines g (record p { after = kept }) ≡ record p { after = kept ++ (lines ++ g) }
      one p none =
          by (is_multiline o p) kept
          (λ on. none (and_parts o.enabled_indented_mutiline_value (has_separator p) on).0)
        where
          by : (b : Bool) (kept : Text) → (b ≡ true → kept ≡ [] → lines ≡ [])
              → (if b && is_empty kept then with_end (p.stretches.trailing_lines ++ lines) (kept ++ g) p
              else with_end p.stretches.trailing_lines (kept ++ (lines ++ g)) p)
              ≡ record p { after = kept ++ (lines ++ g) }
          by false kept none = refl
          by true (c ∷ kept) none = refl
          by true [] none =
              ap (λ t. with_end (p.stretches.trailing_lines ++ t) g p) (none refl refl)
              ∙ ap (λ t. with_end t g p) (append-nil p.stretches.trailing_lines)
              ∙ ap (λ t. record p { after = t ++ g }) (sym (none refl refl))

      at : {before : List PairPiece} → Ended before
          → (before ≢ [] → o.enabled_indented_mutiline_value ≡ true → kept ≡ [] → lines ≡ [])
          → put_over before ≡ gap_put (kept ++ (lines ++ g)) s before after
      at Ended.nothing none = refl
      at (Ended.one_last ps p) none =
          put_over-end ps p
          ∙ ap (λ q. with_pairs s (ps ++ q ∷ after)) (one p (none (last_there ps p)))
          ∙ sym (gap_put-end s ps p after (kept ++ (lines ++ g)))
        where
          last_there : (ps : List PairPiece) (p : PairPiece) → ps ++ p ∷ [] ≢ []
          last_there [] p h = let no : p ∷ [] ≡ [] = h in cc
          last_there (q ∷ ps) p h = let no : q ∷ (ps ++ p ∷ []) ≡ [] = h in cc

empty_is : (t : Text) → is_empty t ≡ true → t ≡ []
empty_is [] h = refl
empty_is (c ∷ t) h = absurd (false≢true h)

module _ (o : ParseOption) {ss : List SectionPiece} {s : Place SectionPiece} {i : ℕ} (at : IsPlaceAt ss s i)
    (are : AreSections o ss) where
  -- what stands before a gap stands before other texts, if these may follow a value
  pub section_ahead : (before : List PairPiece) (old new : Text)
      → (before ≢ [] → o.enabled_indented_mutiline_value ≡ true → Follows o new)
      → FollowsFront (last_or line_feed (joined span_source (spans_before_gap s before)) ∷ []) old
      → AreSpans o line_feed (spans_before_gap s before) old
      → AreSpans o line_feed (spans_before_gap s before) new
  section_ahead [] old new may f h =
      opening_free new (sections_spans s.before) s.here.name s.here.header
      (general_first s.before s.here s.after (subst BeginGeneral at.whole are.begin_general)) f h
  section_ahead (b ∷ before) old new may f h =
      elim (cases_Bool o.enabled_indented_mutiline_value) [
        | inl on ↦ spans_follow (may (λ is. let no : b ∷ before ≡ [] = is in cc) on)
            (spans_before_gap s (b ∷ before)) f h
        | inr off ↦ spans_follow (any_follows new off) (spans_before_gap s (b ∷ before)) f h
      ]

module _ (o : ParseOption) {ss : List SectionPiece} {s : Place SectionPiece} {i : ℕ} (at : IsPlaceAt ss s i)
    (p : Place PairPiece) (whole : s.here.pairs ≡ p.before ++ p.here ∷ p.after) (are : AreSections o ss)
    {e : Text} (end : IsNewLine e) where
  abbrev last : ℕ
  last = last_or line_feed (joined span_source (spans_before_gap s p.before))

  abbrev following : Text
  following = joined span_source (spans_after_pairs s (p.here ∷ p.after)) ++ []

  -- the gap before the pair is this, and comments
  record IsCut (kept comments : Text) : Type 0 where
    is : kept ++ comments ≡ gap_of s.here.after p.before
    column : comments ≢ [] → is_line_feed (last_or last kept) ≡ true
    are_lines : are_comments false comments ≡ true

  gap_changed : (old new : Text) → old ≡ gap_of s.here.after p.before
      → (AreSpans o line_feed (spans_before_gap s p.before
      ++ (gap old ∷ spans_after_pairs s (p.here ∷ p.after))) []
      → AreSpans o line_feed (spans_before_gap s p.before
      ++ (gap new ∷ spans_after_pairs s (p.here ∷ p.after))) [])
      → AreSections o (exchanged s (gap_put new s.here p.before (p.here ∷ p.after) ∷ []))
  gap_changed old new is put =
      gap_put_in o at p.before (p.here ∷ p.after) (p.here ∷ p.after) new whole
      (subst (λ g. AreSpans o line_feed (spans_before_gap s p.before
      ++ (gap g ∷ spans_after_pairs s (p.here ∷ p.after))) []
      → AreSpans o line_feed (spans_before_gap s p.before
      ++ (gap new ∷ spans_after_pairs s (p.here ∷ p.after))) []) is put) are

  -- the new lines may follow a value that the gap follows
  abbrev MayFollow : (kept new : Text) → Type 0
  MayFollow kept new = p.before ≢ [] → o.enabled_indented_mutiline_value ≡ true → kept ≡ []
      → (begins is_blank p.here.stretches.key ≡ false → Follows o following) → Follows o (new ++ following)

  -- the gap with other lines at its end
  lines_changed : (kept comments new : Text) → IsCut kept comments → MayFollow kept new
      → AreLines o (last_or last kept) new following
      → AreSections o (exchanged s (gap_put (kept ++ new) s.here p.before (p.here ∷ p.after) ∷ []))
  lines_changed kept comments new cut may made =
      gap_changed (kept ++ comments) (kept ++ new) cut.is
      (λ h. lines_put o (spans_before_gap s p.before) (gap p.here.after ∷ spans_after_pairs s p.after)
      p.here.stretches p.here.key p.here.value kept comments new h cut.are_lines cut.column
      (λ none bare f before. section_ahead o at are p.before (comments ++ following) (new ++ following)
      (λ some on. may some on none bare) f before)
      made.is made.column)

  -- nothing in their stead
  comments_out : (kept comments : Text) → IsCut kept comments → MayFollow kept []
      → AreSections o (exchanged s (gap_put (kept ++ []) s.here p.before (p.here ∷ p.after) ∷ []))
  comments_out kept [] cut may = gap_changed (kept ++ []) (kept ++ []) cut.is (λ h. h)
  comments_out kept (m ∷ comments) cut may =
      lines_changed kept (m ∷ comments) [] cut may
      (record { is = gap_nothing; column = cut.column (λ h. let no : m ∷ comments ≡ [] = h in cc) })

  -- a value that takes a line end
  value_longer : (m : ℕ) (lines : Text) → are_comments false (m ∷ lines) ≡ true
      → o.enabled_indented_mutiline_value ≡ true → (ps : List PairPiece) (b : PairPiece)
      → p.before ≡ ps ++ b ∷ [] → b.after ≡ []
      → AreSections o (exchanged s (with_pairs s.here
      (ps ++ (record b { stretches = with_lines e b.stretches; after = m ∷ lines } ∷ (p.here ∷ p.after)))
      ∷ []))
  value_longer m lines are_lines on ps b is none =
      pairs_put_in o at ps (b ∷ []) (record b
      { stretches = with_lines e b.stretches; after = m ∷ lines } ∷ [])
      (p.here ∷ p.after)
      (whole ∙ ap (λ l. l ++ p.here ∷ p.after) is ∙ append_assoc ps (b ∷ []) (p.here ∷ p.after))
      (λ h. line_taken o on (spans_before_pairs s ps) (gap p.here.after ∷ spans_after_pairs s p.after)
      b.stretches p.here.stretches b.key b.value p.here.key p.here.value m lines end are_lines
      (subst (λ g. AreSpans o line_feed (spans_before_pairs s ps
      ++ (pair b.stretches b.key b.value ∷ (gap g ∷ spans_after_pairs s (p.here ∷ p.after)))) []) none h))
      are

  value_before : (m : ℕ) (lines : Text) → are_comments false (m ∷ lines) ≡ true
      → o.enabled_indented_mutiline_value ≡ true → (ps : List PairPiece) (b : PairPiece)
      → p.before ≡ ps ++ b ∷ [] → b.after ≡ [] → is_multiline o b ≡ true
  value_before m lines are_lines on ps b is none =
      and_from o.enabled_indented_mutiline_value (has_separator b) on
      (value_there o on (spans_before_pairs s ps) (gap p.here.after ∷ spans_after_pairs s p.after)
      b.stretches p.here.stretches b.key b.value p.here.key p.here.value m lines end are_lines
      (subst (λ g. AreSpans o line_feed (spans_before_pairs s ps
      ++ (pair b.stretches b.key b.value ∷ (gap g ∷ spans_after_pairs s (p.here ∷ p.after)))) []) none
      (pairs_there o at ps (b ∷ []) (p.here ∷ p.after)
      (whole ∙ ap (λ l. l ++ p.here ∷ p.after) is ∙ append_assoc ps (b ∷ []) (p.here ∷ p.after)) are)))

  abbrev put_lines : (glue lines kept : Text) → SectionPiece
  put_lines glue lines kept = put_over o glue lines kept s.here (p.here ∷ p.after) p.before

  in_gap : (glue lines kept : Text)
      → (p.before ≢ [] → o.enabled_indented_mutiline_value ≡ true → kept ≡ [] → glue ≡ [])
      → AreSections o (exchanged s (gap_put (kept ++ (glue ++ lines)) s.here p.before
      (p.here ∷ p.after) ∷ []))
      → AreSections o (exchanged s (put_lines glue lines kept ∷ []))
  in_gap glue lines kept none h =
      subst (λ t. AreSections o (exchanged s (t ∷ [])))
      (sym (gap_put_over o glue lines kept s.here (p.here ∷ p.after) p.before none)) h

  -- where no line starts and the value before takes the line end
  after_value : (m : ℕ) (lines comments : Text) → are_comments false (m ∷ lines) ≡ true
      → o.enabled_indented_mutiline_value ≡ true → p.before ≢ [] → IsCut [] comments → comments ≡ []
      → AreSections o (exchanged s (put_lines e (m ∷ lines) [] ∷ []))
  after_value m lines comments are_lines on some cut none =
      by (ended p.before) refl
    where
      by : {before : List PairPiece} → Ended before → p.before ≡ before
          → AreSections o (exchanged s (put_lines e (m ∷ lines) [] ∷ []))
      by Ended.nothing is = absurd (some is)
      by (Ended.one_last ps b) is =
          let last_gap : b.after ≡ [] =
          sym (cut.is ∙ ap (gap_of s.here.after) is ∙ gap_of-end s.here.after ps b) ∙ none in
          let taken : with_rest o e (m ∷ lines) (record b { after = [] })
          ≡ record b { stretches = with_lines e b.stretches; after = m ∷ lines } =
          cond-true (is_multiline o b && true) _ _
          (ap (λ x. x && true) (value_before m lines are_lines on ps b is last_gap)) in
          subst (λ t. AreSections o (exchanged s (t ∷ [])))
          (sym (ap (put_over o e (m ∷ lines) [] s.here (p.here ∷ p.after)) is
          ∙ put_over-end o e (m ∷ lines) [] s.here (p.here ∷ p.after) ps b
          ∙ ap (λ q. with_pairs s.here (ps ++ q ∷ (p.here ∷ p.after))) taken))
          (value_longer m lines are_lines on ps b is last_gap)

  -- new lines
  lines_in : (m : ℕ) (lines kept comments : Text) → are_comments false (m ∷ lines) ≡ true
      → IsCut kept comments
      → AreSections o (exchanged s
      (put_lines (if is_line_feed (last_or last kept) then [] else e) (m ∷ lines) kept ∷ []))
  lines_in m lines kept comments are_lines cut = by (is_line_feed (last_or last kept)) refl
    where
      made : AreLines o (last_or last kept)
          ((if is_line_feed (last_or last kept) then [] else e) ++ m ∷ lines)
          following
      made = lines_made (m ∷ lines) end are_lines

      gap_made : (glue : Text) → (if is_line_feed (last_or last kept) then [] else e) ≡ glue
          → (p.before ≢ [] → o.enabled_indented_mutiline_value ≡ true → kept ≡ [] → glue ≡ [])
          → AreSections o (exchanged s (put_lines glue (m ∷ lines) kept ∷ []))
      gap_made glue is none =
          in_gap glue (m ∷ lines) kept none
          (lines_changed kept comments (glue ++ m ∷ lines) cut
          (λ some on empty bare. subst (λ g. Follows o ((g ++ m ∷ lines) ++ following))
          (sym (none some on empty))
          (lines_may_follow (m ∷ lines) following (λ h. let no : m ∷ lines ≡ [] = h in cc) are_lines))
          (subst (λ g. AreLines o (last_or last kept) (g ++ m ∷ lines) following) is made))

      -- in a gap, or after a value
      anywhere : (before : List PairPiece) → p.before ≡ before → (on : Bool)
          → o.enabled_indented_mutiline_value ≡ on → (k : Text) → kept ≡ k
          → is_line_feed (last_or last kept) ≡ false
          → AreSections o (exchanged s (put_lines e (m ∷ lines) kept ∷ []))
      anywhere [] first on is k same off =
          gap_made e (cond-false _ _ _ off) (λ some _ _. absurd (some first))
      anywhere (b ∷ before) there false is k same off =
          gap_made e (cond-false _ _ _ off) (λ _ on _. absurd (both_ways _ is on))
      anywhere (b ∷ before) there true is (c ∷ k) same off =
          gap_made e (cond-false _ _ _ off)
          (λ _ _ empty. let no : c ∷ k ≡ [] = sym same ∙ empty in cc)
      anywhere (b ∷ before) there true is [] same off =
          subst (λ k. AreSections o (exchanged s (put_lines e (m ∷ lines) k ∷ []))) (sym same)
          (after_value m lines comments are_lines is
          (λ h. let no : b ∷ before ≡ [] = sym there ∙ h in cc)
          (subst (λ k. IsCut k comments) same cut) (bare comments cut.column))
        where
          bare : (comments : Text) → (comments ≢ [] → is_line_feed (last_or last kept) ≡ true)
              → comments ≡ []
          bare [] column = refl
          bare (x ∷ comments) column =
              absurd (both_ways _ off (column (λ h. let no : x ∷ comments ≡ [] = h in cc)))

      by : (b : Bool) → is_line_feed (last_or last kept) ≡ b
          → AreSections o (exchanged s (put_lines (if b then [] else e) (m ∷ lines) kept ∷ []))
      by true one = gap_made [] (cond-true _ _ _ one) (λ _ _ _. refl)
      by false off = anywhere p.before refl o.enabled_indented_mutiline_value refl kept refl off

  -- the sections with the comment put in
  pub commented_sections : (comment : Text) → IsCommentText comment → (new : SectionPiece)
      → comment_put o e comment (last_before_section s) s.here p ≡ Some new
      → AreSections o (exchanged s (new ∷ []))
  commented_sections comment text new h = by comment text h
    where
      before_gap : ℕ
      before_gap = last_before_gap (last_before_section s) s.here p.before

      gap_text : Text
      gap_text = gap_of s.here.after p.before

      olds : Text
      olds = comments_at_end before_gap gap_text

      kept : Text
      kept = front_of gap_text olds

      cut : IsCut kept olds
      cut =
          let there = comments_there before_gap gap_text in
          let same : kept ≡ there.front = front_is there.front olds gap_text there.whole in
          record {
            is = ap (λ k. k ++ olds) same ∙ there.whole;
            column = λ some. subst (λ c. is_line_feed (last_or c kept) ≡ true) (last_of_gap s p.before)
                (ap (λ k. is_line_feed (last_or before_gap k)) same ∙ there.column some);
            are_lines = there.are;
          }

      stays : is_empty kept && (not (is_nil p.before) && would_go_on o p.here) ≡ false
          → p.before ≢ [] → o.enabled_indented_mutiline_value ≡ true → kept ≡ []
          → begins is_blank p.here.stretches.key ≡ false
      stays test some on empty = false_from_ne_true (begins is_blank p.here.stretches.key) (λ blank.
          both_ways _ test (and_from _ _ (ap is_empty empty)
          (and_from _ _ (nil p.before some) (and_from _ _ on blank))))
        where
          nil : (before : List PairPiece) → before ≢ [] → not (is_nil before) ≡ true
          nil [] some = absurd (some refl)
          nil (b ∷ before) some = refl

      by : (comment : Text) → IsCommentText comment
          → comment_put o e comment (last_before_section s) s.here p ≡ Some new
          → AreSections o (exchanged s (new ∷ []))
      by [] text h = out (is_empty kept && (not (is_nil p.before) && would_go_on o p.here)) refl h
        where
          out : (b : Bool) → (is_empty kept && (not (is_nil p.before) && would_go_on o p.here)) ≡ b
              → (if b then None else Some (put_lines [] [] kept)) ≡ Some new
              → AreSections o (exchanged s (new ∷ []))
          out true test h = absurd (let no : None ≡ Some new = h in cc)
          out false test h =
              let is : put_lines [] [] kept ≡ new = cc in
              subst (λ t. AreSections o (exchanged s (t ∷ []))) is
              (in_gap [] [] kept (λ _ _ _. refl)
              (comments_out kept olds cut (λ some on empty bare. bare (stays test some on empty))))
      by (m ∷ comment) text h =
          let lines = comment ++ (if is_line_feed (last_or m comment) then [] else e) in
          let is : put_lines (if is_line_feed (last_or before_gap kept) then [] else e) (m ∷ lines)
          kept ≡ new = cc in
          subst (λ t. AreSections o (exchanged s (t ∷ []))) is
          (subst (λ c. AreSections o (exchanged s
          (put_lines (if is_line_feed (last_or c kept) then [] else e) (m ∷ lines) kept ∷ [])))
          (sym (last_of_gap s p.before))
          (lines_in m lines kept olds (comment_lines (m ∷ comment) end text) cut))
