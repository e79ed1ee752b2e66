-- A new pair put in before another pair of a section, and the comments directly above that: the sections are
-- those of a text, as before.
use Rattle.std.proofs.Common.{◌≡◌, ◌≢◌, ◌∙◌, ℕ, Bool, true, false, not, ◌&&◌, ◌||◌, cond, List, [], ◌∷◌, ◌++◌}
use Rattle.std.proofs.Common.{None, Some, ap, append_assoc, append-nil, if◌then◌else◌, inl, inr, refl, subst}
use Rattle.std.proofs.Common.{sym}
use Rattle.std.proofs.lemmas.Bool.{and_from, both_ways, cases_Bool, cond-false, cond-true, false_from_ne_true}
use Rattle.std.proofs.lemmas.Bool.{false≢true, or_left}
use Rattle.ini_text.specs.Grammar.CharacterKinds.{BeginsWith, is_blank, is_line_end, is_line_feed, line_feed}
use Rattle.ini_text.specs.Grammar.Places.{Stretches, pair_source}
use Rattle.ini_text.specs.Grammar.Positions.{last_or}
use Rattle.ini_text.specs.Grammar.CharacterKinds.{begins}
use Rattle.ini_text.specs.Parsing.Fronts.{front_of}
use Rattle.ini_text.specs.declared.option.ParseOption.{ParseOption}
use Rattle.ini_text.proofs.LawLemmas.PieceLemmas.{last_or-append}
use Rattle.ini_text.proofs.StringLemmas.FrontLemmas.{front_is}
use Rattle.ini.specs.Texts.{Text}
use Rattle.ini_edit.specs.Inside.InPlace.{AreInPlace}
use Rattle.ini_edit.specs.Inside.SourceEnds.{IsPlaceAt}
use Rattle.ini_edit.specs.Inside.Spans.{AreSections, AreSpans, IsGap, IsPair, IsSpan, Span, gap, opening}
use Rattle.ini_edit.specs.Inside.Spans.{pair, pairs_spans, sections_spans, span_source}
use Rattle.ini_edit.specs.Places.{Follows}
use Rattle.ini_edit.specs.SourceEditsAdd.{Maker, pair_put_before, would_go_on}
use Rattle.ini_edit.specs.SourceLines.{LinePlace, are_comments, comments_at_end, is_empty}
use Rattle.ini_edit.specs.SourcePlaces.{Place, exchanged, gap_of, gap_put, is_nil, last_before_gap}
use Rattle.ini_edit.specs.SourcePlaces.{last_before_section}
use Rattle.ini_edit.specs.Sources.{PairPiece, SectionPiece, joined}
use Rattle.ini_edit.proofs.AheadLemmas.{FollowsFront, NoNoteAfter}
use Rattle.ini_edit.proofs.BlankLineLemmas.{line_last, no_lines, trailing_ends}
use Rattle.ini_edit.proofs.CommentLineLemmas.{lines_may_follow}
use Rattle.ini_edit.proofs.CommentPutLemmas.{bare}
use Rattle.ini_edit.proofs.CommentRowLemmas.{comments_there}
use Rattle.ini_edit.proofs.CommentSectionLemmas.{Ended, ended, section_ahead, up_to_last}
use Rattle.ini_edit.proofs.DeletedPairLemmas.{tail_last}
use Rattle.ini_edit.proofs.GapPartLemmas.{gap_nothing}
use Rattle.ini_edit.proofs.InPlaceLemmas.{in_place-split, joined-append}
use Rattle.ini_edit.proofs.MakerLemmas.{MakesReadPairs, comments_after, made_there}
use Rattle.ini_edit.proofs.PutBeforeLemmas.{spans_put_before}
use Rattle.ini_edit.proofs.SourceAddLemmas.{IsNewEnd, line_ends_gap}
use Rattle.ini_edit.proofs.SourceSetLemmas.{before_tail}
use Rattle.ini_edit.proofs.SourceSpanLemmas.{gap_put_in, last_of_gap, spans_after_pairs, spans_before_gap}
use Rattle.ini_edit.proofs.SpanFrontLemmas.{lone_apart}

-- a pair that more follows, which begins with no line end, ends with one
pub pair_ends_line : {o : ParseOption} {c : ℕ} {p : Stretches} {key value r : Text}
    → o.enabled_indented_mutiline_value ≡ true → BeginsWith (λ c. not (is_line_end c)) r
    → NoNoteAfter (last_or c (pair_source p) ∷ []) r → IsPair o c p key value r
    → is_line_end (last_or c (pair_source p)) ≡ true
pair_ends_line {o = o} {c = c} {p = p} on begins apart (IsPair.has_value is) =
    ap is_line_end (tail_last c p)
    ∙ line_last o LinePlace.within (last_or c (before_tail p)) p.trailing_lines
    (λ inner. absurd (false≢true inner))
    (trailing_ends (λ none. false≢true (sym (subst (BeginsWith (λ c. not (is_line_end c))) none begins))) on
    is.are_trailing)
pair_ends_line on begins apart (IsPair.is_lone is) = lone_apart begins apart is

-- so a line ends before a pair that directly follows a multiline value
pub spans_end_line : {o : ParseOption} {c : ℕ} {y : Text} (xs : List Span) (p : Stretches) (key value : Text)
    → o.enabled_indented_mutiline_value ≡ true → BeginsWith (λ c. not (is_line_end c)) y
    → NoNoteAfter (last_or c (joined span_source (xs ++ pair p key value ∷ [])) ∷ []) y
    → AreSpans o c (xs ++ pair p key value ∷ []) y
    → is_line_end (last_or c (joined span_source (xs ++ pair p key value ∷ []))) ≡ true
spans_end_line {o} {c} {y} xs p key value on begins apart h =
    at (in_place-split span_source xs (pair p key value ∷ []) h).1
  where
    last : ℕ
    last = last_or c (joined span_source xs)

    last_is : last_or c (joined span_source (xs ++ pair p key value ∷ [])) ≡ last_or last (pair_source p)
    last_is =
        ap (last_or c) (joined-append span_source xs (pair p key value ∷ []))
        ∙ last_or-append c (joined span_source xs) (pair_source p ++ [])
        ∙ ap (last_or last) (append-nil (pair_source p))

    at : AreSpans o (last_or c (joined span_source xs)) (pair p key value ∷ []) y
        → is_line_end (last_or c (joined span_source (xs ++ pair p key value ∷ []))) ≡ true
    at (AreInPlace.more (IsSpan.is_pair is) AreInPlace.none) =
        ap is_line_end last_is
        ∙ pair_ends_line on begins (subst (λ z. NoNoteAfter (z ∷ []) y) last_is apart) is

-- where a pair directly follows a multiline value, a line starts
line_before : {o : ParseOption} (s : Place SectionPiece) (before : List PairPiece) {y : Text} → before ≢ []
    → o.enabled_indented_mutiline_value ≡ true → BeginsWith (λ c. not (is_line_end c)) y
    → NoNoteAfter (last_or line_feed (joined span_source (spans_before_gap s before)) ∷ []) y
    → AreSpans o line_feed (spans_before_gap s before) y
    → is_line_end (last_or line_feed (joined span_source (spans_before_gap s before))) ≡ true
line_before {o} s before {y} some on more apart h = by (ended before) some apart h
  where
    by : {before : List PairPiece} → Ended before → before ≢ []
        → NoNoteAfter (last_or line_feed (joined span_source (spans_before_gap s before)) ∷ []) y
        → AreSpans o line_feed (spans_before_gap s before) y
        → is_line_end (last_or line_feed (joined span_source (spans_before_gap s before))) ≡ true
    by Ended.nothing some apart h = absurd (some refl)
    by (Ended.one_last ps b) some apart h =
        let first = opening s.here.name s.here.header in
        let xs = sections_spans s.before ++ (first ∷ gap s.here.after ∷ pairs_spans ps) in
        let one = pair b.stretches b.key b.value in
        let is : spans_before_gap s (ps ++ b ∷ []) ≡ xs ++ one ∷ [] =
        ap (λ l. sections_spans s.before ++ l) (up_to_last first s.here.after ps b)
        ∙ sym (append_assoc (sections_spans s.before) (first ∷ gap s.here.after ∷ pairs_spans ps)
        (one ∷ [])) in
        subst (λ l. is_line_end (last_or line_feed (joined span_source l)) ≡ true) (sym is)
        (spans_end_line xs b.stretches b.key b.value on more
        (subst (λ l. NoNoteAfter (last_or line_feed (joined span_source l) ∷ []) y) is apart)
        (subst (λ l. AreSpans o line_feed l y) is h))

some_not_nil : {A : Type 0} (xs : List A) → xs ≢ [] → is_nil xs ≡ false
some_not_nil [] some = absurd (some refl)
some_not_nil (x ∷ xs) some = refl

module _ (o : ParseOption) {ss : List SectionPiece} {s : Place SectionPiece} {i : ℕ} (at : IsPlaceAt ss s i)
    (p : Place PairPiece) (whole : s.here.pairs ≡ p.before ++ p.here ∷ p.after) (are : AreSections o ss)
    {d : ℕ} {ds : Text} (end : IsNewEnd d ds) (make : Maker) (makes : MakesReadPairs o make) where
  abbrev spans_ahead : List Span
  spans_ahead = spans_before_gap s p.before

  abbrev last : ℕ
  last = last_or line_feed (joined span_source spans_ahead)

  abbrev later : List Span
  later = gap p.here.after ∷ spans_after_pairs s p.after

  abbrev following : Text
  following = joined span_source (spans_after_pairs s (p.here ∷ p.after)) ++ []

  abbrev glue_at : ℕ → Text
  glue_at c = cond (is_line_end c) [] (d ∷ ds)

  abbrev is_indented : Text → Bool
  is_indented kept =
      not o.enabled_indented_mutiline_value || (is_nil p.before || not (is_empty kept))

  -- the gap before the pair is this, and comments
  record IsCutAbove (kept comments : Text) : Type 0 where
    is : kept ++ comments ≡ gap_of s.here.after p.before
    column : comments ≢ [] → is_line_feed (last_or last kept) ≡ true
    are_lines : are_comments false comments ≡ true

  glue_starts : (c : ℕ) → is_line_end (last_or c (glue_at c)) ≡ true
  glue_starts c = elim (cases_Bool (is_line_end c)) [
    | inl start ↦ subst (λ g. is_line_end (last_or c g) ≡ true) (sym (cond-true _ _ _ start)) start
    | inr other ↦
        subst (λ g. is_line_end (last_or c g) ≡ true) (sym (cond-false _ _ _ other))
        (or_left (is_line_feed (last_or d ds)) _ end.feed)
  ]

  glue_gap : (c : ℕ) {r : Text} → IsGap o c (glue_at c) r
  glue_gap c {r} = elim (cases_Bool (is_line_end c)) [
    | inl start ↦ subst (λ g. IsGap o c g r) (sym (cond-true _ _ _ start)) gap_nothing
    | inr other ↦ subst (λ g. IsGap o c g r) (sym (cond-false _ _ _ other)) (line_ends_gap (d ∷ ds) end.all)
  ]

  -- what follows the new pair may follow a value
  may_follow : {c : ℕ} (comments : Text) → are_comments false comments ≡ true
      → IsPair o c p.here.stretches p.here.key p.here.value (joined span_source later ++ [])
      → (comments ≡ [] → begins is_blank p.here.stretches.key ≡ false) → Follows o (comments ++ following)
  may_follow [] lines is no_blank =
      bare o spans_ahead later p.here.stretches p.here.key p.here.value [] [] [] is (no_blank refl)
  may_follow (m ∷ comments) lines is no_blank =
      lines_may_follow (m ∷ comments) following (λ h. let no : m ∷ comments ≡ [] = h in cc) lines

  pair_put : (kept comments : Text) → IsCutAbove kept comments
      → (comments ≡ [] → o.enabled_indented_mutiline_value ≡ true
      → begins is_blank p.here.stretches.key ≡ false)
      → AreSections o (exchanged s (gap_put (kept ++ glue_at (last_or last kept)) s.here p.before
      (make (is_indented kept) (d ∷ ds) comments ∷ p.here ∷ p.after) ∷ []))
  pair_put kept comments cut stays =
      gap_put_in o at p.before (p.here ∷ p.after) (n ∷ p.here ∷ p.after) (kept ++ glue) whole
      (subst (λ g. AreSpans o line_feed (spans_ahead ++ (gap g ∷ spans_after_pairs s (p.here ∷ p.after))) []
      → AreSpans o line_feed
      (spans_ahead ++ (gap (kept ++ glue) ∷ spans_after_pairs s (n ∷ p.here ∷ p.after)))
      []) cut.is put) are
    where
      n : PairPiece
      n = make (is_indented kept) (d ∷ ds) comments

      glue : Text
      glue = glue_at (last_or last kept)

      glued : ℕ
      glued = last_or (last_or last kept) glue

      is_there : AreSpans o line_feed (spans_ahead ++ (gap (kept ++ comments) ∷ spans_after_pairs s (p.here
          ∷ p.after))) []
          → IsPair o (last_or last (kept ++ comments)) p.here.stretches p.here.key p.here.value
          (joined span_source later ++ [])
      is_there h =
          by (in_place-split span_source spans_ahead (gap (kept ++ comments) ∷ spans_after_pairs s (p.here
          ∷ p.after)) h).1
        where
          by : AreSpans o last (gap (kept ++ comments) ∷ spans_after_pairs s (p.here ∷ p.after)) []
              → IsPair o (last_or last (kept ++ comments)) p.here.stretches p.here.key p.here.value
              (joined span_source later ++ [])
          by (AreInPlace.more g (AreInPlace.more (IsSpan.is_pair is) rest)) = is

      -- directly after a multiline value no line end is put, and nothing indents the new pair
      new_follows : p.before ≢ [] → o.enabled_indented_mutiline_value ≡ true → kept ≡ []
          → FollowsFront (last ∷ []) (comments ++ following)
          → AreSpans o line_feed spans_ahead (comments ++ following)
          → (x : Text) → Follows o (glue ++ (pair_source n.stretches ++ x))
      new_follows some on none f before x =
          let start : is_line_end (last_or last kept) ≡ true =
          subst (λ k. is_line_end (last_or last k) ≡ true) (sym none)
          (line_before s p.before some on f.some f.note before) in
          let apart : is_indented kept ≡ false =
          ap (λ b. not b || (is_nil p.before || not (is_empty kept))) on
          ∙ ap (λ b. b || not (is_empty kept)) (some_not_nil p.before some)
          ∙ ap (λ k. not (is_empty k)) none in
          subst (λ g. Follows o (g ++ (pair_source n.stretches ++ x))) (sym (cond-true _ _ _ start))
          (subst (λ b. Follows o (pair_source (make b (d ∷ ds) comments).stretches ++ x)) (sym apart)
          (makes.follows (d ∷ ds) comments x on))

      put : AreSpans o line_feed (spans_ahead ++ (gap (kept ++ comments) ∷ spans_after_pairs s (p.here
          ∷ p.after))) []
          → AreSpans o line_feed (spans_ahead ++ (gap (kept ++ glue) ∷ spans_after_pairs s (n ∷ p.here
          ∷ p.after))) []
      put h =
          let is = is_there h in
          let after = comments_after end makes
          (is_indented kept) glued {r = following} comments cut.are_lines in
          spans_put_before o spans_ahead later p.here.stretches p.here.key p.here.value kept
          comments glue n h
          cut.are_lines cut.column
          (record {
            glues = glue_gap (last_or last kept);
            is = made_there end makes (is_indented kept) following [] (sym (append-nil (d ∷ ds)))
                (glue_starts (last_or last kept))
                (λ on.
                let follows = may_follow comments cut.are_lines is (λ none. stays none on) in
                no_lines (follows.no_blank on) (follows.no_line_end on));
            is_gap = after.is;
            column = after.column;
            ahead = λ none f before.
                section_ahead o at are p.before (comments ++ following) _
                (λ some on. subst (λ t. Follows o (glue ++ t))
                (sym (append_assoc (pair_source n.stretches)
                (n.after ++ joined span_source (spans_after_pairs s (p.here ∷ p.after))) []))
                (new_follows some on none f before ((n.after ++ joined span_source
                (spans_after_pairs s (p.here ∷ p.after))) ++ []))) f before;
          })

  -- the sections with the pair put in
  pub put_before_sections : (new : SectionPiece)
      → pair_put_before o (d ∷ ds) make (last_before_section s) s.here p ≡ Some new
      → AreSections o (exchanged s (new ∷ []))
  put_before_sections new h = by (is_empty olds && would_go_on o p.here) refl h
    where
      before_gap : ℕ
      before_gap = last_before_gap (last_before_section s) s.here p.before

      gap_text : Text
      gap_text = gap_of s.here.after p.before

      olds : Text
      olds = comments_at_end before_gap gap_text

      kept : Text
      kept = front_of gap_text olds

      cut : IsCutAbove kept olds
      cut =
          let there = comments_there before_gap gap_text in
          let same : kept ≡ there.front = front_is there.front olds gap_text there.whole in
          record {
            is = ap (λ k. k ++ olds) same ∙ there.whole;
            column = λ some. subst (λ c. is_line_feed (last_or c kept) ≡ true) (last_of_gap s p.before)
                (ap (λ k. is_line_feed (last_or before_gap k)) same ∙ there.column some);
            are_lines = there.are;
          }

      by : (b : Bool) → (is_empty olds && would_go_on o p.here) ≡ b
          → (if b then None else Some (gap_put (kept ++ glue_at (last_or before_gap kept)) s.here p.before
          (make (is_indented kept) (d ∷ ds) olds ∷ p.here ∷ p.after))) ≡ Some new
          → AreSections o (exchanged s (new ∷ []))
      by true test h = absurd (let no : None ≡ Some new = h in cc)
      by false test h =
          let is : gap_put (kept ++ glue_at (last_or before_gap kept)) s.here p.before
          (make (is_indented kept) (d ∷ ds) olds ∷ p.here ∷ p.after) ≡ new = cc in
          subst (λ t. AreSections o (exchanged s (t ∷ []))) is
          (subst (λ c. AreSections o (exchanged s (gap_put (kept ++ glue_at (last_or c kept)) s.here p.before
          (make (is_indented kept) (d ∷ ds) olds ∷ p.here ∷ p.after) ∷ [])))
          (sym (last_of_gap s p.before))
          (pair_put kept olds cut
          (λ none on. false_from_ne_true (begins is_blank p.here.stretches.key) (λ blank.
          both_ways _ test (and_from _ _ (ap is_empty none) (and_from _ _ on blank))))))
