-- A pair of a section made comments: the sections are those of a text, as before.
use Rattle.std.proofs.Common.{◌≡◌, ◌∙◌, ◌==◌, ◌&&◌, ◌||◌, ℕ, Bool, true, false, not, List, [], ◌∷◌, ◌++◌}
use Rattle.std.proofs.Common.{None, Option, Some, ap, append_assoc, append-nil, eqb-true, if◌then◌else◌, refl}
use Rattle.std.proofs.Common.{subst, sym}
use Rattle.std.proofs.lemmas.Bool.{and_parts, false≢true, not-false}
use Rattle.std.specs.List.{list_all}
use Rattle.std.specs.Prelude.{is_some}
use Rattle.ini_text.specs.Grammar.CharacterKinds.{BeginsWith, BeginsWithNo, carriage_return, is_comment_mark}
use Rattle.ini_text.specs.Grammar.CharacterKinds.{is_line_end}
use Rattle.ini_text.specs.Grammar.CharacterKinds.{is_line_feed, line_feed, open_bracket, semicolon, space}
use Rattle.ini_text.specs.Grammar.Places.{Stretches, after_key_source, pair_source}
use Rattle.ini_text.specs.Grammar.Positions.{last_or}
use Rattle.ini_text.specs.Laws.PieceLaws.{Agree}
use Rattle.ini_text.specs.declared.option.ParseOption.{ParseOption}
use Rattle.ini_text.proofs.LawLemmas.PieceLemmas.{last_or-append}
use Rattle.ini.specs.Texts.{Text, is_text}
use Rattle.ini_edit.specs.Inside.InPlace.{AreInPlace}
use Rattle.ini_edit.specs.Inside.SourceEnds.{IsPlaceAt}
use Rattle.ini_edit.specs.Inside.Spans.{AreSections, AreSpans, BeginGeneral, IsPair, IsSpan, Span, gap}
use Rattle.ini_edit.specs.Inside.Spans.{opening, pair, pairs_spans, sections_spans, span_source}
use Rattle.ini_edit.specs.SourceEdits.{with_pairs}
use Rattle.ini_edit.specs.SourceEditsComments.{marked, pair_commented_out, pair_lines}
use Rattle.ini_edit.specs.SourceEditsDelete.{gap_after, line_end_after, lines_after, rest_put, with_rest}
use Rattle.ini_edit.specs.SourceLines.{is_empty}
use Rattle.ini_edit.specs.SourcePlaces.{Place, exchanged, gap_of, gap_put, last_before_pair}
use Rattle.ini_edit.specs.SourcePlaces.{last_before_section, with_end}
use Rattle.ini_edit.specs.Sources.{PairPiece, SectionPiece, is_multiline, joined}
use Rattle.ini_edit.proofs.CommentLineLemmas.{mark_may_follow}
use Rattle.ini_edit.proofs.CommentOutLemmas.{IsOut, comment_of, commented_is, pair_commented}
use Rattle.ini_edit.proofs.CommentPutLemmas.{no_end_begins, pair_follows, pair_then, pair_unmarked}
use Rattle.ini_edit.proofs.CommentSectionLemmas.{Ended, ended}
use Rattle.ini_edit.proofs.GapLemmas.{gaps_joined}
use Rattle.ini_edit.proofs.InPlaceLemmas.{in_place-put, in_place-split, joined-append}
use Rattle.ini_edit.proofs.HeaderLemmas.{header_bracket}
use Rattle.ini_edit.proofs.PairViewLemmas.{key_front_of}
use Rattle.ini_edit.proofs.QuietLemmas.{as_header}
use Rattle.ini_edit.proofs.SourcePlaceLemmas.{gap_of-end, gap_put-end, rest_put-end}
use Rattle.ini_edit.proofs.SourceSpanLemmas.{gap_put_in, last_after_gap, last_of_gap, spans_after_pairs}
use Rattle.ini_edit.proofs.SourceSpanLemmas.{spans_before_gap}
use Rattle.ini_edit.proofs.SpanFrontLemmas.{spans_ahead}
use Rattle.ini_edit.proofs.SpanLemmas.{spans_local}

module _ (o : ParseOption) (xs zs : List Span) (a b : Text) (p : Stretches) (key value : Text) where
  abbrev pub front : List Span
  front = xs ++ gap a ∷ []

  abbrev pub last : ℕ
  last = last_or line_feed (joined span_source (xs ++ gap a ∷ []))

  abbrev pub following : Text
  following = joined span_source zs

  -- a pair and the gap after it exchanged for a comment
  pub comment_for_pair : (C : Text)
      → AreSpans o line_feed (xs ++ (gap a ∷ (pair p key value ∷ (gap b ∷ zs)))) []
      → (AreSpans o last (pair p key value ∷ (gap b ∷ zs)) [] → IsOut o last p b following (semicolon ∷ C))
      → AreSpans o line_feed (xs ++ (gap (a ++ semicolon ∷ C) ∷ zs)) []
  comment_for_pair C h out =
      let whole : AreSpans o line_feed (front ++ (pair p key value ∷ (gap b ∷ zs))) [] =
      subst (λ l. AreSpans o line_feed l [])
      (sym (append_assoc xs (gap a ∷ []) (pair p key value ∷ (gap b ∷ zs)))) h in
      let split = in_place-split span_source front (pair p key value ∷ (gap b ∷ zs)) whole in
      at whole split.0 split.1 (out split.1)
    where
      at : AreSpans o line_feed (front ++ (pair p key value ∷ (gap b ∷ zs))) []
          → AreSpans o line_feed front ((pair_source p ++ (b ++ following)) ++ [])
          → AreSpans o last (pair p key value ∷ (gap b ∷ zs)) [] → IsOut o last p b following (semicolon ∷ C)
          → AreSpans o line_feed (xs ++ (gap (a ++ semicolon ∷ C) ∷ zs)) []
      at whole before (AreInPlace.more (IsSpan.is_pair is) later) made =
          let new = ((semicolon ∷ C) ++ []) ++ (following ++ []) in
          let text : (pair_source p ++ (b ++ following)) ++ []
          ≡ p.key ++ (after_key_source p ++ ((b ++ following) ++ [])) =
          append_assoc (pair_source p) (b ++ following) [] ∙ pair_then p ((b ++ following) ++ []) in
          let ahead : AreSpans o line_feed front new =
          spans_ahead (mark_may_follow semicolon ((C ++ []) ++ (following ++ [])) refl) front
          (key_front_of is) (subst (AreSpans o line_feed front) text before) in
          let ends : Agree o (last_or last (pair_source p ++ (b ++ [])) ∷ [])
          (last_or last ((semicolon ∷ C) ++ []) ∷ []) following =
          subst (λ z. Agree o (z ∷ []) (last_or last ((semicolon ∷ C) ++ []) ∷ []) following)
          (sym (ap (λ t. last_or last (pair_source p ++ t)) (append-nil b)
          ∙ last_or-append last (pair_source p) b))
          (subst (λ z. Agree o (last_or (last_or last (pair_source p)) b ∷ []) (z ∷ []) following)
          (sym (ap (last_or last) (append-nil (semicolon ∷ C)))) made.agrees) in
          gaps_joined xs a (semicolon ∷ C) zs
          (subst (λ l. AreSpans o line_feed l []) (append_assoc xs (gap a ∷ []) (gap (semicolon ∷ C) ∷ zs))
          (in_place-put span_source spans_local front (pair p key value ∷ (gap b ∷ []))
          (gap (semicolon ∷ C) ∷ []) zs whole ahead
          (AreInPlace.more (IsSpan.is_gap made.is) AreInPlace.none) ends))

-- what begins neither a header nor a key doesn't begin what follows a pair's gap
bracket_begins : (test : ℕ → Bool) → test open_bracket ≡ false → (s x : Text)
    → BeginsWith (λ c. c == open_bracket) s → BeginsWithNo test (s ++ x)
bracket_begins test apart [] x h = absurd (false≢true (sym h))
bracket_begins test apart (c ∷ s) x h = subst (λ d. test d ≡ false) (sym (eqb-true c open_bracket h)) apart

module _ {o : ParseOption} (test : ℕ → Bool) (apart : test open_bracket ≡ false) where
  opening_begins : {c : ℕ} {r : Text} (name : Option Text) (s x : Text) → is_some name ≡ true
      → IsSpan o c (opening name s) r → BeginsWithNo test (s ++ x)
  opening_begins None s x named is = absurd (false≢true named)
  opening_begins (Some name) s x named (IsSpan.header e) =
      bracket_begins test apart s x (header_bracket (as_header e))

  sections_begin : {c : ℕ} (ss : List SectionPiece)
      → list_all (λ t. is_some t.name) ss ≡ true → AreSpans o c (sections_spans ss) []
      → BeginsWithNo test (joined span_source (sections_spans ss) ++ [])
  sections_begin [] named h = tt
  sections_begin (t ∷ ss) named (AreInPlace.more is later) =
      let rest = t.after ++ joined span_source (pairs_spans t.pairs ++ sections_spans ss) in
      subst (BeginsWithNo test) (sym (append_assoc t.header rest []))
      (opening_begins t.name t.header (rest ++ [])
      (and_parts (is_some t.name) (list_all (λ t. is_some t.name) ss) named).0 is)

  rest_begins : {c : ℕ} (s : Place SectionPiece) (after : List PairPiece)
      → ((c : ℕ) (q : Stretches) (key value r : Text) → IsPair o c q key value r
      → BeginsWithNo test (q.key ++ (after_key_source q ++ r)))
      → list_all (λ t. is_some t.name) s.after ≡ true → AreSpans o c (spans_after_pairs s after) []
      → BeginsWithNo test (joined span_source (spans_after_pairs s after) ++ [])
  rest_begins s [] key named h = sections_begin s.after named h
  rest_begins {c} s (p ∷ after) key named (AreInPlace.more (IsSpan.is_pair {key = k} {value = v} {r = r} is) later) =
      let rest = p.after ++ joined span_source (spans_after_pairs s after) in
      let text : (pair_source p.stretches ++ rest) ++ []
      ≡ p.stretches.key ++ (after_key_source p.stretches ++ (rest ++ [])) =
      append_assoc (pair_source p.stretches) rest [] ∙ pair_then p.stretches (rest ++ []) in
      subst (BeginsWithNo test) (sym text) (key c p.stretches k v (rest ++ []) is)

-- the sections after one of a text have names
later_named : (before : List SectionPiece) (s : SectionPiece) (after : List SectionPiece)
    → BeginGeneral (before ++ s ∷ after) → list_all (λ t. is_some t.name) after ≡ true
later_named [] s after h = h.1
later_named (b ∷ before) s after h = at before h.1
  where
    at : (before : List SectionPiece) → list_all (λ t. is_some t.name) (before ++ s ∷ after) ≡ true
        → list_all (λ t. is_some t.name) after ≡ true
    at [] h = (and_parts (is_some s.name) (list_all (λ t. is_some t.name) after) h).1
    at (b ∷ before) h = at before (and_parts (is_some b.name) _ h).1

-- a gap alone is put after another one, in one line or in more
rest_put_nothing : (o : ParseOption) (g : Text) (s : SectionPiece) (before after : List PairPiece)
    → rest_put o [] g s before after ≡ gap_put (gap_of s.after before ++ g) s before after
rest_put_nothing o g s before after = at (ended before)
  where
    one : (p : PairPiece) → with_rest o [] g p ≡ record p { after = p.after ++ g }
    one p = by (is_multiline o p && is_empty p.after)
      where
        by : (b : Bool) → (if b then with_end (p.stretches.trailing_lines ++ []) (p.after ++ g) p
            else with_end p.stretches.trailing_lines (p.after ++ g) p) ≡ record p { after = p.after ++ g }
        by true = ap (λ t. with_end t (p.after ++ g) p) (append-nil p.stretches.trailing_lines)
        by false = refl

    at : {before : List PairPiece} → Ended before
        → rest_put o [] g s before after ≡ gap_put (gap_of s.after before ++ g) s before after
    at Ended.nothing = refl
    at (Ended.one_last ps p) =
        rest_put-end s ps p after o [] g
        ∙ ap (λ q. with_pairs s (ps ++ q ∷ after)) (one p)
        ∙ sym (gap_put-end s ps p after (p.after ++ g))
        ∙ ap (λ t. gap_put (t ++ g) s (ps ++ p ∷ []) after) (sym (gap_of-end s.after ps p))

module _ (o : ParseOption) {ss : List SectionPiece} {s : Place SectionPiece} {i : ℕ} (at : IsPlaceAt ss s i)
    (p : Place PairPiece) (whole : s.here.pairs ≡ p.before ++ p.here ∷ p.after) (are : AreSections o ss) where
  abbrev gap_text : Text
  gap_text = gap_of s.here.after p.before

  abbrev the_lines : Text
  the_lines = pair_lines o p.here

  abbrev the_rest : Text
  the_rest = line_end_after o p.here ++ (lines_after o p.here ++ gap_after o p.here)

  abbrev later : List Span
  later = spans_after_pairs s p.after

  abbrev before : List Span
  before = spans_before_gap s p.before

  last_is : last_before_pair (last_before_section s) s.here p
      ≡ last_or line_feed (joined span_source (before ++ gap gap_text ∷ []))
  last_is =
      sym (last_after_gap s.here p.before (last_before_section s))
      ∙ ap (λ c. last_or c gap_text) (last_of_gap s p.before)
      ∙ sym (ap (last_or line_feed) (joined-append span_source before (gap gap_text ∷ []))
      ∙ last_or-append line_feed (joined span_source before) (gap_text ++ [])
      ∙ ap (last_or (last_or line_feed (joined span_source before))) (append-nil gap_text))

  out_there : {c : ℕ} → is_line_feed c ≡ true
      → is_text (line_end_after o p.here) (carriage_return ∷ []) ≡ false
      → AreSpans o c (pair p.here.stretches p.here.key p.here.value ∷ (gap p.here.after ∷ later)) []
      → IsOut o c p.here.stretches p.here.after (joined span_source later) (comment_of the_lines the_rest)
  out_there {c} one apart (AreInPlace.more (IsSpan.is_pair is) (AreInPlace.more (IsSpan.is_gap g) further)) =
      let following = joined span_source later in
      let named = later_named s.before s.here s.after (subst BeginGeneral at.whole are.begin_general) in
      commented_is following one
      (pair_commented p.here (following ++ [])
      (subst (IsPair o c p.here.stretches p.here.key p.here.value) (append_assoc p.here.after following [])
      is) g
      (rest_begins is_line_end refl s p.after
      (λ c q key value r next. no_end_begins (q.key ++ (after_key_source q ++ r)) (pair_follows next).some) named
      further)
      (rest_begins is_comment_mark refl s p.after (λ c q key value r next. pair_unmarked next) named further)
      apart)

  out_sections : is_line_feed (last_before_pair (last_before_section s) s.here p) ≡ true
      → is_text (line_end_after o p.here) (carriage_return ∷ []) ≡ false
      → AreSections o (exchanged s (rest_put o [] (comment_of the_lines the_rest) s.here p.before
      p.after ∷ []))
  out_sections one apart =
      subst (λ t. AreSections o (exchanged s (t ∷ [])))
      (sym (rest_put_nothing o (comment_of the_lines the_rest) s.here p.before p.after))
      (gap_put_in o at p.before (p.here ∷ p.after) p.after (gap_text ++ comment_of the_lines the_rest) whole
      (λ h. comment_for_pair o before later gap_text p.here.after p.here.stretches p.here.key p.here.value
      (space ∷ (marked the_lines ++ the_rest)) h
      (λ two. out_there (subst (λ c. is_line_feed c ≡ true) last_is one) apart two))
      are)

  -- the sections with the pair made comments
  pub commented_out_sections : (new : SectionPiece)
      → pair_commented_out o (last_before_section s) s.here p ≡ Some new
      → AreSections o (exchanged s (new ∷ []))
  commented_out_sections new h =
      by (not (is_line_feed (last_before_pair (last_before_section s) s.here p)))
      (is_text (line_end_after o p.here) (carriage_return ∷ [])) refl refl h
    where
      put : SectionPiece
      put = rest_put o [] (comment_of the_lines the_rest) s.here p.before p.after

      by : (a b : Bool) → not (is_line_feed (last_before_pair (last_before_section s) s.here p)) ≡ a
          → is_text (line_end_after o p.here) (carriage_return ∷ []) ≡ b
          → (if a || b then None else Some put) ≡ Some new → AreSections o (exchanged s (new ∷ []))
      by true b column apart h = absurd (let none : None ≡ Some new = h in cc)
      by false true column apart h = absurd (let none : None ≡ Some new = h in cc)
      by false false column apart h =
          let is : put ≡ new = cc in
          subst (λ t. AreSections o (exchanged s (t ∷ []))) is
          (out_sections (not-false (is_line_feed (last_before_pair (last_before_section s) s.here p)) column)
          apart)
