-- A section taken out of sections that are those of a text.
use Rattle.std.proofs.Common.{◌≡◌, ◌≢◌, ◌∙◌, ◌==◌, ◌&&◌, ℕ, Bool, true, false, cond, not, List, [], ◌∷◌, ◌++◌}
use Rattle.std.proofs.Common.{ap, append_assoc, append-nil, inl, inr, refl, subst, sym}
use Rattle.std.proofs.lemmas.Bool.{and_from, and_parts, cases_Bool, cond-false, cond-true}
use Rattle.std.proofs.lemmas.Bool.{false≢true, or_left}
use Rattle.std.specs.List.{list_all}
use Rattle.ini_text.specs.Grammar.CharacterKinds.{BeginsWith, BeginsWithNo, is_blank, is_comment_mark}
use Rattle.ini_text.specs.Grammar.CharacterKinds.{is_line_end, is_line_feed, line_feed, open_bracket}
use Rattle.ini_text.specs.Grammar.Places.{after_key_source, pair_source}
use Rattle.ini_text.specs.Grammar.Positions.{last_or}
use Rattle.ini_text.specs.Grammar.CharacterKinds.{begins}
use Rattle.ini_text.specs.declared.option.ParseOption.{ParseOption}
use Rattle.ini_text.proofs.LawLemmas.PieceLemmas.{last_or-append}
use Rattle.ini_text.proofs.ReaderLemmas.LineReaderLemmas.{TextEnds}
use Rattle.ini_text.proofs.StringLemmas.FrontLemmas.{front_is}
use Rattle.ini.specs.Texts.{Text}
use Rattle.ini_edit.specs.Inside.InPlace.{AreInPlace}
use Rattle.ini_edit.specs.Inside.Spans.{AreSections, AreSpans, IsGap, IsSpan, Span, gap, opening, pair}
use Rattle.ini_edit.specs.Inside.Spans.{pairs_spans, section_spans, sections_spans, span_source}
use Rattle.ini_edit.specs.Places.{Follows}
use Rattle.ini_edit.specs.SourceEdits.{with_pairs}
use Rattle.ini_edit.specs.SourceEditsDelete.{with_rest}
use Rattle.ini_edit.specs.SourceEditsSections.{line_end_before, section_rest, with_rest_of_next}
use Rattle.ini_edit.specs.SourceLines.{indentation_at_end, is_empty, line_end_at_end}
use Rattle.ini_edit.specs.SourcePlaces.{Place, is_nil, last_before_gap, last_before_section}
use Rattle.ini_edit.specs.SourcePlaces.{last_gap, with_end}
use Rattle.ini_edit.specs.Sources.{PairPiece, SectionPiece, has_separator, is_multiline, joined, section_text}
use Rattle.ini_edit.proofs.AheadLemmas.{FollowsFront, closes_no_line}
use Rattle.ini_edit.proofs.CommentLemmas.{begins_with}
use Rattle.ini_edit.proofs.DeletedLinesLemmas.{IsLineEnd, end_is, end_last}
use Rattle.ini_edit.proofs.DeletedPairLemmas.{pair_key_some}
use Rattle.ini_edit.proofs.InPlaceLemmas.{in_place-split, joined-append}
use Rattle.ini_edit.proofs.GapPartLemmas.{some_before}
use Rattle.ini_edit.proofs.LineCutLemmas.{text_closes}
use Rattle.ini_edit.proofs.PairViewLemmas.{one_line}
use Rattle.ini_edit.proofs.RestPutLemmas.{EndsSo, begins_not, empty_is, feed_kind, goes_after, kind_of}
use Rattle.ini_edit.proofs.RestPutLemmas.{like_nothing, like_put, mark_no_blank, marked, nil_one}
use Rattle.ini_edit.proofs.RestPutLemmas.{pair_line_end, put_so, rest_follows, rest_for, rest_nothing}
use Rattle.ini_edit.proofs.RestPutLemmas.{would_take}
use Rattle.ini_edit.proofs.SectionBeginLemmas.{begin_without, bracket_front, bracket_no_note, bracket_some}
use Rattle.ini_edit.proofs.SectionBeginLemmas.{has_name, header_begins, name_after, names_after}
use Rattle.ini_edit.proofs.SectionBeginLemmas.{sections_begin}
use Rattle.ini_edit.proofs.SectionEndLemmas.{LastOf, first_text, last_of, last_through, put_name, put_nothing}
use Rattle.ini_edit.proofs.SectionEndLemmas.{put_one, regroup, regroup_last, regroup_lines, regroup_put}
use Rattle.ini_edit.proofs.SectionEndLemmas.{spans_last, up_to_last}
use Rattle.ini_edit.proofs.HeaderLemmas.{EmptyOrHeader}
use Rattle.ini_edit.proofs.SectionRestLemmas.{Rest, unindented}
use Rattle.ini_edit.proofs.SectionTakenLemmas.{AreLike, IsFeed, IsKept, IsSplit, MayPrecede, between}
use Rattle.ini_edit.proofs.SectionTakenLemmas.{following, fore_end, gap_taken, kept_of, lines_taken}
use Rattle.ini_edit.proofs.SectionTakenLemmas.{section_end, split, with_trailing}
use Rattle.ini_edit.proofs.SourceReadLemmas.{begin-same, pairs_spans-append, sections_spans-append}
use Rattle.ini_edit.proofs.SourceSpanLemmas.{last_of_gap, spans_to_gap, text_to_gap}

none_within : (s t : Text) → s ++ t ≡ [] → s ≡ []
none_within [] t none = refl
none_within (c ∷ s) t none = cc

-- the section s after t, of which k is kept of the last gap, and w isn't
module _ (o : ParseOption) (bs : List SectionPiece) (t s : SectionPiece) (after : List SectionPiece) where
  abbrev there : Place SectionPiece
  there = record { before = bs; here = t; after = s ∷ after }

  abbrev next : Place SectionPiece
  next = record { before = bs ++ t ∷ []; here = s; after = after }

  abbrev pub before_gap : ℕ
  before_gap = last_before_gap (last_before_section there) t t.pairs

  abbrev pub before_last : ℕ
  before_last = last_before_gap (last_before_section next) s s.pairs

  abbrev pub rest : Text
  rest = section_rest o (is_nil after) before_last (last_gap s)

  abbrev pub line_end : Text
  line_end = line_end_before rest s

  -- what is put after what is kept of the gap before: a line end, and what stays
  abbrev pub lines_at : (kept : Text) → Text
  lines_at kept = cond (goes_after (last_or before_gap kept) rest) [] line_end

  abbrev pub rest_at : (kept : Text) → Text
  rest_at kept = cond (would_take o kept t rest) [] rest

  abbrev ys : List Span
  ys = spans_to_gap s s.pairs

  abbrev zs : List Span
  zs = sections_spans after

  module _ (are : AreSections o (bs ++ t ∷ s ∷ after)) where
    -- the spans from the section on
    from_section : AreSpans o (last_or line_feed (joined span_source (sections_spans (bs ++ t ∷ []))))
        (section_spans s ++ zs) []
    from_section =
        (in_place-split span_source (sections_spans (bs ++ t ∷ [])) (section_spans s ++ zs)
        (subst (λ l. AreSpans o line_feed l [])
        (ap sections_spans (sym (append_assoc bs (t ∷ []) (s ∷ after)))
        ∙ sections_spans-append (bs ++ t ∷ []) (s ∷ after)) are.spans)).1

    from_before : AreSpans o (last_or line_feed (joined span_source (sections_spans bs)))
        (section_spans t ++ sections_spans (s ∷ after)) []
    from_before =
        (in_place-split span_source (sections_spans bs) (section_spans t ++ sections_spans (s ∷ after))
        (subst (λ l. AreSpans o line_feed l []) (sections_spans-append bs (t ∷ s ∷ after)) are.spans)).1

    named : (has_name s ≡ true) × (list_all has_name after ≡ true)
    named = and_parts (has_name s) (list_all has_name after)
        (names_after bs t (s ∷ after) are.begin_general)

    bracket : BeginsWith (λ c. c == open_bracket) s.header
    bracket = header_begins s zs named.0 from_section

    header_after : EmptyOrHeader (joined span_source zs)
        × (after ≢ [] → joined span_source zs ++ [] ≢ [])
    header_after =
        sections_begin after named.1 (in_place-split span_source (section_spans s) zs from_section).1

    -- the section before it exchanged
    put_there : (new : SectionPiece) → new.name ≡ t.name
        → AreSpans o line_feed (sections_spans bs ++ (section_spans new ++ zs)) []
        → AreSections o (bs ++ new ∷ after)
    put_there new same h = record {
      begin_general = begin-same bs t new after same (begin_without bs t s after are.begin_general);
      spans = subst (λ l. AreSpans o line_feed l []) (sym (sections_spans-append bs (new ∷ after))) h;
    }

    module _ (xt : List Span) (x : Span) (is : spans_to_gap t t.pairs ≡ xt ++ x ∷ []) (k w : Text)
        (cut : last_gap t ≡ k ++ w) (kept : IsKept before_gap k w) where
      abbrev xs : List Span
      xs = sections_spans bs ++ xt

      spans_whole : sections_spans (bs ++ t ∷ s ∷ after)
          ≡ (xs ++ x ∷ []) ++ (gap (k ++ w) ∷ (ys ++ gap (last_gap s) ∷ zs))
      spans_whole =
          sections_spans-append bs (t ∷ s ∷ after)
          ∙ ap (λ l. sections_spans bs ++ (l ++ (section_spans s ++ zs)))
          (spans_last t ∙ ap (λ l. l ++ gap (last_gap t) ∷ []) is
          ∙ ap (λ g. (xt ++ x ∷ []) ++ gap g ∷ []) cut)
          ∙ ap (λ l. sections_spans bs ++ (((xt ++ x ∷ []) ++ gap (k ++ w) ∷ []) ++ (l ++ zs)))
          (spans_last s)
          ∙ regroup (sections_spans bs) xt x (gap (k ++ w)) (gap (last_gap s)) ys zs

      abbrev the_fore_end : ℕ
      the_fore_end = fore_end o xs x k w ys (last_gap s) zs

      abbrev the_section_end : ℕ
      the_section_end = section_end o xs x k w ys (last_gap s) zs

      abbrev the_between : Text
      the_between = between o xs x k w ys (last_gap s) zs

      abbrev the_following : Text
      the_following = following o xs x k w ys (last_gap s) zs

      gap_is : before_gap ≡ the_fore_end
      gap_is =
          last_of_gap there t.pairs
          ∙ ap (λ l. last_or line_feed (joined span_source l))
          (ap (λ l. sections_spans bs ++ l) is ∙ sym (append_assoc (sections_spans bs) xt (x ∷ [])))

      so_far : sections_spans (bs ++ t ∷ []) ≡ (xs ++ x ∷ []) ++ gap (k ++ w) ∷ []
      so_far =
          sections_spans-append bs (t ∷ [])
          ∙ ap (λ l. sections_spans bs ++ l)
          (append-nil (section_spans t) ∙ spans_last t ∙ ap (λ l. l ++ gap (last_gap t) ∷ []) is
          ∙ ap (λ g. (xt ++ x ∷ []) ++ gap g ∷ []) cut)
          ∙ regroup_last (sections_spans bs) xt x (gap (k ++ w))

      last_is : before_last ≡ the_section_end
      last_is =
          last_of_gap next s.pairs
          ∙ ap (λ l. last_or line_feed (joined span_source (l ++ ys))) so_far
          ∙ last_through (xs ++ x ∷ []) ys (k ++ w)

      parts : IsSplit o xs x k w ys (last_gap s) zs
      parts = split o xs x k w ys (last_gap s) zs
          (subst (λ l. AreSpans o line_feed l []) spans_whole are.spans)

      between_is : s.header ++ (joined span_source ((gap s.after ∷ pairs_spans s.pairs) ++ zs) ++ [])
          ≡ the_between
      between_is =
          sym (append_assoc s.header (joined span_source ((gap s.after ∷ pairs_spans s.pairs) ++ zs)) [])
          ∙ ap (λ l. joined span_source l ++ [])
          (ap (λ l. l ++ zs) (spans_last s) ∙ append_assoc ys (gap (last_gap s) ∷ []) zs)

      some : the_between ≢ []
      some = subst (λ t. t ≢ []) between_is (bracket_some s.header _ bracket)

      front : FollowsFront [] (w ++ the_between)
      front = subst (λ y. FollowsFront [] (w ++ y)) between_is
          (bracket_front w s.header _ kept.blank bracket)

      unmarked : BeginsWithNo is_comment_mark (w ++ the_between)
      unmarked = subst (λ y. BeginsWithNo is_comment_mark (w ++ y)) between_is
          (bracket_no_note w s.header _ kept.blank bracket)

      stays : Rest o before_last (last_gap s) rest the_following
      stays = rest_for before_last (last_gap s) after header_after.1
          (subst (λ c. IsGap o c (last_gap s) the_following) (sym last_is) parts.last)

      stays_there : Rest o the_section_end (last_gap s) rest the_following
      stays_there = subst (λ c. Rest o c (last_gap s) rest the_following) last_is stays

      -- the line end before what stays
      ends : EndsSo (last_or before_last stays.before) rest line_end
      ends =
          let front = joined span_source ys ++ stays.before in
          let text : section_text s ≡ front ++ rest =
          text_to_gap s s.pairs ∙ ap (λ z. joined span_source ys ++ z) stays.whole
          ∙ sym (append_assoc (joined span_source ys) stays.before rest) in
          let same : line_end ≡ line_end_at_end front =
          ap line_end_at_end (front_is front rest (section_text s) (sym text)) in
          let c = last_or the_fore_end (k ++ w) in
          let old : last_or c front ≡ last_or before_last stays.before =
          last_or-append c (joined span_source ys) stays.before
          ∙ ap (λ c. last_or c stays.before) (sym last_is) in
          let first = first_text (opening s.name s.header) s.after s.pairs in
          let apart : front ≢ [] =
          subst (λ t. t ≢ [])
          (sym (ap (λ t. t ++ stays.before) first.1 ∙ append_assoc s.header first.0 stays.before))
          (bracket_some s.header (first.0 ++ stays.before) bracket) in
          record {
            kind = subst IsLineEnd (sym same) (end_is front);
            last = λ h d. ap (last_or d) same ∙ end_last d c front apart (ap is_line_end old ∙ h) ∙ old;
            line = stays.line;
            column = stays.column;
          }

      gap_deleted : (span_source x ≡ [] → xs ≡ [])
          → (k ≡ [] → MayPrecede o x ((lines_at k ++ rest_at k) ++ the_following))
          → AreSpans o line_feed ((xs ++ x ∷ []) ++ (gap (k ++ (lines_at k ++ rest_at k)) ∷ zs)) []
      gap_deleted first may =
          let d = last_or before_gap k in
          gap_taken xs x k w ys (last_gap s) zs (lines_at k) (rest_at k) parts
          (subst (λ c. IsKept c k w) gap_is kept)
          (rest_nothing (would_take o k t rest) stays_there)
          (subst (λ c. AreLike (rest_at k) (last_or (last_or c k) (lines_at k))) gap_is
          (like_nothing (would_take o k t rest)
          (like_put d (last_or before_last stays.before) rest line_end ends)))
          (kind_of (goes_after d rest) ends.kind) some front unmarked first may header_after.0

      put_gap : (new : SectionPiece) → new.name ≡ t.name → (g : Text)
          → section_spans new ≡ (xt ++ x ∷ []) ++ gap g ∷ []
          → AreSpans o line_feed ((xs ++ x ∷ []) ++ (gap g ∷ zs)) [] → AreSections o (bs ++ new ∷ after)
      put_gap new same g spans h =
          put_there new same
          (subst (λ l. AreSpans o line_feed l [])
          (sym (ap (λ l. sections_spans bs ++ (l ++ zs)) spans
          ∙ regroup_put (sections_spans bs) xt x (gap g) zs)) h)

      put_lines : (new : SectionPiece) → new.name ≡ t.name → (q : Span) (g : Text)
          → section_spans new ≡ xt ++ (q ∷ gap g ∷ [])
          → AreSpans o line_feed (xs ++ (q ∷ gap g ∷ zs)) [] → AreSections o (bs ++ new ∷ after)
      put_lines new same q g spans h =
          put_there new same
          (subst (λ l. AreSpans o line_feed l [])
          (sym (ap (λ l. sections_spans bs ++ (l ++ zs)) spans
          ∙ regroup_lines (sections_spans bs) xt q (gap g) zs)) h)

    -- where no pairs stand in the section before
    first_bare : t.header ≡ [] → sections_spans bs ++ [] ≡ []
    first_bare bare = elim (name_after bs t (s ∷ after) are.begin_general) [
      | inl is ↦ ap (λ l. sections_spans l ++ []) is
      | inr has ↦ absurd (false≢true (sym (subst (BeginsWith (λ c. c == open_bracket)) bare
          (header_begins t (sections_spans (s ∷ after)) has from_before))))
    ]

    without_pairs : t.pairs ≡ [] → (k w : Text) → last_gap t ≡ k ++ w → IsKept before_gap k w
        → AreSections o (bs ++ put_so o before_gap line_end rest t k ∷ after)
    without_pairs is k w cut kept =
        let x = opening t.name t.header in
        let to = ap (spans_to_gap t) is in
        let g = k ++ (lines_at k ++ rest_at k) in
        put_gap [] x to k w cut kept (put_so o before_gap line_end rest t k)
        (put_name o k (lines_at k) (rest_at k) t) g
        (ap section_spans (put_nothing o k (lines_at k) (rest_at k) t is))
        (gap_deleted [] x to k w cut kept first_bare (λ _. tt))

    -- where a pair stands last in it
    module _ (ps : List PairPiece) (p : PairPiece) (is : t.pairs ≡ ps ++ p ∷ []) (k w : Text)
        (cut : last_gap t ≡ k ++ w) (kept : IsKept before_gap k w) where
      abbrev xt : List Span
      xt = opening t.name t.header ∷ gap t.after ∷ pairs_spans ps

      abbrev x : Span
      x = pair p.stretches p.key p.value

      to : spans_to_gap t t.pairs ≡ xt ++ x ∷ []
      to = ap (spans_to_gap t) is ∙ up_to_last (opening t.name t.header) t.after ps p

      abbrev new : SectionPiece
      new = put_so o before_gap line_end rest t k

      new_name : new.name ≡ t.name
      new_name = put_name o k (lines_at k) (rest_at k) t

      new_is : new ≡ with_pairs t (ps ++ with_rest o (lines_at k) (rest_at k) (record p { after = k }) ∷ [])
      new_is = put_one o k (lines_at k) (rest_at k) t ps p is

      spans_of : (q : PairPiece) → section_spans (with_pairs t (ps ++ q ∷ []))
          ≡ xt ++ (pair q.stretches q.key q.value ∷ gap q.after ∷ [])
      spans_of q = ap (λ l. opening t.name t.header ∷ gap t.after ∷ l) (pairs_spans-append ps (q ∷ []))

      pair_there : {y : Text} → AreSpans o line_feed ((sections_spans bs ++ xt) ++ x ∷ []) y
          → AreSpans o (last_or line_feed (joined span_source (sections_spans bs ++ xt))) (x ∷ []) y
      pair_there h = (in_place-split span_source (sections_spans bs ++ xt) (x ∷ []) h).1

      first : span_source x ≡ [] → sections_spans bs ++ xt ≡ []
      first none =
          absurd (pair_key_some (pair_there (parts xt x to k w cut kept).before)
          (none_within p.stretches.key (after_key_source p.stretches) none))

      -- no header stands directly after a pair in one line
      line_apart : {X : Type 0} → is_multiline o p ≡ false → k ≡ [] → X
      line_apart off none =
          at (pair_there (parts xt x to k w cut kept).before)
        where
          at : {X : Type 0} {c : ℕ} → AreSpans o c (x ∷ []) ((k ++ w) ++ the_between xt x to k w cut kept)
              → X
          at (AreInPlace.more (IsSpan.is_pair is) AreInPlace.none) =
              let y = w ++ the_between xt x to k w cut kept in
              closes_no_line y (front xt x to k w cut kept).some
              (text_closes o y (subst (λ z. TextEnds o ((z ++ w) ++ the_between xt x to k w cut kept)) none
              (one_line is off).1) (unmarked xt x to k w cut kept))

      in_gap : (is_multiline o p && is_empty k) ≡ false → AreSections o (bs ++ new ∷ after)
      in_gap apart =
          let g = k ++ (lines_at k ++ rest_at k) in
          let q : PairPiece = record p { after = g } in
          let with_gap : with_rest o (lines_at k) (rest_at k) (record p { after = k }) ≡ q =
          cond-false (is_multiline o p && is_empty k) _ _ apart in
          put_gap xt x to k w cut kept new new_name g
          (ap section_spans new_is ∙ ap (λ q. section_spans (with_pairs t (ps ++ q ∷ []))) with_gap
          ∙ spans_of q ∙ sym (append_assoc xt (x ∷ []) (gap g ∷ [])))
          (gap_deleted xt x to k w cut kept first
          (λ none. line_apart (off (is_multiline o p) apart (ap is_empty none)) none))
        where
          off : (b : Bool) → (b && is_empty k) ≡ false → is_empty k ≡ true → b ≡ false
          off true h e = absurd (false≢true (sym h ∙ e))
          off false h e = refl

      module _ (goes : is_multiline o p ≡ true) (none : k ≡ []) where
        on : o.enabled_indented_mutiline_value ≡ true
        on = (and_parts o.enabled_indented_mutiline_value (has_separator p) goes).0

        abbrev tail : Text
        tail = p.stretches.trailing_lines

        -- what is put there, as it is with these lines
        abbrev put_spans : (lines kept rest : Text) → List Span
        put_spans lines kept rest =
            xt ++ (pair (with_trailing (tail ++ lines) p.stretches) p.key p.value ∷ gap (kept ++ rest) ∷ [])

        lines_spans : section_spans new ≡ put_spans (lines_at k) k (rest_at k)
        lines_spans =
            ap section_spans new_is
            ∙ ap (λ q. section_spans (with_pairs t (ps ++ q ∷ [])))
            (cond-true (is_multiline o p && is_empty k) _ _
            (and_from (is_multiline o p) (is_empty k) goes (ap is_empty none)))
            ∙ spans_of (with_end (tail ++ lines_at k) (k ++ rest_at k) p)

        taken_is : would_take o k t rest ≡ begins is_blank rest
        taken_is =
            ap (λ a. a && (is_empty k && (not (is_nil t.pairs) && begins is_blank rest))) on
            ∙ ap (λ k. is_empty k && (not (is_nil t.pairs) && begins is_blank rest)) none
            ∙ ap (λ a. not a && begins is_blank rest) (ap is_nil is ∙ nil_one ps p)

        abbrev Z : Text
        Z = the_following xt x to k w cut kept

        header_there : EmptyOrHeader Z
        header_there = subst EmptyOrHeader (sym (append-nil (joined span_source zs))) header_after.0

        no_end : BeginsWithNo is_line_end rest
        no_end = (stays xt x to k w cut kept).no_end

        -- the value ends with a line end
        line_there : is_line_end (last_or before_gap k) ≡ true
        line_there =
            let xs = sections_spans bs ++ xt in
            let c = last_or line_feed (joined span_source xs) in
            let the_parts = parts xt x to k w cut kept in
            let last : before_gap ≡ last_or c (pair_source p.stretches) =
            gap_is xt x to k w cut kept
            ∙ ap (last_or line_feed) (joined-append span_source xs (x ∷ [])
            ∙ ap (λ t. joined span_source xs ++ t) (append-nil (pair_source p.stretches)))
            ∙ last_or-append line_feed (joined span_source xs) (pair_source p.stretches) in
            ap (λ k. is_line_end (last_or before_gap k)) none ∙ ap is_line_end last
            ∙ pair_line_end goes (some_before (k ++ w) _ (some xt x to k w cut kept))
            (in_place-split span_source xs (x ∷ []) the_parts.before).1

        -- where no other line end goes there
        no_lines : goes_after (last_or before_gap k) rest ≡ true → AreSections o (bs ++ new ∷ after)
        no_lines goes =
            let l = lines_at k in
            let r = rest_at k in
            let empty : l ≡ [] = cond-true (goes_after (last_or before_gap k) rest) _ _ goes in
            let spans : section_spans new ≡ (xt ++ x ∷ []) ++ gap r ∷ [] =
            lines_spans ∙ ap (λ l. put_spans l k r) empty
            ∙ ap (λ tail. xt ++ (pair (with_trailing tail p.stretches) p.key p.value ∷ gap (k ++ r) ∷ []))
            (append-nil tail)
            ∙ ap (λ k. xt ++ (x ∷ gap (k ++ r) ∷ [])) none
            ∙ sym (append_assoc xt (x ∷ []) (gap r ∷ [])) in
            let text : k ++ (l ++ r) ≡ r = ap (λ k. k ++ (l ++ r)) none ∙ ap (λ l. l ++ r) empty in
            put_gap xt x to k w cut kept new new_name r spans
            (subst (λ g. AreSpans o line_feed ((((sections_spans bs ++ xt) ++ x ∷ [])) ++ (gap g ∷ zs)) [])
            text
            (gap_deleted xt x to k w cut kept first
            (λ _. subst (λ l. Follows o ((l ++ r) ++ Z)) (sym empty)
            (rest_follows r Z (no_blank (would_take o k t rest) refl)
            (no_end_there (would_take o k t rest)) header_there))))
          where
            no_blank : (g : Bool) → would_take o k t rest ≡ g → BeginsWithNo is_blank (cond g [] rest)
            no_blank true is = tt
            no_blank false is = begins_not is_blank rest (sym taken_is ∙ is)

            no_end_there : (g : Bool) → BeginsWithNo is_line_end (cond g [] rest)
            no_end_there true = tt
            no_end_there false = no_end

        -- where one does, a comment stays
        more_lines : goes_after (last_or before_gap k) rest ≡ false → AreSections o (bs ++ new ∷ after)
        more_lines apart =
            let mark : BeginsWith is_comment_mark rest =
            begins_with is_comment_mark rest
            (marked (is_line_end (last_or before_gap k)) (is_line_feed (last_or before_gap k))
            (begins is_comment_mark rest) apart line_there) in
            let other : begins is_blank rest ≡ false = mark_no_blank rest mark in
            let the_ends = ends xt x to k w cut kept in
            let old = last_or before_last (stays xt x to k w cut kept).before in
            let feed : is_line_feed old ≡ true = the_ends.column mark in
            let is_feed : IsFeed line_end =
            feed_kind the_ends.kind
            (λ c. ap is_line_feed (the_ends.last (or_left (is_line_feed old) _ feed) c) ∙ feed) in
            let lines : lines_at k ≡ line_end =
            cond-false (goes_after (last_or before_gap k) rest) _ _ apart in
            let rests : rest_at k ≡ rest =
            cond-false (would_take o k t rest) _ _ (taken_is ∙ other) in
            let spans : section_spans new
            ≡ xt ++ (pair (with_trailing (tail ++ line_end) p.stretches) p.key p.value ∷ gap rest ∷ []) =
            lines_spans ∙ ap (λ l. put_spans l k (rest_at k)) lines ∙ ap (put_spans line_end k) rests
            ∙ ap (λ k. put_spans line_end k rest) none in
            put_lines xt x to k w cut kept new new_name
            (pair (with_trailing (tail ++ line_end) p.stretches) p.key p.value) rest spans
            (lines_taken on (sections_spans bs ++ xt) p.stretches p.key p.value w ys (last_gap s) zs rest
            (and_parts o.enabled_indented_mutiline_value (has_separator p) goes).1 is_feed
            (subst (λ k. IsSplit o (sections_spans bs ++ xt) x k w ys (last_gap s) zs) none
            (parts xt x to k w cut kept))
            (subst (λ k. Rest o (section_end o (sections_spans bs ++ xt) x k w ys (last_gap s) zs)
            (last_gap s) rest Z) none (stays_there xt x to k w cut kept))
            (rest_follows rest Z (begins_not is_blank rest other) no_end header_there)
            (some xt x to k w cut kept) header_after.0)

        in_lines : AreSections o (bs ++ new ∷ after)
        in_lines = elim (cases_Bool (goes_after (last_or before_gap k) rest)) [
          | inl goes ↦ no_lines goes
          | inr apart ↦ more_lines apart
        ]

      with_pair : AreSections o (bs ++ new ∷ after)
      with_pair = elim (cases_Bool (is_multiline o p && is_empty k)) [
        | inl both ↦
            let two = and_parts (is_multiline o p) (is_empty k) both in
            in_lines two.0 (empty_is k two.1)
        | inr apart ↦ in_gap apart
      ]

    kept_so : AreSections o (bs ++ put_so o before_gap line_end rest t
        (unindented before_gap (last_gap t)).front ∷ after)
    kept_so =
        let u = unindented before_gap (last_gap t) in
        let w = indentation_at_end before_gap (last_gap t) in
        at (last_of t.pairs) u.front w u.whole (kept_of u)
      where
        at : LastOf t.pairs → (k w : Text) → last_gap t ≡ k ++ w → IsKept before_gap k w
            → AreSections o (bs ++ put_so o before_gap line_end rest t k ∷ after)
        at (LastOf.nothing is) k w cut kept = without_pairs is k w cut kept
        at (LastOf.one ps p is) k w cut kept = with_pair ps p is k w cut kept

    -- the sections without s
    pub sections_deleted : AreSections o
        (bs ++ with_rest_of_next o (last_before_section there) t line_end rest ∷ after)
    sections_deleted =
        let u = unindented before_gap (last_gap t) in
        subst (λ t. AreSections o (bs ++ t ∷ after))
        (sym (ap (put_so o before_gap line_end rest t)
        (front_is u.front (indentation_at_end before_gap (last_gap t)) (last_gap t) (sym u.whole)))) kept_so
