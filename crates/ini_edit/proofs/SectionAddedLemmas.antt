-- A new section put after the sections of a text: they are those of a text.
use Rattle.std.proofs.Common.{◌≡◌, ◌≢◌, ◌∙◌, ◌==◌, ◌&&◌, ℕ, Bool, true, false, cond, not, List, [], ◌∷◌}
use Rattle.std.proofs.Common.{◌++◌, ap, append_assoc, append-nil, arith, inl, inr, length, refl, subst, sym}
use Rattle.std.proofs.lemmas.Bool.{and_from, and_parts, cases_Bool, cond-false, cond-true, false≢true}
use Rattle.std.specs.Prelude.{is_some}
use Rattle.ini_text.specs.Grammar.CharacterKinds.{BeginsWith, BeginsWithNo, is_comment_mark, is_line_end}
use Rattle.ini_text.specs.Grammar.CharacterKinds.{is_line_feed, line_feed, open_bracket}
use Rattle.ini_text.specs.Grammar.Pieces.{pieces_text}
use Rattle.ini_text.specs.Grammar.Places.{Stretches, after_key_source, pair_source}
use Rattle.ini_text.specs.Grammar.Positions.{last_or}
use Rattle.ini_text.specs.Options.WriteOptions.{line_end}
use Rattle.ini_text.specs.Parsing.Fronts.{front_of}
use Rattle.ini_text.specs.declared.option.ParseOption.{ParseOption}
use Rattle.ini_text.specs.declared.write.option.LineSeparator.{LineSeparator}
use Rattle.ini_text.proofs.LawLemmas.PieceLemmas.{last_or-append}
use Rattle.ini_text.proofs.ReaderLemmas.KeyReaderLemmas.{KeyFront-some}
use Rattle.ini_text.proofs.StringLemmas.FrontLemmas.{front_is}
use Rattle.ini.specs.Texts.{Text}
use Rattle.ini_edit.specs.Inside.SourceEnds.{put_after_kept}
use Rattle.ini_edit.specs.Inside.InPlace.{AreInPlace}
use Rattle.ini_edit.specs.Inside.Spans.{AreSections, AreSpans, IsGap, IsPair, IsSpan, Span, gap, opening}
use Rattle.ini_edit.specs.Inside.Spans.{pair, pairs_spans, section_spans, sections_spans, span_source}
use Rattle.ini_edit.specs.Places.{Follows}
use Rattle.ini_edit.specs.SourceEdits.{with_pairs}
use Rattle.ini_edit.specs.SourceEditsAdd.{closed, closed_word}
use Rattle.ini_edit.specs.SourceEditsDelete.{with_rest}
use Rattle.ini_edit.specs.SourceEditsSections.{ended_for_section, ends_empty, is_ended_for, is_pair_ended}
use Rattle.ini_edit.specs.SourceEditsSections.{with_last_closed}
use Rattle.ini_edit.specs.SourceLines.{is_empty}
use Rattle.ini_edit.specs.SourcePlaces.{Place, gap_of, last_before_gap, last_before_section, last_changed}
use Rattle.ini_edit.specs.SourcePlaces.{last_gap, with_raw_value}
use Rattle.ini_edit.specs.Sources.{PairPiece, SectionPiece, has_separator, is_multiline, joined, section_text}
use Rattle.ini_edit.proofs.AddedSpanLemmas.{feed_of, gap_either, kept_ended, spans_ended, spans_headed}
use Rattle.ini_edit.proofs.AddedSpanLemmas.{spans_kept}
use Rattle.ini_edit.proofs.GapPartLemmas.{gap_nothing, some_before}
use Rattle.ini_edit.proofs.GapLemmas.{gap_join}
use Rattle.ini_edit.proofs.InPlaceLemmas.{in_place-before, in_place-split, joined-append}
use Rattle.ini_edit.proofs.EndedGapLemmas.{feed_gap}
use Rattle.ini_edit.proofs.PairAddedLemmas.{added_there, closed_there, ended_pair, off_not_ended}
use Rattle.ini_edit.proofs.ClosedPairLemmas.{closed_is, closed_key, closed_separator, closed_stretches}
use Rattle.ini_edit.proofs.ClosedPairLemmas.{key_closing, stays_open}
use Rattle.ini_edit.proofs.PairViewLemmas.{key_front_of, some_key}
use Rattle.ini_edit.proofs.SectionBeginLemmas.{bracket_header, bracket_some, has_name, header_begins}
use Rattle.ini_edit.proofs.SectionBeginLemmas.{name_after}
use Rattle.ini_edit.proofs.SectionEndLemmas.{LastOf, last_of, put_name, put_nothing, put_one, regroup_last}
use Rattle.ini_edit.proofs.SectionEndLemmas.{spans_last, up_to_last}
use Rattle.ini_edit.proofs.SectionEndedLemmas.{IsEnded, and_no, begin_more, begins_same, empty_part}
use Rattle.ini_edit.proofs.SectionEndedLemmas.{empty_rest, ended_after, ended_end, is_ended, pair_closes}
use Rattle.ini_edit.proofs.SectionEndedLemmas.{regroup_end, regroup_put, same_last, some_front, some_or}
use Rattle.ini_edit.proofs.HeaderLemmas.{EmptyOrHeader, header_follows}
use Rattle.ini_edit.proofs.SectionPlaceLemmas.{IsCutFor}
use Rattle.ini_edit.proofs.SectionTakenLemmas.{IsFeed, with_trailing}
use Rattle.ini_edit.proofs.SourcePlaceLemmas.{gap_of-end, last_changed-end}
use Rattle.ini_edit.proofs.SourceReadLemmas.{pairs_spans-append, sections_spans-append}
use Rattle.ini_edit.proofs.SourceSpanLemmas.{last_of_gap, spans_to_gap, text_to_gap}
use Rattle.ini_edit.proofs.SpanLemmas.{spans_local}

module _ (o : ParseOption) (sep : LineSeparator) (bs : List SectionPiece) (t : SectionPiece) (g : Text) where
  abbrev there : Place SectionPiece
  there = record { before = bs; here = t; after = [] }

  abbrev pub before_gap : ℕ
  before_gap = last_before_gap (last_before_section there) t t.pairs

  abbrev l : Text
  l = line_end sep

  abbrev closer : PairPiece → PairPiece
  closer p = closed o p

  abbrev is_empty_there : (text : Text) → Bool → Bool
  is_empty_there text e = ends_empty (text ++ cond e [] l)

  abbrev lines : (text : Text) → Bool → Text
  lines text e = cond e [] l ++ cond (is_empty_there text e) [] l

  -- the section before, with what is kept of its last gap
  abbrev made : (kept text : Text) → Bool → SectionPiece
  made kept text e = put_after_kept o kept (lines text e) [] (with_last_closed o (not e) t)

  made_name : (kept text : Text) (e : Bool) → (made kept text e).name ≡ t.name
  made_name kept text true = put_name o kept (lines text true) [] t
  made_name kept text false =
      put_name o kept (lines text false) [] (with_pairs t (last_changed closer t.pairs))

  module _ (are : AreSections o (bs ++ t ∷ [])) {has_pair : Bool}
      (cut : IsCutFor o has_pair before_gap (last_gap t) g) (n : SectionPiece) (named : has_name n ≡ true)
      (bracket : BeginsWith (λ c. c == open_bracket) n.header)
      (later : (c : ℕ) → AreSpans o c (section_spans n) []) where
    abbrev k : Text
    k = pieces_text cut.front

    abbrev T : Text
    T = joined span_source (section_spans n) ++ []

    new_text : n.header ++ (joined span_source (gap n.after ∷ pairs_spans n.pairs) ++ []) ≡ T
    new_text = sym (append_assoc n.header (joined span_source (gap n.after ∷ pairs_spans n.pairs)) [])

    some_there : T ≢ []
    some_there = subst (λ t. t ≢ []) new_text (bracket_some n.header _ bracket)

    follows : Follows o T
    follows = header_follows (subst EmptyOrHeader new_text (bracket_header n.header _ bracket))

    put_there : (m : SectionPiece) → m.name ≡ t.name
        → AreSpans o line_feed (sections_spans bs ++ (section_spans m ++ section_spans n)) []
        → AreSections o (bs ++ m ∷ n ∷ [])
    put_there m same h = record {
      begin_general = begin_more bs t m n same named are.begin_general;
      spans = subst (λ l. AreSpans o line_feed l [])
          (sym (sections_spans-append bs (m ∷ n ∷ [])
          ∙ ap (λ l. sections_spans bs ++ (section_spans m ++ l)) (append-nil (section_spans n)))) h;
    }

    module _ (xt : List Span) (x : Span) (is : spans_to_gap t t.pairs ≡ xt ++ x ∷ []) where
      abbrev ys : List Span
      ys = sections_spans bs ++ xt

      gap_is : before_gap ≡ last_or line_feed (joined span_source (ys ++ x ∷ []))
      gap_is =
          last_of_gap there t.pairs
          ∙ ap (λ l. last_or line_feed (joined span_source l))
          (ap (λ l. sections_spans bs ++ l) is ∙ sym (append_assoc (sections_spans bs) xt (x ∷ [])))

      so_far : sections_spans (bs ++ t ∷ []) ≡ (ys ++ x ∷ []) ++ gap (last_gap t) ∷ []
      so_far =
          sections_spans-append bs (t ∷ [])
          ∙ ap (λ l. sections_spans bs ++ l)
          (append-nil (section_spans t) ∙ spans_last t ∙ ap (λ l. l ++ gap (last_gap t) ∷ []) is)
          ∙ regroup_last (sections_spans bs) xt x (gap (last_gap t))

      before : AreSpans o line_feed (ys ++ x ∷ []) (last_gap t)
      before =
          subst (AreSpans o line_feed (ys ++ x ∷ []))
          (append-nil (last_gap t ++ []) ∙ append-nil (last_gap t))
          (in_place-split span_source (ys ++ x ∷ []) (gap (last_gap t) ∷ [])
          (subst (λ l. AreSpans o line_feed l []) so_far are.spans)).0

      text_is : joined span_source (spans_to_gap t t.pairs) ≡ joined span_source xt ++ span_source x
      text_is = ap (joined span_source) is ∙ joined-append span_source xt (x ∷ [])
          ∙ ap (λ t. joined span_source xt ++ t) (append-nil (span_source x))

      -- a gap put there
      put_gap : (m : SectionPiece) → m.name ≡ t.name → (new : Text)
          → section_spans m ≡ (xt ++ x ∷ []) ++ gap new ∷ []
          → AreSpans o line_feed (ys ++ x ∷ []) (new ++ T)
          → IsGap o (last_or line_feed (joined span_source (ys ++ x ∷ []))) new T
          → AreSections o (bs ++ m ∷ n ∷ [])
      put_gap m same new spans front gap_there =
          put_there m same
          (subst (λ l. AreSpans o line_feed l [])
          (sym (ap (λ l. sections_spans bs ++ (l ++ section_spans n)) spans
          ∙ regroup_put (sections_spans bs) xt x (gap new) (section_spans n)))
          (spans_kept (ys ++ x ∷ []) new (section_spans n) front gap_there later))

      -- where something is kept
      kept_front : (y : Text) → k ≢ [] → AreSpans o line_feed (ys ++ x ∷ []) ((k ++ y) ++ T)
      kept_front y some =
          subst (AreSpans o line_feed (ys ++ x ∷ [])) (sym (append_assoc k y T))
          (in_place-before span_source spans_local (begins_same k g (y ++ T) some)
          (subst (AreSpans o line_feed (ys ++ x ∷ [])) cut.whole before))

    module _ (text : Text) (whole : text ≡ joined span_source (spans_to_gap t t.pairs) ++ k) (e : Bool)
        (ended : is_ended_for o text k t ≡ e) where
      abbrev f : Bool
      f = is_empty_there text e

      abbrev m : SectionPiece
      m = made k text e

      -- no pairs
      module _ (none : t.pairs ≡ []) where
        abbrev head : Span
        head = opening t.name t.header

        to_head : spans_to_gap t t.pairs ≡ [] ++ head ∷ []
        to_head = ap (spans_to_gap t) none

        bare_spans : (e : Bool) → section_spans (made k text e)
            ≡ ([] ++ head ∷ []) ++ gap (k ++ (lines text e ++ [])) ∷ []
        bare_spans true = ap section_spans (put_nothing o k (lines text true) [] t none)
        bare_spans false =
            ap section_spans (put_nothing o k (lines text false) []
            (with_pairs t (last_changed closer t.pairs)) (ap (last_changed closer) none))

        from_before : AreSpans o (last_or line_feed (joined span_source (sections_spans bs)))
            (section_spans t ++ []) []
        from_before =
            (in_place-split span_source (sections_spans bs) (section_spans t ++ [])
            (subst (λ l. AreSpans o line_feed l []) (sections_spans-append bs (t ∷ [])) are.spans)).1

        first_there : t.header ≡ [] → bs ≡ []
        first_there bare = elim (name_after bs t [] are.begin_general) [
          | inl is ↦ is
          | inr has ↦ absurd (false≢true (sym (subst (BeginsWith (λ c. c == open_bracket)) bare
              (header_begins t [] has from_before))))
        ]

        first : t.header ≡ [] → sections_spans bs ++ [] ≡ []
        first bare = ap (λ l. sections_spans l ++ []) (first_there bare)

        -- a text that is empty
        empty_text : text ≡ [] → (t.header ≡ []) × (k ≡ [])
        empty_text empty =
            let all : t.header ++ k ≡ [] =
            ap (λ z. z ++ k) (sym (append-nil t.header)) ∙ ap (λ l. joined span_source l ++ k) (sym to_head)
            ∙ sym whole ∙ empty in
            (empty_part t.header k all, empty_rest t.header k all)

        ended_gap : e ≡ true → is_line_feed (last_or before_gap k) ≡ true
        ended_gap so = at (is_ended o text k t (ended ∙ so))
          where
            at : IsEnded o text k t → is_line_feed (last_or before_gap k) ≡ true
            at (IsEnded.nothing empty) =
                let bare = empty_text empty in
                ap (λ k. is_line_feed (last_or before_gap k)) bare.1
                ∙ ap is_line_feed (gap_is [] head to_head
                ∙ ap (λ l. last_or line_feed (joined span_source ((l ++ []) ++ head ∷ [])))
                (ap sections_spans (first_there bare.0))
                ∙ ap (λ h. last_or line_feed (h ++ [])) bare.0)
            at (IsEnded.by_pair empty h) = absurd (false≢true (ap (is_pair_ended o) (sym none) ∙ h))
            at (IsEnded.by_gap some h) = same_last before_gap k some h

        -- what opens the section is before a line end, if it is a header
        head_ended : k ≡ [] → t.header ≢ []
            → (a : Text) × ((z : Text) × (IsFeed a × ((lines text e ++ []) ++ T ≡ a ++ z)))
        head_ended empty some =
            let not_ended : e ≡ false =
            sym ended ∙ ap (λ k. is_ended_for o text k t) empty
            ∙ ended_after o text t (λ nothing. some (empty_text nothing).0) ∙ ap (is_pair_ended o) none in (
              l,
              (
                cond (is_empty_there text e) [] l ++ ([] ++ T),
                (
                  feed_of sep,
                  ap (λ e'. ((cond e' [] l ++ cond (is_empty_there text e) [] l) ++ []) ++ T) not_ended
                      ∙ append_assoc (l ++ cond (is_empty_there text e) [] l) [] T
                      ∙ append_assoc l (cond (is_empty_there text e) [] l) ([] ++ T),
                ),
              ),
            )

        bare_front : AreSpans o line_feed ((sections_spans bs ++ []) ++ head ∷ [])
            ((k ++ (lines text e ++ [])) ++ T)
        bare_front = elim (some_or k) [
          | inr some ↦ kept_front [] head to_head (lines text e ++ []) some
          | inl empty ↦
              subst (λ k. AreSpans o line_feed ((sections_spans bs ++ []) ++ head ∷ [])
              ((k ++ (lines text e ++ [])) ++ T)) (sym empty)
              (spans_headed (sections_spans bs ++ []) t.name t.header (last_gap t)
              ((lines text e ++ []) ++ T)
              first (head_ended empty) (before [] head to_head))
        ]

        bare_put : AreSections o (bs ++ m ∷ n ∷ [])
        bare_put =
            put_gap [] head to_head m (made_name k text e) (k ++ (lines text e ++ [])) (bare_spans e)
            bare_front
            (subst (λ c. IsGap o c (k ++ (lines text e ++ [])) T) (gap_is [] head to_head)
            (kept_ended cut T (feed_of sep) e ended_gap f))

      -- a pair stands last
      module _ (ps : List PairPiece) (p : PairPiece) (has : t.pairs ≡ ps ++ p ∷ []) where
        abbrev xt : List Span
        xt = opening t.name t.header ∷ gap t.after ∷ pairs_spans ps

        abbrev one : Span
        one = pair p.stretches p.key p.value

        to_pair : spans_to_gap t t.pairs ≡ xt ++ one ∷ []
        to_pair = ap (spans_to_gap t) has ∙ up_to_last (opening t.name t.header) t.after ps p

        after_is : p.after ≡ last_gap t
        after_is = sym (gap_of-end t.after ps p) ∙ ap (gap_of t.after) (sym has)

        key_there : {c : ℕ} {y : Text} → AreSpans o c (one ∷ []) y → p.stretches.key ≢ []
        key_there (AreInPlace.more (IsSpan.is_pair is) AreInPlace.none) none =
            omega (arith, KeyFront-some (key_front_of is) (some_key is), ap length none)

        text_there : text ≢ []
        text_there empty =
            let here = (in_place-split span_source (sections_spans bs ++ xt) (one ∷ [])
            (before xt one to_pair)).1 in
            some_before (joined span_source xt) (pair_source p.stretches ++ k)
            (λ none. key_there here (empty_part p.stretches.key (after_key_source p.stretches)
            (empty_part (pair_source p.stretches) k none)))
            (sym (append_assoc (joined span_source xt) (pair_source p.stretches) k)
            ∙ ap (λ z. z ++ k) (sym (text_is xt one to_pair)) ∙ sym whole ∙ empty)

        abbrev last_one : Bool → PairPiece
        last_one e = cond e p (closer p)

        abbrev put_last : Bool → PairPiece
        put_last e = with_rest o (lines text e) [] (record (last_one e) { after = k })

        spans_of : (q : PairPiece) → section_spans (with_pairs t (ps ++ q ∷ []))
            ≡ xt ++ (pair q.stretches q.key q.value ∷ gap q.after ∷ [])
        spans_of q = ap (λ l. opening t.name t.header ∷ gap t.after ∷ l) (pairs_spans-append ps (q ∷ []))

        pair_spans : (e : Bool) → section_spans (made k text e)
            ≡ xt ++ (pair (put_last e).stretches (put_last e).key (put_last e).value
            ∷ gap (put_last e).after ∷ [])
        pair_spans true =
            ap section_spans (put_one o k (lines text true) [] t ps p has) ∙ spans_of (put_last true)
        pair_spans false =
            ap section_spans (put_one o k (lines text false) []
            (with_pairs t (last_changed closer t.pairs)) ps (closer p)
            (ap (last_changed closer) has ∙ last_changed-end closer ps p))
            ∙ spans_of (put_last false)

        -- where something is kept, the pair stays
        kept_spans : k ≢ [] → section_spans m ≡ (xt ++ one ∷ []) ++ gap (k ++ (lines text e ++ [])) ∷ []
        kept_spans some =
            pair_spans e
            ∙ ap (λ (q : PairPiece). xt ++ (pair q.stretches q.key q.value ∷ gap q.after ∷ []))
            (with_gap (last_one e) (no_empty k some)
            ∙ ap (λ (q : PairPiece). record q { after = k ++ (lines text e ++ []) }) (same e))
            ∙ sym (append_assoc xt (one ∷ []) (gap (k ++ (lines text e ++ [])) ∷ []))
          where
            no_empty : (k : Text) → k ≢ [] → is_empty k ≡ false
            no_empty [] some = absurd (some refl)
            no_empty (c ∷ k) some = refl

            with_gap : (q : PairPiece) → is_empty k ≡ false
                → with_rest o (lines text e) [] (record q { after = k })
                ≡ record q { after = k ++ (lines text e ++ []) }
            with_gap q other =
                cond-false (is_multiline o q && is_empty k) _ _ (and_no (is_multiline o q) other)

            same : (e : Bool) → last_one e ≡ p
            same true = refl
            same false =
                stays_open o p (and_no (is_empty p.stretches.trailing_lines)
                (ap is_empty (after_is ∙ cut.whole) ∙ no_empty (k ++ g) (some_front k g some)))

        kept_put : k ≢ [] → AreSections o (bs ++ m ∷ n ∷ [])
        kept_put some =
            put_gap xt one to_pair m (made_name k text e) (k ++ (lines text e ++ [])) (kept_spans some)
            (kept_front xt one to_pair (lines text e ++ []) some)
            (subst (λ c. IsGap o c (k ++ (lines text e ++ [])) T) (gap_is xt one to_pair)
            (kept_ended cut T (feed_of sep) e (λ so. at (is_ended o text k t (ended ∙ so))) f))
          where
            at : IsEnded o text k t → is_line_feed (last_or before_gap k) ≡ true
            at (IsEnded.nothing empty) = absurd (text_there empty)
            at (IsEnded.by_pair none h) = absurd (some none)
            at (IsEnded.by_gap some h) = same_last before_gap k some h

        -- where nothing is kept, the pair is ended
        module _ (none : k ≡ []) where
          ended_is : ended_pair o p ≡ e
          ended_is =
              sym (ap (is_pair_ended o) has ∙ ended_end o ps p)
              ∙ sym (ap (λ k. is_ended_for o text k t) none ∙ ended_after o text t text_there) ∙ ended

          gap_same : p.after ≡ g
          gap_same = after_is ∙ cut.whole ∙ ap (λ k. k ++ g) none

          no_end : BeginsWithNo is_line_end p.after
          no_end = subst (BeginsWithNo is_line_end) (sym gap_same) cut.no_end

          before_pair : AreSpans o line_feed ((sections_spans bs ++ xt) ++ one ∷ []) p.after
          before_pair =
              subst (AreSpans o line_feed ((sections_spans bs ++ xt) ++ one ∷ [])) (sym after_is)
              (before xt one to_pair)

          put_pair : (q : Stretches) (new more : Text) → q.key ≡ p.stretches.key ++ more
              → section_spans m ≡ xt ++ (pair q p.key p.value ∷ gap new ∷ [])
              → ((c : ℕ) → IsPair o c p.stretches p.key p.value p.after
              → IsPair o c q p.key p.value (new ++ T))
              → ((c : ℕ) → IsGap o c new T) → AreSections o (bs ++ m ∷ n ∷ [])
          put_pair q new more same spans pair_there gap_there =
              put_there m (made_name k text e)
              (subst (λ l. AreSpans o line_feed l [])
              (sym (ap (λ l. sections_spans bs ++ (l ++ section_spans n)) spans
              ∙ regroup_end (sections_spans bs) xt (pair q p.key p.value) (gap new) (section_spans n)))
              (spans_ended (sections_spans bs ++ xt) p.stretches q p.key p.value new (section_spans n) more
              same before_pair pair_there gap_there later))

          -- a pair in one line
          line_put : is_multiline o p ≡ false → AreSections o (bs ++ m ∷ n ∷ [])
          line_put off =
              let column : BeginsWith is_comment_mark p.after
              → is_line_feed (last_or (last_or line_feed (joined span_source (sections_spans bs ++ xt)))
              (pair_source p.stretches)) ≡ true = λ mark.
              let ys = sections_spans bs ++ xt in
              let c = last_or line_feed (joined span_source ys) in
              let last_is : before_gap ≡ last_or c (pair_source p.stretches) =
              gap_is xt one to_pair ∙ ap (last_or line_feed) (joined-append span_source ys (one ∷ []))
              ∙ last_or-append line_feed (joined span_source ys) (pair_source p.stretches ++ [])
              ∙ ap (last_or c) (append-nil (pair_source p.stretches)) in
              ap is_line_feed (sym last_is) ∙ ap (λ k. is_line_feed (last_or before_gap k)) (sym none)
              ∙ cut.column (subst (BeginsWith is_comment_mark) gap_same mark) in
              let end = pair_closes off no_end column
              (in_place-split span_source (sections_spans bs ++ xt) (one ∷ []) before_pair).1 in
              let open_so : e ≡ false = sym ended_is ∙ off_not_ended o p off end.1 in
              let rest = cond (is_empty_there text e) [] l in
              let shut : PairPiece = record p { stretches = closed_stretches o p.stretches } in
              let spans : section_spans m
              ≡ xt ++ (pair shut.stretches p.key p.value ∷ gap ((l ++ rest) ++ []) ∷ []) =
              pair_spans e
              ∙ ap (λ (q : PairPiece). xt ++ (pair q.stretches q.key q.value ∷ gap q.after ∷ []))
              (ap (λ e'. with_rest o (cond e' [] l ++ rest) [] (record (last_one e') { after = k })) open_so
              ∙ ap (λ (q : PairPiece). with_rest o (l ++ rest) [] (record q { after = k }))
              (closed_is o p end.0 end.1)
              ∙ cond-false (is_multiline o shut && is_empty k) _ _
              (ap (λ s. (o.enabled_indented_mutiline_value && is_some s) && is_empty k)
              (closed_separator o p.stretches)
              ∙ ap (λ b. b && is_empty k) off)
              ∙ ap (λ k. record shut { after = k ++ ((l ++ rest) ++ []) }) none) in
              put_pair shut.stretches ((l ++ rest) ++ []) (key_closing o p.stretches)
              (closed_key o p.stretches) spans
              (λ c h. subst (IsPair o c shut.stretches p.key p.value)
              (sym (append_assoc (l ++ rest) [] T ∙ append_assoc l rest T))
              (closed_there sep p (rest ++ T) off h))
              (λ c. subst (λ t. IsGap o c t T) (sym (append-nil (l ++ rest)))
              (gap_join (feed_gap (feed_of sep)) (gap_either (is_empty_there text e) T (feed_of sep))))

          -- multiline values
          lines_put : o.enabled_indented_mutiline_value ≡ true → is_multiline o p ≡ true
              → AreSections o (bs ++ m ∷ n ∷ [])
          lines_put on long =
              put_pair (ended_so e).stretches [] [] (key_same e)
              (pair_spans e
              ∙ ap (λ (q : PairPiece). xt ++ (pair q.stretches q.key q.value ∷ gap q.after ∷ []))
              (in_lines e ∙ ap (λ k. record (ended_so e) { after = k ++ [] }) none))
              (λ c h. added_there sep p on long follows some_there e f no_end ended_is h) (λ c. gap_nothing)
            where
              has_value : has_separator p ≡ true
              has_value = (and_parts o.enabled_indented_mutiline_value (has_separator p) long).1

              closed_value : closer p ≡ with_raw_value (closed_word o p) p
              closed_value = cond-true (has_separator p) _ _ has_value

              ended_so : Bool → PairPiece
              ended_so e' = record {
                stretches = with_trailing (p.stretches.trailing_lines ++ lines text e)
                    (cond e' p (closer p)).stretches;
                key = p.key;
                value = p.value;
                after = k ++ [];
              }

              key_same : (e' : Bool) → (cond e' p (closer p)).stretches.key ≡ p.stretches.key ++ []
              key_same true = sym (append-nil p.stretches.key)
              key_same false = ap (λ (q : PairPiece). q.stretches.key) closed_value
                  ∙ sym (append-nil p.stretches.key)

              takes : (is_multiline o p && is_empty k) ≡ true
              takes = and_from (is_multiline o p) (is_empty k) long (ap is_empty none)

              in_lines : (e' : Bool)
                  → with_rest o (lines text e) [] (record (cond e' p (closer p)) { after = k }) ≡ ended_so e'
              in_lines true = cond-true (is_multiline o p && is_empty k) _ _ takes
              in_lines false =
                  ap (λ (q : PairPiece). with_rest o (lines text e) [] (record q { after = k })) closed_value
                  ∙ cond-true (is_multiline o p && is_empty k) _ _ takes
                  ∙ ap (λ (q : PairPiece). record {
                    stretches = with_trailing (p.stretches.trailing_lines ++ lines text e) q.stretches;
                    key = p.key;
                    value = p.value;
                    after = k ++ [];
                  }) (sym closed_value)

        pair_put : AreSections o (bs ++ m ∷ n ∷ [])
        pair_put = elim (some_or k) [
          | inr some ↦ kept_put some
          | inl none ↦ elim (cases_Bool (is_multiline o p)) [
            | inl long ↦
                lines_put none (and_parts o.enabled_indented_mutiline_value (has_separator p) long).0 long
            | inr off ↦ line_put none off
          ]
        ]

      all_put : AreSections o (bs ++ m ∷ n ∷ [])
      all_put = at (last_of t.pairs)
        where
          at : LastOf t.pairs → AreSections o (bs ++ m ∷ n ∷ [])
          at (LastOf.nothing none) = bare_put none
          at (LastOf.one ps p has) = pair_put ps p has

    -- the sections with the new one
    pub sections_added : AreSections o (bs ++ ended_for_section o l t g ∷ n ∷ [])
    sections_added =
        let whole_text : section_text t ≡ (joined span_source (spans_to_gap t t.pairs) ++ k) ++ g =
        text_to_gap t t.pairs ∙ ap (λ a. joined span_source (spans_to_gap t t.pairs) ++ a) cut.whole
        ∙ sym (append_assoc (joined span_source (spans_to_gap t t.pairs)) k g) in
        let text_front : front_of (section_text t) g ≡ joined span_source (spans_to_gap t t.pairs) ++ k =
        front_is (joined span_source (spans_to_gap t t.pairs) ++ k) g (section_text t) (sym whole_text) in
        let kept_front : front_of (last_gap t) g ≡ k = front_is k g (last_gap t) (sym cut.whole) in
        let text = front_of (section_text t) g in
        subst (λ k. AreSections o (bs ++ made k text (is_ended_for o text k t) ∷ n ∷ [])) (sym kept_front)
        (all_put text text_front (is_ended_for o text k t) refl)
