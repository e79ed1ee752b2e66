-- A pair put into a section without pairs: the sections are those of a text, as before.
use Rattle.std.proofs.Common.{◌≡◌, ◌≢◌, ◌∙◌, ◌⊎◌, ℕ, true, false, cond, List, [], ◌∷◌, ◌++◌, None, Option}
use Rattle.std.proofs.Common.{Some, ap, append_assoc, append-nil, arith, inl, inr, length, refl, subst, sym}
use Rattle.std.proofs.lemmas.Bool.{and_parts, both_ways, cases_Bool, cond-false, false≢true}
use Rattle.std.specs.List.{list_all}
use Rattle.std.specs.Option.{option_map}
use Rattle.std.specs.Prelude.{is_none}
use Rattle.ini_text.specs.Grammar.CharacterKinds.{BeginsWith, BeginsWithNo, is_comment_mark, is_line_end}
use Rattle.ini_text.specs.Grammar.CharacterKinds.{is_line_feed, line_feed}
use Rattle.ini_text.specs.Grammar.Places.{pair_source}
use Rattle.ini_text.specs.Grammar.Positions.{last_or}
use Rattle.ini_text.specs.Grammar.Values.{LineEnd}
use Rattle.ini_text.specs.Laws.PieceLaws.{BeginAlike}
use Rattle.ini_text.specs.declared.option.ParseOption.{ParseOption}
use Rattle.ini_text.proofs.GrammarLemmas.ItemLemmas.{element-some}
use Rattle.ini_text.proofs.LawLemmas.PieceLemmas.{last_or-append}
use Rattle.ini.specs.Texts.{Text}
use Rattle.ini_edit.specs.Inside.InPlace.{AreInPlace}
use Rattle.ini_edit.specs.Inside.SourceEnds.{IsPlaceAt}
use Rattle.ini_edit.specs.Inside.Spans.{AreSections, AreSpans, BeginGeneral, IsGap, IsPair, IsSpan, Span, gap}
use Rattle.ini_edit.specs.Inside.Spans.{opening, sections_spans, span_source}
use Rattle.ini_edit.specs.SourceLines.{is_blank_or_line_end}
use Rattle.ini_edit.specs.SourceEditsAdd.{GapPlace, Maker, end_at, first_place, pair_put_first, pair_put_last}
use Rattle.ini_edit.specs.SourceLines.{is_empty}
use Rattle.ini_edit.specs.SourcePlaces.{Place, exchanged, is_nil}
use Rattle.ini_edit.specs.Sources.{PairPiece, SectionPiece, joined}
use Rattle.ini_edit.proofs.CommentRowLemmas.{IsNewLine}
use Rattle.ini_edit.proofs.CommentSectionLemmas.{general_first}
use Rattle.ini_edit.proofs.FirstPlaceLemmas.{IsFirstPlace, IsFreePlace, StandsIn, begins_gap}
use Rattle.ini_edit.proofs.FirstPlaceLemmas.{first_stands, header_opens}
use Rattle.ini_edit.proofs.FirstStaysLemmas.{first_some, first_stays}
use Rattle.ini_edit.proofs.InPlaceLemmas.{in_place-before, in_place-join, in_place-split, joined-append}
use Rattle.ini_edit.proofs.MakerLemmas.{MakesReadPairs, made_put}
use Rattle.ini_edit.proofs.PutFirstLemmas.{EndAt, end_there, first_after, line_starts_there, spans_put_first}
use Rattle.ini_edit.proofs.QuietLemmas.{as_header}
use Rattle.ini_edit.proofs.SectionBeginLemmas.{names_after, sections_begin}
use Rattle.ini_edit.proofs.HeaderLemmas.{EmptyOrHeader, header_closed}
use Rattle.ini_edit.proofs.SectionTakenLemmas.{same_start}
use Rattle.ini_edit.proofs.SourceAddLemmas.{IsNewEnd}
use Rattle.ini_edit.proofs.SourceSpanLemmas.{gap_put_in, spans_after_pairs, spans_before_gap}
use Rattle.ini_edit.proofs.SpanLemmas.{spans_local}

pub new_line_of : {d : ℕ} {ds : Text} → IsNewEnd d ds → IsNewLine (d ∷ ds)
new_line_of {d} {ds} end = at (end.is_end []) end.feed
  where
    at : {t r : Text} → LineEnd t r → is_line_feed (last_or 0 t) ≡ true → IsNewLine t
    at LineEnd.lf h = IsNewLine.lf
    at LineEnd.cr_lf h = IsNewLine.cr_lf
    at (LineEnd.cr n) h = absurd (false≢true h)

first_end : {d : ℕ} {ds : Text} → IsNewEnd d ds → is_line_end d ≡ true
first_end {d} {ds} end = (and_parts (is_line_end d) (list_all is_line_end ds) end.all).0

apart_of : {t : Text} → EmptyOrHeader t → BeginsWithNo is_blank_or_line_end (t ++ [])
apart_of EmptyOrHeader.empty = tt
apart_of (EmptyOrHeader.header r) = refl

nothing_after : (l : List SectionPiece) → is_nil l ≡ true → joined span_source (sections_spans l) ++ [] ≡ []
nothing_after [] h = refl
nothing_after (t ∷ l) h = absurd (false≢true h)

-- what opens a section, before a gap
record IsOpening (name : Option Text) (last : ℕ) (g : Text) : Type 0 where
  general : is_none name ≡ true → is_line_feed last ≡ true
  named : is_none name ≡ false → (is_line_end last ≡ false) ⊎ BeginsWith is_line_end g

module _ {o : ParseOption} where
  opening_there : {c : ℕ} {g : Text} (r : Text) (name : Option Text) (source : Text)
      → AreSpans o c (opening name source ∷ []) (g ++ r) → (name ≡ None → c ≡ line_feed)
      → BeginsWithNo is_blank_or_line_end r → IsOpening name (last_or c source) g
  opening_there r name source (AreInPlace.more IsSpan.general AreInPlace.none) first apart = record {
    general = λ _. ap is_line_feed (first refl);
    named = λ no. absurd (false≢true (sym no));
  }
  opening_there {c} {g} r name source
      (AreInPlace.more (IsSpan.header e) AreInPlace.none) first apart = record {
        general = λ no. absurd (false≢true no);
        named = λ _. elim (header_opens c e) [
          | inl other ↦ inl other
          | inr begins ↦ inr (begins_gap g r begins apart)
        ];
      }

  -- a header stands before a line end, and what stands before the header does
  opening_closed : {y : Text} (ys : List Span) (name source x : Text) → BeginsWith is_line_end x
      → AreSpans o line_feed (ys ++ opening (Some name) source ∷ []) y
      → AreSpans o line_feed (ys ++ opening (Some name) source ∷ []) x
  opening_closed {y} ys name source x begins h =
      let split = in_place-split span_source ys (opening (Some name) source ∷ []) h in at split.0 split.1
    where
      at : AreSpans o line_feed ys ((source ++ []) ++ y)
          → AreSpans o (last_or line_feed (joined span_source ys)) (opening (Some name) source ∷ []) y
          → AreSpans o line_feed (ys ++ opening (Some name) source ∷ []) x
      at before (AreInPlace.more (IsSpan.header e) AreInPlace.none) =
          let some : source ≢ [] = λ none. let n : length source ≡ 0 = ap length none in
          omega (arith, element-some e, n) in
          in_place-join span_source ys (opening (Some name) source ∷ [])
          (in_place-before span_source spans_local (same_start source y x some) before)
          (AreInPlace.more (IsSpan.header (header_closed begins (as_header e))) AreInPlace.none)

  general_any : {c : ℕ} {source y : Text} (x : Text) → AreSpans o c (opening None source ∷ []) y
      → AreSpans o c (opening None source ∷ []) x
  general_any x (AreInPlace.more IsSpan.general AreInPlace.none) =
      AreInPlace.more IsSpan.general AreInPlace.none

  -- what stands before the gap stands before what is kept of it
  opening_kept : {y x : Text} (ys : List Span) (name : Option Text) (source : Text) → (name ≡ None → ys ≡ [])
      → ((n : Text) → name ≡ Some n → BeginAlike y x ⊎ BeginsWith is_line_end x)
      → AreSpans o line_feed (ys ++ opening name source ∷ []) y
      → AreSpans o line_feed (ys ++ opening name source ∷ []) x
  opening_kept {y} {x} ys None source first alike h =
      subst (λ ys. AreSpans o line_feed (ys ++ opening None source ∷ []) y
      → AreSpans o line_feed (ys ++ opening None source ∷ []) x) (sym (first refl)) (general_any x) h
  opening_kept {y} {x} ys (Some name) source first alike h = elim (alike name refl) [
    | inl same ↦ in_place-before span_source spans_local same h
    | inr begins ↦ opening_closed ys name source x begins h
  ]

-- a place that something stands before, and one that nothing does
front_alike : (b m g k y x : Text) → is_empty b ≡ false → b ++ m ≡ g
    → BeginAlike ((g ++ y) ++ []) (((b ++ k) ++ x) ++ [])
front_alike [] m g k y x some whole = absurd (false≢true (sym some))
front_alike (c ∷ b) m g k y x some whole =
    subst (λ g. BeginAlike ((g ++ y) ++ []) ((((c ∷ b) ++ k) ++ x) ++ [])) whole BeginAlike.character

front_none : (b k : Text) → is_empty b ≡ true → b ++ k ≡ k
front_none [] k none = refl
front_none (c ∷ b) k none = absurd (false≢true none)

module _ (o : ParseOption) {ss : List SectionPiece} {s : Place SectionPiece} {i : ℕ} (at : IsPlaceAt ss s i)
    (none : s.here.pairs ≡ []) (are : AreSections o ss) {d : ℕ} {ds : Text} (end : IsNewEnd d ds)
    (make : Maker)
    (makes : MakesReadPairs o make) where
  abbrev before : List Span
  before = spans_before_gap s []

  abbrev later : List Span
  later = spans_after_pairs s []

  abbrev following : Text
  following = joined span_source later ++ []

  abbrev last : ℕ
  last = last_or line_feed (joined span_source before)

  general : s.here.name ≡ None → sections_spans s.before ≡ []
  general = general_first s.before s.here s.after (subst BeginGeneral at.whole are.begin_general)

  header_later : {c : ℕ} → AreSpans o c later [] → EmptyOrHeader (joined span_source later)
  header_later h =
      (sections_begin s.after
      (names_after s.before s.here s.after (subst BeginGeneral at.whole are.begin_general))
      h).0

  last_is : last ≡ last_or (last_or line_feed (joined span_source (sections_spans s.before))) s.here.header
  last_is =
      let up_to = joined span_source (sections_spans s.before) in
      ap (last_or line_feed)
      (joined-append span_source (sections_spans s.before) (opening s.here.name s.here.header ∷ []))
      ∙ last_or-append line_feed up_to (s.here.header ++ [])
      ∙ ap (last_or (last_or line_feed up_to)) (append-nil s.here.header)

  around : AreSpans o line_feed before (s.here.after ++ following) → EmptyOrHeader (joined span_source later)
      → StandsIn (is_none s.here.name) (is_nil s.after) last s.here.after following
  around h header =
      let first = opening s.here.name s.here.header in
      let there = opening_there following s.here.name s.here.header
      (in_place-split span_source (sections_spans s.before) (first ∷ []) h).1
      (λ is. ap (λ l. last_or line_feed (joined span_source l)) (general is)) (apart_of header) in
      record {
        general = λ is. ap is_line_feed last_is ∙ there.general is;
        named = λ is. elim (there.named is) [
          | inl other ↦ inl (ap is_line_end last_is ∙ other)
          | inr begins ↦ inr begins
        ];
        last = nothing_after s.after;
        apart = apart_of header;
      }

  -- the sections with the pair at its place
  pub put_first_sections : (q : GapPlace)
      → first_place o (is_none s.here.name) (is_nil s.after) s.here.after ≡ Some q
      → AreSections o (exchanged s (pair_put_first o (d ∷ ds) make s.here q ∷ []))
  put_first_sections q is = gap_put_in o at [] [] (n ∷ []) kept none put are
    where
      n : PairPiece
      n = make true (end_at (d ∷ ds) q ++ q.lines) q.after

      kept : Text
      kept = q.before ++ cond q.starts [] (d ∷ ds)

      -- a comment at a place before which nothing of the gap stands is in column one
      mark_front : StandsIn (is_none s.here.name) (is_nil s.after) last s.here.after following
          → IsFirstPlace o last s.here.after following q → q.before ≡ []
          → BeginsWith is_comment_mark (q.lines ++ q.after) → is_line_feed last ≡ true
      mark_front stands first nothing mark = elim (cases_Bool (is_none s.here.name)) [
        | inl general ↦ stands.general general
        | inr named ↦ elim (stands.named named) [
          | inl apart ↦ elim (cases_Bool q.starts) [
            | inl starts ↦ absurd (both_ways (is_line_end last) apart
                (ap (λ b. is_line_end (last_or last b)) (sym nothing) ∙ first.starts starts))
            | inr other ↦
                absurd (false≢true (sym (subst (BeginsWith is_comment_mark) (first.ends other) mark)))
          ]
          | inr begins ↦ absurd (both_ways (is_empty q.before)
              (first_some o (is_nil s.after) s.here.after q begins
              (ap (λ b. first_place o b (is_nil s.after) s.here.after) (sym named) ∙ is))
              (ap is_empty nothing))
        ]
      ]

      -- the new pair with the line end, and what follows it
      there : {e : Text} → IsFirstPlace o last s.here.after following q
          → (o.enabled_indented_mutiline_value ≡ true → IsFreePlace o last following q)
          → EndAt last q following e
          → IsPair o (last_or last kept) (make true (e ++ q.lines) q.after).stretches
          (make true (e ++ q.lines) q.after).key (make true (e ++ q.lines) q.after).value
          ((make true (e ++ q.lines) q.after).after ++ following)
          × IsGap o (last_or (last_or last kept) (pair_source (make true (e ++ q.lines) q.after).stretches))
          (make true (e ++ q.lines) q.after).after following
      there first free (EndAt.stands_so is_end) = (
        made_put is_end.all makes true following q.lines is_end.is_end refl (line_starts_there end first)
            (λ on. (free on).lines),
        first_after end first is_end makes (last_or last kept) free,
      )

      put : AreSpans o line_feed (before ++ (gap s.here.after ∷ later)) []
          → AreSpans o line_feed (before ++ (gap kept ∷ spans_after_pairs s (n ∷ []))) []
      put h = by (in_place-split span_source before (gap s.here.after ∷ later) h).0
          (in_place-split span_source before (gap s.here.after ∷ later) h).1
        where
          new : Text
          new = joined span_source (spans_after_pairs s (n ∷ []))

          by : AreSpans o line_feed before ((s.here.after ++ joined span_source later) ++ [])
              → AreSpans o last (gap s.here.after ∷ later) []
              → AreSpans o line_feed (before ++ (gap kept ∷ spans_after_pairs s (n ∷ []))) []
          by front (AreInPlace.more (IsSpan.is_gap g) rest) =
              let header = header_later rest in
              let stands = around
              (subst (AreSpans o line_feed before)
              (append_assoc s.here.after (joined span_source later) []) front)
              header in
              let places = first_stands (is_none s.here.name) (is_nil s.after) stands g is in
              let first = places.0 in
              let alike : (name : Text) → s.here.name ≡ Some name
              → BeginAlike ((s.here.after ++ joined span_source later) ++ []) ((kept ++ new) ++ [])
              ⊎ BeginsWith is_line_end ((kept ++ new) ++ []) =
              λ name named. elim (cases_Bool (is_empty q.before)) [
                | inl nothing ↦ inr (elim (cases_Bool q.starts) [
                  | inl starts ↦
                      let same : q.before ≡ [] = sym (append-nil q.before)
                      ∙ front_none q.before [] nothing in
                      let line : is_line_end last ≡ true =
                      ap (λ b. is_line_end (last_or last b)) (sym same) ∙ first.starts starts in
                      let other : is_none s.here.name ≡ false = ap is_none named in
                      elim (stands.named other) [
                        | inl apart ↦ absurd (both_ways (is_line_end last) apart line)
                        | inr begins ↦
                            absurd (both_ways (is_empty q.before)
                            (first_some o (is_nil s.after) s.here.after q begins
                            (ap (λ b. first_place o b (is_nil s.after) s.here.after) (sym other)
                            ∙ is)) nothing)
                      ]
                  | inr other ↦
                      subst (λ t. BeginsWith is_line_end ((t ++ new) ++ []))
                      (sym (front_none q.before (cond q.starts [] (d ∷ ds)) nothing
                      ∙ cond-false q.starts [] (d ∷ ds) other)) (first_end end)
                ])
                | inr some ↦
                    inl (front_alike q.before (q.lines ++ q.after) s.here.after (cond q.starts [] (d ∷ ds))
                    (joined span_source later) new some first.whole)
              ] in
              let made = there first places.1 (end_there last q following end (mark_front stands first)) in
              spans_put_first o before later s.here.after kept n h
              (record {
                front = opening_kept (sections_spans s.before) s.here.name s.here.header general alike;
                kept_gap = first_stays (new_line_of end) (is_none s.here.name)
                    (is_nil s.after) q stands g is (new ++ []);
                is = made.0;
                is_gap = made.1;
                header = header;
              })

  -- the same, where there is a place
  pub put_last_sections : (new : SectionPiece)
      → pair_put_last o (d ∷ ds) make (is_nil s.after) s.here [] ≡ Some new
      → AreSections o (exchanged s (new ∷ []))
  put_last_sections new h = by (first_place o (is_none s.here.name) (is_nil s.after) s.here.after) refl h
    where
      by : (f : Option GapPlace) → first_place o (is_none s.here.name) (is_nil s.after) s.here.after ≡ f
          → option_map (pair_put_first o (d ∷ ds) make s.here) f ≡ Some new
          → AreSections o (exchanged s (new ∷ []))
      by None is h = absurd (let no : ◌≡◌ {A = Option SectionPiece} None (Some new) = h in cc)
      by (Some q) is h =
          let same : pair_put_first o (d ∷ ds) make s.here q ≡ new = cc in
          subst (λ t. AreSections o (exchanged s (t ∷ []))) same (put_first_sections q is)
