-- The spans and texts of a text in pieces around a place, once others stand there; and a section exchanged
-- for one whose spans may stand in its place.
use Rattle.std.proofs.Common.{◌≡◌, ◌∙◌, ◌&&◌, ℕ, false, List, [], ◌∷◌, ◌++◌, ap, append-nil, append_assoc}
use Rattle.std.proofs.Common.{refl, subst, sym}
use Rattle.std.proofs.lemmas.Bool.{cond-false}
use Rattle.ini_text.specs.Grammar.CharacterKinds.{line_feed}
use Rattle.ini_text.specs.Grammar.Places.{pair_source}
use Rattle.ini_text.specs.Grammar.Positions.{last_or}
use Rattle.ini_text.specs.declared.option.ParseOption.{ParseOption}
use Rattle.ini_text.proofs.LawLemmas.PieceLemmas.{last_or-append}
use Rattle.ini_text.proofs.StringLemmas.FrontLemmas.{front_is}
use Rattle.ini.specs.Texts.{Text}
use Rattle.ini_edit.specs.Inside.SourceEnds.{IsPlaceAt}
use Rattle.ini_edit.specs.Inside.Spans.{AreSections, AreSpans, BeginGeneral, Span, gap, opening, pair}
use Rattle.ini_edit.specs.Inside.Spans.{pairs_spans, section_spans, sections_spans, span_source}
use Rattle.ini_edit.specs.SourceEdits.{with_pairs}
use Rattle.ini_edit.specs.SourceEditsDelete.{rest_put, with_rest}
use Rattle.ini_edit.specs.SourceLines.{is_empty}
use Rattle.ini_edit.specs.SourcePlaces.{Place, exchanged, gap_of, gap_put, last_before_gap}
use Rattle.ini_edit.specs.SourcePlaces.{last_before_section, last_changed, text_up_to}
use Rattle.ini_edit.specs.Sources.{PairPiece, SectionPiece, has_separator, is_multiline, joined, pair_text}
use Rattle.ini_edit.specs.Sources.{pairs_text, section_text, sections_text}
use Rattle.ini_edit.proofs.InPlaceLemmas.{joined-append}
use Rattle.ini_edit.proofs.SourceReadLemmas.{begin-same, pairs_spans-append, sections_spans-append}
use Rattle.ini_edit.proofs.SpanLemmas.{pairs_joined, sections_joined}

-- the spans and texts of a list that is exchanged
pub pairs_spans-exchanged : (p : Place PairPiece) (ps : List PairPiece)
    → pairs_spans (exchanged p ps) ≡ pairs_spans p.before ++ (pairs_spans ps ++ pairs_spans p.after)
pairs_spans-exchanged p ps =
    pairs_spans-append p.before (ps ++ p.after)
    ∙ ap (λ l. pairs_spans p.before ++ l) (pairs_spans-append ps p.after)

-- spans between those of the sections around a place
abbrev pub spans_around : Place SectionPiece → List Span → List Span
spans_around s xs = sections_spans s.before ++ (xs ++ sections_spans s.after)

pub sections_spans-exchanged : (s : Place SectionPiece) (ss : List SectionPiece)
    → sections_spans (exchanged s ss) ≡ spans_around s (sections_spans ss)
sections_spans-exchanged s ss =
    sections_spans-append s.before (ss ++ s.after)
    ∙ ap (λ l. sections_spans s.before ++ l) (sections_spans-append ss s.after)

pub pairs_text-exchanged : (p : Place PairPiece) (ps : List PairPiece)
    → pairs_text (exchanged p ps) ≡ pairs_text p.before ++ (pairs_text ps ++ pairs_text p.after)
pairs_text-exchanged p ps =
    joined-append pair_text p.before (ps ++ p.after)
    ∙ ap (λ t. pairs_text p.before ++ t) (joined-append pair_text ps p.after)

pub sections_text-exchanged : (s : Place SectionPiece) (ss : List SectionPiece)
    → sections_text (exchanged s ss) ≡ sections_text s.before ++ (sections_text ss ++ sections_text s.after)
sections_text-exchanged s ss =
    joined-append section_text s.before (ss ++ s.after)
    ∙ ap (λ t. sections_text s.before ++ t) (joined-append section_text ss s.after)

-- Spans up to the last gap: the first span, and of each pair its own and the gap before it.
abbrev pub spans_up_to_gap : (first : Span) (after : Text) → List PairPiece → List Span
spans_up_to_gap first after [] = first ∷ []
spans_up_to_gap first after (p ∷ ps) =
    first ∷ gap after ∷ spans_up_to_gap (pair p.stretches p.key p.value) p.after ps

-- a section's spans up to the gap after these pairs, or after the header where there are none
abbrev pub spans_to_gap : SectionPiece → List PairPiece → List Span
spans_to_gap s before = spans_up_to_gap (opening s.name s.header) s.after before

pub gap_spans : (first : Span) (after : Text) (ps : List PairPiece) (rest : List Span)
    → first ∷ gap after ∷ (pairs_spans ps ++ rest)
    ≡ spans_up_to_gap first after ps ++ (gap (gap_of after ps) ∷ rest)
gap_spans first after [] rest = refl
gap_spans first after (p ∷ ps) rest =
    ap (λ l. first ∷ gap after ∷ l) (gap_spans (pair p.stretches p.key p.value) p.after ps rest)

gap_text : (first : Span) (after : Text) (ps : List PairPiece)
    → span_source first ++ (after ++ pairs_text ps)
    ≡ joined span_source (spans_up_to_gap first after ps) ++ gap_of after ps
gap_text first after [] =
    ap (λ t. span_source first ++ t) (append-nil after)
    ∙ ap (λ t. t ++ after) (sym (append-nil (span_source first)))
gap_text first after (p ∷ ps) =
    let more = joined span_source (spans_up_to_gap (pair p.stretches p.key p.value) p.after ps) in
    let last = gap_of p.after ps in
    ap (λ t. span_source first ++ (after ++ t))
    (append_assoc (pair_source p.stretches) p.after (pairs_text ps)
    ∙ gap_text (pair p.stretches p.key p.value) p.after ps)
    ∙ ap (λ t. span_source first ++ t) (sym (append_assoc after more last))
    ∙ sym (append_assoc (span_source first) (after ++ more) last)

module _ (s : SectionPiece) (before : List PairPiece) where
  -- the text up to a place is that of the spans up to the gap there, and the gap
  pub text_to_gap : text_up_to s before
      ≡ joined span_source (spans_to_gap s before) ++ gap_of s.after before
  text_to_gap = gap_text (opening s.name s.header) s.after before

  pub last_to_gap : (front : ℕ)
      → last_before_gap front s before ≡ last_or front (joined span_source (spans_to_gap s before))
  last_to_gap front =
      ap (last_or front)
      (front_is (joined span_source (spans_to_gap s before)) (gap_of s.after before) (text_up_to s before)
      (sym text_to_gap))

  pub last_after_gap : (front : ℕ)
      → last_or (last_before_gap front s before) (gap_of s.after before)
      ≡ last_or front (text_up_to s before)
  last_after_gap front =
      let up_to = joined span_source (spans_to_gap s before) in
      ap (λ c. last_or c (gap_of s.after before)) (last_to_gap front)
      ∙ sym (ap (last_or front) text_to_gap ∙ last_or-append front up_to (gap_of s.after before))

  -- the spans of the section that has these pairs, and others after them
  pub spans_at_gap : (after : List PairPiece)
      → section_spans (with_pairs s (before ++ after))
      ≡ spans_to_gap s before ++ (gap (gap_of s.after before) ∷ pairs_spans after)
  spans_at_gap after =
      ap (λ l. opening s.name s.header ∷ gap s.after ∷ l) (pairs_spans-append before after)
      ∙ gap_spans (opening s.name s.header) s.after before (pairs_spans after)

-- another gap there
gap_put_pairs : (g : Text) (p : PairPiece) (ps after : List PairPiece)
    → pairs_spans (last_changed (λ q. record q { after = g }) (p ∷ ps) ++ after)
    ≡ spans_up_to_gap (pair p.stretches p.key p.value) p.after ps ++ (gap g ∷ pairs_spans after)
gap_put_pairs g p [] after = refl
gap_put_pairs g p (q ∷ ps) after =
    ap (λ l. pair p.stretches p.key p.value ∷ gap p.after ∷ l) (gap_put_pairs g q ps after)

pub gap_put_spans : (g : Text) (s : SectionPiece) (before after : List PairPiece)
    → section_spans (gap_put g s before after) ≡ spans_to_gap s before ++ (gap g ∷ pairs_spans after)
gap_put_spans g s [] after = refl
gap_put_spans g s (p ∷ ps) after =
    ap (λ l. opening s.name s.header ∷ gap s.after ∷ l) (gap_put_pairs g p ps after)

pub gap_put_name : (g : Text) (s : SectionPiece) (before after : List PairPiece)
    → (gap_put g s before after).name ≡ s.name
gap_put_name g s [] after = refl
gap_put_name g s (p ∷ ps) after = refl

pub rest_put_name : (o : ParseOption) (lines g : Text) (s : SectionPiece) (before after : List PairPiece)
    → (rest_put o lines g s before after).name ≡ s.name
rest_put_name o lines g s [] after = refl
rest_put_name o lines g s (p ∷ ps) after = refl

-- where values are in one line, lines and a gap go into the gap there
pub rest_put_gap : (o : ParseOption) (off : o.enabled_indented_mutiline_value ≡ false) (lines g : Text)
    (s : SectionPiece) (before after : List PairPiece)
    → rest_put o lines g s before after ≡ gap_put (gap_of s.after before ++ (lines ++ g)) s before after
rest_put_gap o off lines g s [] after = refl
rest_put_gap o off lines g s (p ∷ ps) after = ap (λ l. with_pairs s (l ++ after)) (at p ps)
  where
    at : (p : PairPiece) (ps : List PairPiece)
        → last_changed (with_rest o lines g) (p ∷ ps)
        ≡ last_changed (λ q. record q { after = gap_of p.after ps ++ (lines ++ g) }) (p ∷ ps)
    at p [] = ap (λ q. q ∷ []) (cond-false (is_multiline o p && is_empty p.after) _ _
        (ap (λ b. (b && has_separator p) && is_empty p.after) off))
    at p (q ∷ ps) = ap (λ l. p ∷ l) (at q ps)

-- the last character before a section is that of the spans before it, and so before a pair and before a gap
pub last_of_sections : (s : Place SectionPiece)
    → last_before_section s ≡ last_or line_feed (joined span_source (sections_spans s.before))
last_of_sections s = ap (last_or line_feed) (sym (sections_joined s.before))

abbrev pub spans_before_gap : Place SectionPiece → List PairPiece → List Span
spans_before_gap s before = sections_spans s.before ++ spans_to_gap s.here before

abbrev pub spans_before_pairs : Place SectionPiece → List PairPiece → List Span
spans_before_pairs s before =
    sections_spans s.before ++ (opening s.here.name s.here.header ∷ gap s.here.after ∷ pairs_spans before)

abbrev pub spans_after_pairs : Place SectionPiece → List PairPiece → List Span
spans_after_pairs s after = pairs_spans after ++ sections_spans s.after

last_of_more : (s : Place SectionPiece) (xs : List Span)
    → last_or (last_before_section s) (joined span_source xs)
    ≡ last_or line_feed (joined span_source (sections_spans s.before ++ xs))
last_of_more s xs =
    let before = joined span_source (sections_spans s.before) in
    ap (λ c. last_or c (joined span_source xs)) (last_of_sections s)
    ∙ sym (last_or-append line_feed before (joined span_source xs))
    ∙ ap (last_or line_feed) (sym (joined-append span_source (sections_spans s.before) xs))

pub last_of_gap : (s : Place SectionPiece) (before : List PairPiece)
    → last_before_gap (last_before_section s) s.here before
    ≡ last_or line_feed (joined span_source (spans_before_gap s before))
last_of_gap s before =
    last_to_gap s.here before (last_before_section s) ∙ last_of_more s (spans_to_gap s.here before)

pub last_of_pairs : (s : Place SectionPiece) (before : List PairPiece)
    → last_or (last_before_section s) (text_up_to s.here before)
    ≡ last_or line_feed (joined span_source (spans_before_pairs s before))
last_of_pairs s before =
    ap (λ t. last_or (last_before_section s) (s.here.header ++ (s.here.after ++ t)))
    (sym (pairs_joined before))
    ∙ last_of_more s (opening s.here.name s.here.header ∷ gap s.here.after ∷ pairs_spans before)

-- one section exchanged for one of its name, where its spans may be exchanged
module _ (o : ParseOption) {ss : List SectionPiece} {s : Place SectionPiece} {i : ℕ}
    (at : IsPlaceAt ss s i) where
  pub section_put_in : (new : SectionPiece) → new.name ≡ s.here.name
      → (AreSpans o line_feed (spans_around s (section_spans s.here)) []
      → AreSpans o line_feed (spans_around s (section_spans new)) [])
      → AreSections o ss → AreSections o (exchanged s (new ∷ []))
  section_put_in new same put are = record {
    begin_general = begin-same s.before s.here new s.after same
        (subst BeginGeneral at.whole are.begin_general);
    spans = subst (λ xs. AreSpans o line_feed xs []) (sym (sections_spans-append s.before (new ∷ s.after)))
        (put (subst (λ xs. AreSpans o line_feed xs [])
        (ap sections_spans at.whole ∙ sections_spans-append s.before (s.here ∷ s.after)) are.spans));
  }

  -- the spans around the gap before a place, and around pairs
  at_gap : (before after : List PairPiece) (g : Text)
      → spans_around s (spans_to_gap s.here before ++ (gap g ∷ pairs_spans after))
      ≡ spans_before_gap s before ++ (gap g ∷ spans_after_pairs s after)
  at_gap before after g =
      ap (λ l. sections_spans s.before ++ l)
      (append_assoc (spans_to_gap s.here before) (gap g ∷ pairs_spans after) (sections_spans s.after))
      ∙ sym (append_assoc (sections_spans s.before) (spans_to_gap s.here before)
      (gap g ∷ spans_after_pairs s after))

  at_pairs : (before ps after : List PairPiece)
      → spans_around s (section_spans (with_pairs s.here (before ++ (ps ++ after))))
      ≡ spans_before_pairs s before ++ (pairs_spans ps ++ spans_after_pairs s after)
  at_pairs before ps after =
      let first = opening s.here.name s.here.header ∷ gap s.here.after ∷ pairs_spans before in
      let rest = sections_spans s.after in
      ap (λ l. spans_around s (opening s.here.name s.here.header ∷ gap s.here.after ∷ l))
      (pairs_spans-append before (ps ++ after)
      ∙ ap (λ l. pairs_spans before ++ l) (pairs_spans-append ps after))
      ∙ ap (λ l. sections_spans s.before ++ l) (append_assoc first (pairs_spans ps ++ pairs_spans after) rest)
      ∙ sym (append_assoc (sections_spans s.before) first ((pairs_spans ps ++ pairs_spans after) ++ rest))
      ∙ ap (λ l. spans_before_pairs s before ++ l) (append_assoc (pairs_spans ps) (pairs_spans after) rest)

  -- another gap before a place, and then other pairs, where these spans may be exchanged
  pub gap_put_in : (before after later : List PairPiece) (g : Text) → s.here.pairs ≡ before ++ after
      → (AreSpans o line_feed (spans_before_gap s before
      ++ (gap (gap_of s.here.after before) ∷ spans_after_pairs s after)) []
      → AreSpans o line_feed (spans_before_gap s before ++ (gap g ∷ spans_after_pairs s later)) [])
      → AreSections o ss → AreSections o (exchanged s (gap_put g s.here before later ∷ []))
  gap_put_in before after later g whole put are =
      let was : spans_around s (section_spans s.here)
      ≡ spans_before_gap s before ++ (gap (gap_of s.here.after before) ∷ spans_after_pairs s after) =
      ap (λ ps. spans_around s (section_spans (with_pairs s.here ps))) whole
      ∙ ap (spans_around s) (spans_at_gap s.here before after)
      ∙ at_gap before after (gap_of s.here.after before) in
      let now : spans_around s (section_spans (gap_put g s.here before later))
      ≡ spans_before_gap s before ++ (gap g ∷ spans_after_pairs s later) =
      ap (spans_around s) (gap_put_spans g s.here before later)
      ∙ at_gap before later g in
      section_put_in (gap_put g s.here before later) (gap_put_name g s.here before later)
      (λ h. subst (λ xs. AreSpans o line_feed xs []) (sym now)
      (put (subst (λ xs. AreSpans o line_feed xs []) was h))) are

  -- the spans around pairs
  pub pairs_there : (before ps after : List PairPiece) → s.here.pairs ≡ before ++ (ps ++ after)
      → AreSections o ss
      → AreSpans o line_feed (spans_before_pairs s before ++ (pairs_spans ps ++ spans_after_pairs s after)) []
  pairs_there before ps after whole are =
      subst (λ xs. AreSpans o line_feed xs [])
      (ap sections_spans at.whole ∙ sections_spans-append s.before (s.here ∷ s.after)
      ∙ ap (λ ps. spans_around s (section_spans (with_pairs s.here ps))) whole
      ∙ at_pairs before ps after) are.spans

  -- other pairs in place of some, where their spans may be exchanged
  pub pairs_put_in : (before olds news after : List PairPiece) → s.here.pairs ≡ before ++ (olds ++ after)
      → (AreSpans o line_feed (spans_before_pairs s before
      ++ (pairs_spans olds ++ spans_after_pairs s after)) []
      → AreSpans o line_feed (spans_before_pairs s before
      ++ (pairs_spans news ++ spans_after_pairs s after)) [])
      → AreSections o ss → AreSections o (exchanged s (with_pairs s.here (before ++ (news ++ after)) ∷ []))
  pairs_put_in before olds news after whole put are =
      let was : spans_around s (section_spans s.here)
      ≡ spans_before_pairs s before ++ (pairs_spans olds ++ spans_after_pairs s after) =
      ap (λ ps. spans_around s (section_spans (with_pairs s.here ps))) whole
      ∙ at_pairs before olds after in
      section_put_in (with_pairs s.here (before ++ (news ++ after))) refl
      (λ h. subst (λ xs. AreSpans o line_feed xs []) (sym (at_pairs before news after))
      (put (subst (λ xs. AreSpans o line_feed xs []) was h))) are
