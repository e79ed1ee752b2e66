-- A text read into pieces, one item after another.
use Rattle.std.proofs.Common.{◌≡◌, ◌≢◌, ◌∙◌, ◌<◌, ◌-◌, ℕ, Bool, true, ◌&&◌, List, [], ◌∷◌, ◌++◌, length, ap}
use Rattle.std.proofs.Common.{sym, subst, refl, Option, None, Some, arith, append_assoc, append-nil, chars}
use Rattle.std.proofs.Common.{length-append}
use Rattle.std.proofs.lemmas.List.{append_cancel_left}
use Rattle.std.proofs.lemmas.List.Folds.{list_all-append}
use Rattle.std.specs.List.{list_all}
use Rattle.std.specs.Prelude.{is_some}
use Rattle.ini_text.specs.Grammar.CharacterKinds.{line_feed}
use Rattle.ini_text.specs.Grammar.Elements.{Given, Header, Element}
use Rattle.ini_text.specs.Grammar.Pieces.{ArePieces}
use Rattle.ini_text.specs.Grammar.Places.{ArePlaced, pair_source}
use Rattle.ini_text.specs.Grammar.Positions.{last_or}
use Rattle.ini_text.specs.Grammar.Texts.{Reads}
use Rattle.ini_text.specs.Parsing.Parser.{Place}
use Rattle.ini_text.specs.Parsing.Items.{cow_text}
use Rattle.ini_text.specs.Parsing.Places.{HasPlaces, StandsBetween, gives}
use Rattle.ini_text.specs.Parsing.Places as parsing
use Rattle.ini_text.specs.declared.option.ParseOption.{ParseOption}
use Rattle.ini_text.specs.declared.parser.placed.Content.TheVariants as contents
use Rattle.ini_text.specs.declared.parser.placed.PlacedElement.{PlacedElement}
use Rattle.ini_text.specs.declared.parser.placed.PlacedPair.{PlacedPair}
use Rattle.ini_text.proofs.GrammarLemmas.ItemLemmas.{reads-append}
use Rattle.ini_text.proofs.LawLemmas.LocalLemmas.{Element-like, by_last}
use Rattle.ini_text.specs.Parsing.Fronts.{IsRest, front_of}
use Rattle.ini_text.proofs.LawLemmas.ExportedLemmas.{front_is}
use Rattle.ini_text.proofs.LawLemmas.OneAheadLemmas.{Reads-front}
use Rattle.ini_text.proofs.LawLemmas.PieceLemmas.{last_or-append}
use Rattle.ini.specs.Texts.{Text}
use Rattle.ini_edit.specs.Inside.InPlace.{AreInPlace}
use Rattle.ini_edit.specs.Inside.SourceWalks.{IsPastItem, ReachesItem, ReadsSpans}
use Rattle.ini_edit.specs.Inside.Spans.{AreSections, BeginGeneral, IsGap, IsSpan, Span, opening, pair, gap}
use Rattle.ini_edit.specs.Inside.Spans.{pairs_spans, section_spans, sections_spans, span_source}
use Rattle.ini_edit.specs.Inside.Walks.{IsPastLast, IsReading, StandsWithin, Steps}
use Rattle.ini_edit.specs.SourceReads.{ArePlacedSpans, AreRead, IsPlacedSpan}
use Rattle.ini_edit.specs.Sources.{PairPiece, SectionPiece, joined, placed_piece, sections_text}
use Rattle.ini_edit.specs.declared.source.gap.Reached.{Reached}
use Rattle.ini_edit.proofs.InPlaceLemmas.{in_place-join, joined-append}
use Rattle.ini_edit.proofs.PlacedSpanLemmas.{placed_after, placed_spans}
use Rattle.ini_edit.proofs.SpanLemmas.{spans_read, sections_joined}
use Rattle.ini_edit.proofs.WalkLemmas.{reads_rest, stands_within, stays, step_reads}

pub empty_parts : (xs ys : List Given) → xs ++ ys ≡ [] → (xs ≡ []) × (ys ≡ [])
empty_parts [] ys h = (refl, h)
empty_parts (x ∷ xs) ys h = absurd (let no : x ∷ (xs ++ ys) ≡ [] = h in cc)

-- a gap between the fronts b and c, before r
record ReadGap (o : ParseOption) (b c r : Text) : Type 0 where
  gap : Text
  reaches : c ≡ b ++ gap
  is : IsGap o (last_or line_feed b) gap r

module _ {o : ParseOption} where
  no_gap : {b r : Text} → ReadGap o b b r
  no_gap {b} = record {
    gap = [];
    reaches = sym (append-nil b);
    is = record { pieces = []; whole = refl; nothing = refl; are = ArePieces.none };
  }

  -- an element that gives nothing, and a gap after it
  more_gap : {b s r c y : Text} → Element o b s r [] → (more : ReadGap o (b ++ s) c y)
      → r ≡ more.gap ++ y → ReadGap o b c y
  more_gap {b} {s} {r} {c} {y} e more rest = record {
    gap = s ++ more.gap;
    reaches = more.reaches ∙ append_assoc b s more.gap;
    is = record {
      pieces = record { source = s; gives = [] } ∷ more.is.pieces;
      whole = ap (λ t. s ++ t) more.is.whole;
      nothing = more.is.nothing;
      are = ArePieces.more
          (Element-like by_last (subst (λ z. Element o b s z []) (rest ∙ ap (λ t. t ++ y) more.is.whole) e))
          (subst (λ z. ArePieces o z more.is.pieces y) (last_or-append line_feed b s) more.is.are);
    };
  }

  -- elements that give nothing are a gap
  read_nothing : {T b c : Text} {items : List Given} (r : Text) → Reads o T b items c → items ≡ []
      → T ≡ c ++ r → ReadGap o b c r
  read_nothing r (Reads.stay x h) none whole = no_gap
  read_nothing r (Reads.step {b = b} {s = s} {r = x} {gives = g} {items = items} h e reads) none whole =
      let parts = empty_parts g items none in
      let more = read_nothing r reads parts.1 whole in
      more_gap (subst (Element o b s x) parts.0 e) more
      (append_cancel_left (b ++ s) x (more.gap ++ r)
      (append_assoc b s x ∙ sym h ∙ whole ∙ ap (λ z. z ++ r) more.reaches
      ∙ append_assoc (b ++ s) more.gap r))

  -- gaps between two fronts
  read_gap : {T b gap : Text} (r : Text) → Reads o T b [] (b ++ gap) → T ≡ (b ++ gap) ++ r
      → IsGap o (last_or line_feed b) gap r
  read_gap {b = b} {gap} r reads whole =
      let found = read_nothing r reads refl whole in
      subst (λ t. IsGap o (last_or line_feed b) t r) (sym (append_cancel_left b gap found.gap found.reaches))
      found.is

-- after the front b the parser went over elements that give nothing
pub record Skips (o : ParseOption) (T b : Text) (p : Place) : Type 0 where
  pub is_reading : IsReading o T p
  pub first : List Given
  pub to_front : Reads o T [] first b
  pub nothing : Reads o T b [] p.front

pub skips_start : {p : Place} → StandsWithin p → Skips p.option p.text p.front p
skips_start {p} s = record {
  is_reading = record { option = refl; text = refl; refusal = s.refusal };
  first = s.items;
  to_front = s.reads;
  nothing = stays s;
}

module _ {o : ParseOption} {T b : Text} {p : Place} (s : Skips o T b p) where
  pub skips_within : StandsWithin p
  skips_within = stands_within s.is_reading (reads-append s.to_front s.nothing)

  pub skips_step : {q : Place} {e : PlacedElement} → Steps o T p.front q e → gives e.content ≡ []
      → Skips o T b q
  skips_step {q} t none = record {
    is_reading = t.is_reading;
    first = s.first;
    to_front = s.to_front;
    nothing = reads-append s.nothing (subst (λ l. Reads o T p.front l q.front) none (step_reads t));
  }

  -- the text that it went over
  over : (m : Text) × (b ++ m ≡ p.front)
  over = Reads-front s.nothing

  module _ (start rest : Text) (to_start : b ++ start ≡ T) (to_rest : p.front ++ rest ≡ T) where
    start_is : over.0 ++ rest ≡ start
    start_is = sym (append_cancel_left b start (over.0 ++ rest)
        (to_start ∙ sym to_rest ∙ ap (λ t. t ++ rest) (sym over.1) ∙ append_assoc b over.0 rest))

    pub skips_rest : IsRest start rest
    skips_rest = ap (λ t. t ++ rest) (front_is over.0 rest start start_is) ∙ start_is

    pub skips_gap : {gap : Text} → gap ≡ front_of start rest → b ++ gap ≡ p.front
    skips_gap is = ap (λ t. b ++ t) (is ∙ front_is over.0 rest start start_is) ∙ over.1

  module _ (found : Reached) (gap : b ++ chars found.gap.now ≡ p.front) where
    to_gap : Reads o T b [] (b ++ chars found.gap.now)
    to_gap = subst (Reads o T b []) (sym gap) s.nothing

    pub skips_end : {q : Place} → IsPastLast o T p.front q → found.item ≡ None → ReachesItem o T b q found
    skips_end {q} past none = record {
      is_reading = past.is_reading;
      nothing = to_gap;
      item = subst (IsPastItem o T (b ++ chars found.gap.now) q) (sym none) (gap ∙ past.was_end, past.is_end);
    }

    pub skips_item : {q : Place} {e : PlacedElement} → Steps o T p.front q e → gives e.content ≢ []
        → found.item ≡ Some e
        → ReachesItem o T b q found
    skips_item {q} {e} t some is = record {
      is_reading = t.is_reading;
      nothing = to_gap;
      item = subst (IsPastItem o T (b ++ chars found.gap.now) q) (sym is)
          (subst (λ f. StandsBetween o T f q.front e) (sym gap) t.stands, some);
    }

module _ {o : ParseOption} {T : Text} where
  -- after the spans an item follows, and after that a gap
  module _ {xs : List Span} {p q : Place} {item : Option PlacedElement} {e : PlacedElement} {found : Reached}
      (at : ReadsSpans o T p xs item) (some : item ≡ Some e) (next : ReachesItem o T p.front q found) where
    pub stands : StandsBetween o T (joined span_source xs) p.front e × (gives e.content ≢ [])
    stands = subst (IsPastItem o T (joined span_source xs) p) some at.past

    abbrev pub source : Text
    source = chars e.source.now

    abbrev pub gap_text : Text
    gap_text = chars found.gap.now

    abbrev pub with_next : Span → List Span
    with_next x = xs ++ (x ∷ gap gap_text ∷ [])

    reaches : (x : Span) → span_source x ≡ source → p.front ++ gap_text ≡ joined span_source (with_next x)
    reaches x same =
        let b = joined span_source xs in
        ap (λ t. t ++ gap_text) stands.0.reaches ∙ append_assoc b source gap_text
        ∙ ap (λ t. b ++ (source ++ t)) (sym (append-nil gap_text))
        ∙ ap (λ t. b ++ (t ++ (gap_text ++ []))) (sym same)
        ∙ sym (joined-append span_source xs (x ∷ gap gap_text ∷ []))

    pub reads_more : (x : Span) → span_source x ≡ source
        → IsPlacedSpan o (last_or line_feed (joined span_source xs)) x stands.0.rest
        → ReadsSpans o T q (with_next x) found.item
    reads_more x same is = record {
      is_reading = next.is_reading;
      rest = rest.0;
      whole = rest.1 ∙ ap (λ t. t ++ rest.0) (reaches x same);
      are = in_place-join span_source xs (x ∷ gap gap_text ∷ [])
          (subst (ArePlacedSpans o line_feed xs) rest_is at.are)
          (AreInPlace.more (subst (IsPlacedSpan o c x) following is)
          (AreInPlace.more (IsSpan.is_gap gap_is) AreInPlace.none));
      past = subst (λ f. IsPastItem o T f q found.item) (reaches x same) next.item;
    }
      where
        b : Text
        b = joined span_source xs

        c : ℕ
        c = last_or line_feed b

        rest : (r : Text) × (T ≡ (p.front ++ gap_text) ++ r)
        rest = reads_rest next.nothing

        -- what follows the item
        following : stands.0.rest ≡ (gap_text ++ []) ++ rest.0
        following = append_cancel_left (b ++ source) stands.0.rest ((gap_text ++ []) ++ rest.0)
            (append_assoc b source stands.0.rest ∙ sym stands.0.whole ∙ rest.1
            ∙ ap (λ t. (t ++ gap_text) ++ rest.0) stands.0.reaches
            ∙ append_assoc (b ++ source) gap_text rest.0
            ∙ ap (λ t. (b ++ source) ++ (t ++ rest.0)) (sym (append-nil gap_text)))

        rest_is : at.rest ≡ joined span_source (x ∷ gap gap_text ∷ []) ++ rest.0
        rest_is = append_cancel_left b at.rest _
            (sym at.whole ∙ stands.0.whole ∙ ap (λ t. b ++ (source ++ t)) following
            ∙ ap (λ t. b ++ t) (sym (append_assoc source (gap_text ++ []) rest.0))
            ∙ ap (λ t. b ++ ((t ++ (gap_text ++ [])) ++ rest.0)) (sym same))

        last : last_or line_feed p.front ≡ last_or c (span_source x)
        last = ap (last_or line_feed) stands.0.reaches ∙ last_or-append line_feed b source
            ∙ ap (last_or c) (sym same)

        gap_is : IsGap o (last_or c (span_source x)) gap_text rest.0
        gap_is = subst (λ z. IsGap o z gap_text rest.0) last (read_gap rest.0 next.nothing rest.1)

    -- less of the text is left
    pub reads_nearer : (x : Span) → span_source x ≡ source
        → length T - length (joined span_source (with_next x)) < length T - length (joined span_source xs)
    reads_nearer x same =
        let b = joined span_source xs in
        omega (
          arith,
          stands.0.longer,
          ap length stands.0.whole,
          ap length stands.0.reaches,
          ap length (reaches x same),
          length-append b source,
          length-append b (source ++ stands.0.rest),
          length-append source stands.0.rest,
          length-append p.front gap_text,
        )

    pub reads_header : {name : Text} → gives e.content ≡ Header name ∷ []
        → ReadsSpans o T q (with_next (opening (Some name) source)) found.item
    reads_header {name} is =
        reads_more (opening (Some name) source) refl
        (IsSpan.header (Element-like by_last
        (subst (Element o (joined span_source xs) source stands.0.rest) is stands.0.is_element)))

    module _ (placed : PlacedPair) (is : e.content ≡ contents.Pair placed) where
      places : (source ≡ pair_source (parsing.stretches_of placed.places))
          × ArePlaced o (joined span_source xs) (parsing.stretches_of placed.places) stands.0.rest
          (cow_text placed.key) (cow_text placed.value)
      places = subst (HasPlaces o (joined span_source xs) source stands.0.rest) is stands.0.places

      pub reads_pair : ReadsSpans o T q
          (with_next (pair (parsing.stretches_of placed.places) (cow_text placed.key)
          (cow_text placed.value)))
          found.item
      reads_pair =
          let p = pair (parsing.stretches_of placed.places) (cow_text placed.key) (cow_text placed.value) in
          reads_more p (sym places.0) (placed_after places.1)

      pub pair_nearer : length T - length (joined span_source
          (with_next (pair (parsing.stretches_of placed.places) (cow_text placed.key)
          (cow_text placed.value))))
          < length T - length (joined span_source xs)
      pair_nearer =
          reads_nearer (pair (parsing.stretches_of placed.places) (cow_text placed.key)
          (cow_text placed.value))
          (sym places.0)

  -- where the parser stands, elements end
  pub reads_within : {xs : List Span} {p : Place} {item : Option PlacedElement} {e : PlacedElement}
      → ReadsSpans o T p xs item → item ≡ Some e → StandsWithin p
  reads_within {xs} {p} {item} {e} at some =
      let past = subst (IsPastItem o T (joined span_source xs) p) some at.past in
      let steps : Steps o T
      (joined span_source xs) p e = record { is_reading = at.is_reading; stands = past.0 } in
      stands_within at.is_reading (reads-append (spans_read xs (placed_spans at.are) at.whole)
      (step_reads steps))

  pub reads_start : {b : Text} {q : Place} {found : Reached} → b ≡ [] → ReachesItem o T b q found
      → ReadsSpans o T q (opening None [] ∷ gap (chars found.gap.now) ∷ []) found.item
  reads_start {b} {q} {found} start next =
      let g = chars found.gap.now in
      let text : b ++ g ≡ g ++ [] = ap (λ t. t ++ g) start ∙ sym (append-nil g) in
      let rest = reads_rest next.nothing in
      let is : IsGap o line_feed g rest.0 =
      subst (λ b. IsGap o (last_or line_feed b) g rest.0) start (read_gap rest.0 next.nothing rest.1) in
      record {
        is_reading = next.is_reading;
        rest = rest.0;
        whole = rest.1 ∙ ap (λ t. t ++ rest.0) text;
        are = AreInPlace.more IsSpan.general (AreInPlace.more (IsSpan.is_gap is) AreInPlace.none);
        past = subst (λ f. IsPastItem o T f q found.item) text next.item;
      }

-- sections with one more, or with one more pair in the last
pub sections_spans-append : (ss ts : List SectionPiece) → sections_spans
    (ss ++ ts) ≡ sections_spans ss ++ sections_spans ts
sections_spans-append [] ts = refl
sections_spans-append (s ∷ ss) ts = ap (λ l. section_spans s ++ l) (sections_spans-append ss ts)
    ∙ sym (append_assoc (section_spans s) (sections_spans ss) (sections_spans ts))

pub pairs_spans-append : (ps qs : List PairPiece) → pairs_spans (ps ++ qs) ≡ pairs_spans ps ++ pairs_spans qs
pairs_spans-append [] qs = refl
pairs_spans-append (p ∷ ps) qs =
    ap (λ l. pair p.stretches p.key p.value ∷ gap p.after ∷ l) (pairs_spans-append ps qs)

-- the section with a pair more
abbrev pub with_pair : SectionPiece → PairPiece → SectionPiece
with_pair s p = record { name = s.name; header = s.header; after = s.after; pairs = s.pairs ++ p ∷ [] }

last_section : (ss : List SectionPiece) (s : SectionPiece)
    → sections_spans (ss ++ s ∷ []) ≡ sections_spans ss ++ section_spans s
last_section ss s = sections_spans-append ss (s ∷ []) ∙ ap (λ l. sections_spans ss ++ l) (append-nil
    (section_spans s))

pub pair_more : (ss : List SectionPiece) (s : SectionPiece) (p : PairPiece)
    → sections_spans (ss ++ s ∷ []) ++ (pair p.stretches p.key p.value ∷ gap p.after ∷ [])
    ≡ sections_spans (ss ++ with_pair s p ∷ [])
pair_more ss s p =
    let more = pair p.stretches p.key p.value ∷ gap p.after ∷ [] in
    ap (λ l. l ++ more) (last_section ss s)
    ∙ append_assoc (sections_spans ss) (section_spans s) more
    ∙ ap (λ l. sections_spans ss ++ (opening s.name s.header ∷ gap s.after ∷ l)) (sym
    (pairs_spans-append s.pairs (p ∷ [])))
    ∙ sym (last_section ss (with_pair s p))

pub section_more : (ss : List SectionPiece) (name header after : Text)
    → sections_spans ss ++ (opening (Some name) header ∷ gap after ∷ [])
    ≡ sections_spans (ss ++ record { name = Some name; header = header; after = after; pairs = [] } ∷ [])
section_more ss name header after =
    sym (last_section ss (record { name = Some name; header = header; after = after; pairs = [] }))

-- one with a name more, or another of the same name in one's place, leaves the names as they are
abbrev has_name : SectionPiece → Bool
has_name s = is_some s.name

pub begin-more : (ss : List SectionPiece) (s : SectionPiece) → is_some s.name ≡ true → BeginGeneral ss
    → BeginGeneral (ss ++ s ∷ [])
begin-more [] s named h = absurd h
begin-more (t ∷ ss) s named h = (
  h.0,
  list_all-append has_name ss (s ∷ []) ∙ ap (λ b. b && (is_some s.name && true)) h.1
      ∙ ap (λ b. b && true) named,
)

pub begin-same : (ss : List SectionPiece) (s t : SectionPiece) (rest : List SectionPiece) → t.name ≡ s.name
    → BeginGeneral (ss ++ s ∷ rest) → BeginGeneral (ss ++ t ∷ rest)
begin-same [] s t rest same h = (same ∙ h.0, h.1)
begin-same (u ∷ ss) s t rest same h = (
  h.0,
  list_all-append has_name ss (t ∷ rest)
      ∙ ap (λ n. list_all has_name ss && (is_some n && list_all has_name rest)) same
      ∙ sym (list_all-append has_name ss (s ∷ rest)) ∙ h.1,
)

-- the sections are those of the text up to the item
pub record ReadsSections (o : ParseOption) (T : Text) (p : Place) (ss : List SectionPiece)
    (item : Option PlacedElement) : Type 0 where
  pub spans : ReadsSpans o T p (sections_spans ss) item
  pub begins : BeginGeneral ss

abbrev pub left : Text → List SectionPiece → ℕ
left T ss = length T - length (joined span_source (sections_spans ss))

-- what was said of the parser's text and options
pub reached : (p : Place) {o : ParseOption} {T : Text} {q : Place} {found : Reached} → p.option ≡ o
    → p.text ≡ T → ReachesItem p.option p.text p.front q found → ReachesItem o T p.front q found
reached p {T = T} {q} {found} option text next =
    subst (λ o. ReachesItem o T p.front q found) option
    (subst (λ t. ReachesItem p.option t p.front q found) text next)

-- at the text's front a parser stands within it
pub front_within : {p : Place} → p.refusal ≡ None → p.front ≡ [] → StandsWithin p
front_within {p} refusal front = record {
  refusal = refusal;
  items = [];
  reads = subst (Reads p.option p.text [] []) (sym front) (Reads.stay p.text refl);
}

module _ {o : ParseOption} {T : Text} where
  pub sections_start : {b : Text} {q : Place} {found : Reached} {ss : List SectionPiece} → b ≡ []
      → ReachesItem o T b q found
      → ss ≡ record { name = None; header = []; after = chars found.gap.now; pairs = [] } ∷ []
      → ReadsSections o T q ss found.item
  sections_start {q = q} {found} start next is = record {
    spans = subst (λ ss. ReadsSpans o T q (sections_spans ss) found.item) (sym is) (reads_start start next);
    begins = subst BeginGeneral (sym is) (refl, refl);
  }

  module _ {p q : Place} {ss : List SectionPiece} {item : Option PlacedElement} {e : PlacedElement}
      {found : Reached} (at : ReadsSections o T p ss item) (some : item ≡ Some e)
      (next : ReachesItem o T p.front q found) where
    pub sections_some : gives e.content ≢ []
    sections_some = (subst (IsPastItem o T (joined span_source (sections_spans ss)) p) some at.spans.past).1

    pub sections_header : {name : Text} {ts : List SectionPiece} → gives e.content ≡ Header name ∷ []
        → ts ≡ ss ++ record {
          name = Some name;
          header = chars e.source.now;
          after = chars found.gap.now;
          pairs = [];
        } ∷ []
        → ReadsSections o T q ts found.item × (left T ts < left T ss)
    sections_header {name} {ts} is_header is =
        let source = chars e.source.now in
        let after = chars found.gap.now in
        let new : SectionPiece = record { name = Some name; header = source; after = after; pairs = [] } in
        let same = section_more ss name source after ∙ ap sections_spans (sym is) in (
          record {
            spans = subst (λ xs. ReadsSpans o T q xs found.item) same
                (reads_header at.spans some next is_header);
            begins = subst BeginGeneral (sym is) (begin-more ss new refl at.begins);
          },
          subst (λ xs. length T - length (joined span_source xs) < left T ss) same
              (reads_nearer at.spans some next (opening (Some name) source) refl),
        )

    pub sections_pair : (placed : PlacedPair) → e.content ≡ contents.Pair placed → (rs : List SectionPiece)
        (s : SectionPiece) {ts : List SectionPiece} → ss ≡ rs ++ s ∷ []
        → ts ≡ rs ++ with_pair s (placed_piece placed (chars found.gap.now)) ∷ []
        → ReadsSections o T q ts found.item × (left T ts < left T ss)
    sections_pair placed content rs s {ts} was is =
        let piece = placed_piece placed (chars found.gap.now) in
        let new = pair piece.stretches piece.key piece.value ∷ gap piece.after ∷ [] in
        let same = ap (λ l. sections_spans l ++ new) was ∙ pair_more rs s piece ∙ ap sections_spans
        (sym is) in (
          record {
            spans = subst (λ xs. ReadsSpans o T q xs found.item) same
                (reads_pair at.spans some next placed content);
            begins = subst BeginGeneral (sym is)
                (begin-same rs s (with_pair s piece) [] refl (subst BeginGeneral was at.begins));
          },
          subst (λ xs. length T - length (joined span_source xs) < left T ss) same
              (pair_nearer at.spans some next placed content),
        )

  -- at the text's end
  module _ {ss : List SectionPiece} {p : Place} {item : Option PlacedElement} (none : item ≡ None)
      (at : ReadsSections o T p ss item) where
    whole_text : joined span_source (sections_spans ss) ≡ T
    whole_text = (subst (IsPastItem o T (joined span_source (sections_spans ss)) p) none at.spans.past).0

    pub read_text : sections_text ss ≡ T
    read_text = sym (sections_joined ss) ∙ whole_text

    pub read_placed : AreRead o ss
    read_placed = record {
      begin_general = at.begins;
      placed = subst (ArePlacedSpans o line_feed (sections_spans ss))
          (append_cancel_left T at.spans.rest []
          (ap (λ t. t ++ at.spans.rest) (sym whole_text) ∙ sym at.spans.whole ∙ sym
          (append-nil T))) at.spans.are;
    }

    pub read_sections : AreSections o ss
    read_sections = record { begin_general = at.begins; spans = placed_spans read_placed.placed }
