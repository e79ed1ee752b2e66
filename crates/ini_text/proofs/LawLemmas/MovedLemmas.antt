-- A text after another one: what is read of it stays, and its places move down.
use Rattle.std.proofs.Common.{◌≡◌, ℕ, ◌+◌, Bool, true, ◌||◌, ◌&&◌, cond, List, [], ◌∷◌, ◌++◌, refl, sym, ap}
use Rattle.std.proofs.Common.{◌∙◌, subst, append_assoc, append-nil, length, length-append, arith, count_by}
use Rattle.std.proofs.Common.{eqb, eqb-true}
use Rattle.std.proofs.lemmas.Bool.{cond-true, or_right, or_left, false≢true, not-false}
use Rattle.std.specs.Char.{is_whitespace}
use Rattle.std.proofs.lemmas.List.Sums.{sum_by-append}
use Rattle.std.specs.List.{list_any}
use Rattle.ini_text.specs.declared.option.ParseOption.{ParseOption}
use Rattle.ini_text.specs.declared.error.ParseKind.{ParseKind}
use Rattle.ini_text.specs.Grammar.CharacterKinds.{line_feed, open_bracket, is_blank, is_comment_mark}
use Rattle.ini_text.specs.Grammar.CharacterKinds.{is_line_feed, is_line_end, BeginsWith}
use Rattle.ini_text.specs.Grammar.Positions.{column_of, last_or, line_of, starts_line, is_column_one}
use Rattle.ini_text.specs.Grammar.Positions.{last_line}
use Rattle.ini_text.specs.Grammar.Keys.{Indentation, KeyFront, begins_key}
use Rattle.ini_text.specs.Grammar.Lines.{Note}
use Rattle.ini_text.specs.Grammar.Elements.{Given, Gap, Element, ElementStops, may_have_note}
use Rattle.ini_text.specs.Grammar.Texts.{Reads, Derives, Stops}
use Rattle.ini_text.specs.Parsing.Parser.{StopsPast}
use Rattle.ini_text.specs.Laws.PlainLaws.{BeginsWithHeader, IsEmptyOrHeader, IsMoved}
use Rattle.ini_text.proofs.GrammarLemmas.ItemLemmas.{element-some, reads-append}

pub last_or-after : (d c : ℕ) (W b : List ℕ) → last_or d (W ++ (c ∷ b)) ≡ last_or c b
last_or-after d c [] b = refl
last_or-after d c (x ∷ W) b = last_or-after x c W b

line_feed_ends_line : (c : ℕ) → is_line_feed c ≡ true → is_line_end c ≡ true
line_feed_ends_line c h = or_left (is_line_feed c) (eqb c 13) h

whole-after : (W b t : List ℕ) {Y : List ℕ} → Y ≡ b ++ t → W ++ Y ≡ (W ++ b) ++ t
whole-after W b t h = ap (λ y. W ++ y) h ∙ sym (append_assoc W b t)

module _ (W : List ℕ) (one : is_column_one W ≡ true) where
  starts_line-after : (b : List ℕ) → starts_line (W ++ b) ≡ starts_line b
  starts_line-after [] = rw (append-nil W) (line_feed_ends_line (last_or line_feed W) one)
  starts_line-after (c ∷ b) = ap is_line_end (last_or-after line_feed c W b)

  pub is_column_one-after : (b : List ℕ) → is_column_one (W ++ b) ≡ is_column_one b
  is_column_one-after [] = rw (append-nil W) one
  is_column_one-after (c ∷ b) = ap is_line_feed (last_or-after line_feed c W b)

  Indentation-after : {b w : List ℕ} → Indentation b w → Indentation (W ++ b) w
  Indentation-after {b} i =
      record { at_line_start = starts_line-after b ∙ i.at_line_start; some = i.some; blank = i.blank }

  Gap-after : {b s r : List ℕ} → Gap b s r → Gap (W ++ b) s r
  Gap-after (Gap.blank_line c i e) = Gap.blank_line c (Indentation-after i) e
  Gap-after (Gap.before_header i) = Gap.before_header (Indentation-after i)
  Gap-after {b} (Gap.white h n) = Gap.white h (λ q. starts_line-after b ∙ n q)

  may_have_note-after : (o : ParseOption) (b : List ℕ) → may_have_note o (W ++ b) ≡ may_have_note o b
  may_have_note-after o b =
      ap (λ starts. o.enabled_inline_comment || o.enabled_indented_comment && starts) (starts_line-after b)

  module _ {o : ParseOption} where
    KeyFront-after : {b s r v : List ℕ} → KeyFront o b s r v → KeyFront o (W ++ b) s r v
    KeyFront-after (KeyFront.unindented h str) = KeyFront.unindented h str
    KeyFront-after (KeyFront.indented i h str) = KeyFront.indented (Indentation-after i) h str

    Element-after : {b s r : List ℕ} {gives : List Given} → Element o b s r gives
        → Element o (W ++ b) s r gives
    Element-after (Element.gap g) = Element.gap (Gap-after g)
    Element-after {b} (Element.comment s at mark all) =
        Element.comment s (is_column_one-after b ∙ at) mark all
    Element-after {b} (Element.last_comment at mark all) =
        Element.last_comment (is_column_one-after b ∙ at) mark all
    Element-after (Element.indented_comment on i noted) =
        Element.indented_comment on (Indentation-after i) noted
    Element-after {b} (Element.note may late noted) =
        Element.note (may_have_note-after o b ∙ may) (is_column_one-after b ∙ late) noted
    Element-after (Element.header off str) = Element.header off str
    Element-after (Element.bracketed_header on str i) = Element.bracketed_header on str i
    Element-after (Element.pair front some sep value) = Element.pair (KeyFront-after front) some sep value
    Element-after (Element.lone_key alone front some next) =
        Element.lone_key alone (KeyFront-after front) some next
    Element-after (Element.dropped_blanks i) = Element.dropped_blanks (Indentation-after i)
    Element-after (Element.dropped_key runs i begins stops) =
        Element.dropped_key runs (Indentation-after i) begins stops

    ElementStops-after : {b s r : List ℕ} {kind : ParseKind} → ElementStops o b s r kind
        → ElementStops o (W ++ b) s r kind
    ElementStops-after (ElementStops.in_header off stops) = ElementStops.in_header off stops
    ElementStops-after (ElementStops.in_bracketed_header on stops) =
        ElementStops.in_bracketed_header on stops
    ElementStops-after (ElementStops.no_header_end on str none) = ElementStops.no_header_end on str none
    ElementStops-after (ElementStops.in_key begins stops) = ElementStops.in_key begins stops
    ElementStops-after (ElementStops.in_indented_key i begins stops n) =
        ElementStops.in_indented_key (Indentation-after i) begins stops n
    ElementStops-after (ElementStops.no_key front sep) = ElementStops.no_key (KeyFront-after front) sep
    ElementStops-after (ElementStops.no_lone_key alone front end) =
        ElementStops.no_lone_key alone (KeyFront-after front) end
    ElementStops-after (ElementStops.no_last_key alone front) =
        ElementStops.no_last_key alone (KeyFront-after front)
    ElementStops-after (ElementStops.no_separator refuses front end) =
        ElementStops.no_separator refuses (KeyFront-after front) end
    ElementStops-after (ElementStops.in_value front some sep stops) =
        ElementStops.in_value (KeyFront-after front) some sep stops
    ElementStops-after {b} (ElementStops.late_comment mark late within) =
        ElementStops.late_comment mark (is_column_one-after b ∙ late) (may_have_note-after o b ∙ within)

    pub Reads-after : {Y b c : List ℕ} {items : List Given} → Reads o Y b items c
        → Reads o (W ++ Y) (W ++ b) items (W ++ c)
    Reads-after {b = b} (Reads.stay r h) = Reads.stay r (whole-after W b r h)
    Reads-after {Y} {b} {c} (Reads.step {s = s} {r = r} {items = items} h e reads) =
        let rest : Reads o (W ++ Y) ((W ++ b) ++ s) items (W ++ c) =
        subst (λ x. Reads o (W ++ Y) x items (W ++ c)) (sym (append_assoc W b s)) (Reads-after reads) in
        Reads.step (whole-after W b (s ++ r) h) (Element-after e) rest

    -- after the items of W
    Reads-then : {Y c : List ℕ} {before items : List Given} → Reads o (W ++ Y) [] before W
        → Reads o Y [] items c → Reads o (W ++ Y) [] (before ++ items) (W ++ c)
    Reads-then {Y} {c} {items = items} first reads =
        reads-append first
        (subst (λ x. Reads o (W ++ Y) x items (W ++ c)) (append-nil W) (Reads-after reads))

    Stops-after : {Y f : List ℕ} {kind : ParseKind} {before : List Given} → Reads o (W ++ Y) [] before W
        → Stops o Y kind f → Stops o (W ++ Y) kind (W ++ f)
    Stops-after {Y} {kind = kind} first (Stops.stops {b} {s} {r} reads h e) =
        subst (Stops o (W ++ Y) kind) (append_assoc W b s)
        (Stops.stops (Reads-then first reads) (whole-after W b (s ++ r) h) (ElementStops-after e))

-- a line begun anew
last_line-after : (W f : List ℕ) → is_column_one W ≡ true → last_line (W ++ f) ≡ last_line f
last_line-after [] f one = refl
last_line-after (c ∷ W) f one = at W f one (last_line-after W f)
  where
    some_line_feed : (d : ℕ) (W f : List ℕ) → is_line_feed (last_or d W) ≡ true
        → list_any is_line_feed (d ∷ (W ++ f)) ≡ true
    some_line_feed d [] f h = or_left (is_line_feed d) (list_any is_line_feed f) h
    some_line_feed d (x ∷ W) f h =
        or_right (is_line_feed d) (list_any is_line_feed (x ∷ (W ++ f))) (some_line_feed x W f h)

    at : (W f : List ℕ) → is_line_feed (last_or c W) ≡ true
        → (is_column_one W ≡ true → last_line (W ++ f) ≡ last_line f)
        → last_line (c ∷ (W ++ f)) ≡ last_line f
    at [] f h more =
        cond-true (list_any is_line_feed (c ∷ f)) (last_line f) (c ∷ f) (some_line_feed c [] f h)
    at (x ∷ W) f h more =
        cond-true (list_any is_line_feed (c ∷ (x ∷ (W ++ f)))) (last_line (x ∷ (W ++ f)))
        (c ∷ (x ∷ (W ++ f))) (some_line_feed c (x ∷ W) f h) ∙ more h

pub line_of-after : (W f : List ℕ) → line_of (W ++ f) ≡ line_of f + count_by is_line_feed W
line_of-after W f =
    ap (λ n. 1 + n) (sum_by-append (λ x. cond (is_line_feed x) 1 0) W f) ∙ omega arith

pub column_of-after : (W f : List ℕ) → is_column_one W ≡ true → column_of (W ++ f) ≡ column_of f
column_of-after W f one = ap (λ l. 1 + length l) (last_line-after W f one)

-- where reading stops after a front
pub StopsAfter-after : {o : ParseOption} {Y b : List ℕ} {kind : ParseKind} {line column : ℕ} (W : List ℕ)
    → is_column_one W ≡ true → StopsPast o Y b kind line column
    → StopsPast o (W ++ Y) (W ++ b) kind (line + count_by is_line_feed W) column
StopsAfter-after W one stop =
    let f = stop.front ++ stop.source in
    record {
      front = W ++ stop.front;
      source = stop.source;
      rest = stop.rest;
      reads = Reads-after W one stop.reads;
      whole = whole-after W stop.front (stop.source ++ stop.rest) stop.whole;
      stops = ElementStops-after W one stop.stops;
      line_is =
          ap (λ n. n + count_by is_line_feed W) stop.line_is ∙ sym (line_of-after W f)
          ∙ ap line_of (sym (append_assoc W stop.front stop.source));
      column_is =
          stop.column_is ∙ sym (column_of-after W f one)
          ∙ ap column_of (sym (append_assoc W stop.front stop.source));
    }

pub moved : (o : ParseOption) (W Y : List ℕ) (before : List Given) → is_column_one W ≡ true
    → Reads o (W ++ Y) [] before W → IsMoved o W Y before
moved o W Y before one first = record {
  derives = Reads-then W one first;
  stops = Stops-after W one first;
  line = line_of-after W;
  column = λ f. column_of-after W f one;
}

-- A text that begins with an opening bracket begins with a header.
begins_bracket : (test : ℕ → Bool) (w x y : List ℕ) → BeginsWith test w → w ++ x ≡ open_bracket ∷ y
    → test open_bracket ≡ true
begins_bracket test [] x y h e = absurd (false≢true (sym h))
begins_bracket test (c ∷ w) x y h e = let same : c ≡ open_bracket = cc in subst (λ z. test z ≡ true) same h

-- so does none of these begin
no_blank : {b w : List ℕ} (x y : List ℕ) → Indentation b w → w ++ x ≡ open_bracket ∷ y → ⊥
no_blank {w = w} x y i e = false≢true (begins_bracket is_blank w x y i.some e)

module _ {o : ParseOption} where
  no_key : {b k r key : List ℕ} (y : List ℕ) → KeyFront o b k r key → k ++ r ≡ open_bracket ∷ y → ⊥
  no_key {r = r} y (KeyFront.unindented {s} begins str) e =
      false≢true (begins_bracket begins_key (s ++ r) [] y begins (append-nil (s ++ r) ∙ e))
  no_key {r = r} y (KeyFront.indented {w} {s} i begins str) e =
      no_blank (s ++ r) y i (sym (append_assoc w s r) ∙ e)

  header_element : {b s r : List ℕ} {gives : List Given} (y : List ℕ) (more : List Given)
      → Element o b s r gives → s ++ r ≡ open_bracket ∷ y → BeginsWithHeader (gives ++ more)
  header_element {r = r} y more (Element.gap (Gap.blank_line {w = w} c i h)) e =
      absurd (no_blank (c ∷ r) y i (sym (append_assoc w (c ∷ []) r) ∙ e))
  header_element {r = r} y more (Element.gap (Gap.before_header i)) e = absurd (no_blank r y i e)
  header_element {r = r} y more (Element.gap (Gap.white {c = c} h n)) e =
      absurd (false≢true (begins_bracket is_whitespace (c ∷ []) r y h e))
  header_element {r = r} y more (Element.comment {m} s at mark all) e =
      absurd (false≢true (begins_bracket is_comment_mark (m ∷ []) _ y mark e))
  header_element {r = r} y more (Element.last_comment {m} at mark all) e =
      absurd (false≢true (begins_bracket is_comment_mark (m ∷ []) _ y mark e))
  header_element {r = r} y more (Element.indented_comment {w} {s} on i noted) e =
      absurd (no_blank (s ++ r) y i (sym (append_assoc w s r) ∙ e))
  header_element {r = r} y more (Element.note may late (Note.note {m} mark all closes)) e =
      absurd (false≢true (begins_bracket is_comment_mark (m ∷ []) _ y mark e))
  header_element y more (Element.header off str) e = tt
  header_element y more (Element.bracketed_header on str i) e = tt
  header_element {r = r} y more (Element.pair {k} {s} {m = m} front some sep value) e =
      absurd (no_key y front (sym (append_assoc k (m ∷ s) r) ∙ e))
  header_element y more (Element.lone_key alone front some next) e = absurd (no_key y front e)
  header_element {r = r} y more (Element.dropped_blanks i) e = absurd (no_blank r y i e)
  header_element {r = r} y more (Element.dropped_key {w} {s} runs i begins stops) e =
      absurd (no_blank (s ++ r) y i (sym (append_assoc w s r) ∙ e))

  nothing_empty : {b s r : List ℕ} {gives : List Given} → Element o b s r gives → [] ≡ s ++ r → ⊥
  nothing_empty {s = s} {r} x e = omega (arith, element-some x, length-append s r, ap length e)

  first_header : {Y c : List ℕ} {items : List Given} → IsEmptyOrHeader Y → Reads o Y [] items c
      → BeginsWithHeader items
  first_header h (Reads.stay r e) = tt
  first_header {Y} h (Reads.step {items = items} e x reads) = at Y h e x
    where
      at : (Y : List ℕ) {s r : List ℕ} {gives : List Given} → IsEmptyOrHeader Y → Y ≡ s ++ r
          → Element o [] s r gives → BeginsWithHeader (gives ++ items)
      at [] h e x = absurd (nothing_empty x e)
      at (c ∷ Y) h e x =
          header_element Y items x
          (sym e ∙ ap (λ z. z ∷ Y) (eqb-true c open_bracket (not-false (eqb c open_bracket) h)))

pub header_first : (o : ParseOption) (Y : List ℕ) (items : List Given) → IsEmptyOrHeader Y
    → Derives o Y items → BeginsWithHeader items
header_first o Y items h d = first_header h d
