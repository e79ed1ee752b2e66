-- Walks over the elements of a text, element by element.
use Rattle.std.proofs.Common.{◌≡◌, ◌∙◌, ◌<◌, ◌-◌, List, [], ◌++◌, length, ap, sym, subst, refl, Option, None}
use Rattle.std.proofs.Common.{Some, Result, Ok, Err, arith, append_assoc, append-nil, length-append, chars}
use Rattle.std.proofs.Common.{MatchOption}
use Rattle.std.specs.Cow.{cow_str_bytes}
use Rattle.ini_text.specs.Errors.Messages.{HasMessage}
use Rattle.ini_text.specs.Grammar.Elements.{Given}
use Rattle.ini_text.specs.Grammar.Texts.{Reads, Stops}
use Rattle.ini_text.specs.Parsing.Parser.{Place}
use Rattle.ini_text.specs.Parsing.Places.{AnswersElement, StopsAfter, gives}
use Rattle.ini_text.specs.declared.error.Error.{Error}
use Rattle.ini_text.specs.declared.error.Error.TheVariants.{Parse}
use Rattle.ini_text.specs.declared.error.ParseError.{ParseError}
use Rattle.ini_text.specs.declared.option.ParseOption.{ParseOption}
use Rattle.ini_text.specs.declared.parser.placed.PlacedElement.{PlacedElement}
use Rattle.ini_text.proofs.GrammarLemmas.ItemLemmas.{reads-append}
use Rattle.ini.specs.Texts.{Text}
use Rattle.ini.specs.Loading.{IfParse, IsStopOf}
use Rattle.ini_edit.specs.Inside.Walks.{IsPastLast, IsReading, ReadsOn, StandsWithin, Steps}

-- where reading stops after what was read
stops_after : {o : ParseOption} {T b : Text} {items : List Given} (e : ParseError) → Reads o T [] items b
    → StopsAfter o T b e.kind e.line e.col → HasMessage e.kind (cow_str_bytes e.msg) → IsStopOf o T e
stops_after {b = b} e reads stop message = record {
  front = b ++ stop.source;
  stops = Stops.stops reads stop.whole stop.stops;
  line = stop.line_is;
  column = stop.column_is;
  message = message;
}

pub step_stops : {o : ParseOption} {T b : Text} {items : List Given} (c : Text)
    (answer : Result (Option PlacedElement) Error) → Reads o T [] items b → AnswersElement o T b c answer
    → IfParse answer (IsStopOf o T)
step_stops c (Ok found) reads h = tt
step_stops c (Err (Parse e)) reads h = stops_after e reads h.0 h.1
step_stops c (Err _) reads h = tt

pub reading : {o : ParseOption} {T : Text} {p : Place} → p.option ≡ o → p.text ≡ T → p.refusal ≡ None
    → IsReading o T p
reading option text refusal = record { option = option; text = text; refusal = refusal }

module _ {o : ParseOption} {T : Text} where
  -- what was said of the parser's text and options
  pub told : {p : Place} (F : ParseOption → Text → Type 0) → IsReading o T p → F p.option p.text → F o T
  told {p} F is h = subst (λ x. F x T) is.option (subst (F p.option) is.text h)

  pub stands_within : {p : Place} {items : List Given} → IsReading o T p → Reads o T [] items p.front
      → StandsWithin p
  stands_within {p} {items} is reads = record {
    refusal = is.refusal;
    items = items;
    reads =
        subst (λ x. Reads x p.text [] items p.front) (sym is.option)
        (subst (λ x. Reads o x [] items p.front) (sym is.text) reads);
  }

  -- what one step gave
  module _ {p q : Place} {found : Option PlacedElement} (is : IsReading o T p)
      (h : MatchOption found (IsPastLast p.option p.text p.front q) (Steps p.option p.text p.front q)) where
    pub step_some : {e : PlacedElement} → found ≡ Some e → Steps o T p.front q e
    step_some {e} same = told (λ o T. Steps o T p.front q e) is
        (subst (λ x. MatchOption x (IsPastLast p.option p.text p.front q) (Steps p.option p.text p.front q))
        same h)

    pub step_none : found ≡ None → IsPastLast o T p.front q
    step_none same = told (λ o T. IsPastLast o T p.front q) is
        (subst (λ x. MatchOption x (IsPastLast p.option p.text p.front q) (Steps p.option p.text p.front q))
        same h)

  module _ {b : Text} {q : Place} {e : PlacedElement} (s : Steps o T b q e) where
    pub step_reads : Reads o T b (gives e.content) q.front
    step_reads =
        let stands = s.stands in
        let source = chars e.source.now in
        subst (Reads o T b (gives e.content)) (sym stands.reaches)
        (subst (λ l. Reads o T b l (b ++ source)) (append-nil (gives e.content))
        (Reads.step stands.whole stands.is_element
        (Reads.stay stands.rest (stands.whole ∙ sym (append_assoc b source stands.rest)))))

    pub step_nearer : length T - length q.front < length T - length b
    step_nearer =
        let stands = s.stands in
        let source = chars e.source.now in
        omega (
          arith,
          stands.longer,
          ap length stands.whole,
          ap length stands.reaches,
          length-append b source,
          length-append b (source ++ stands.rest),
          length-append source stands.rest,
        )

-- The parser reads the text, and elements reach from the front b, and from the text's own, to where it
-- stands.
pub record Walked (o : ParseOption) (T b : Text) (p : Place) : Type 0 where
  pub is_reading : IsReading o T p
  pub first : List Given
  pub items : List Given
  pub to_front : Reads o T [] first b
  pub reads : Reads o T b items p.front

module _ {o : ParseOption} {T b : Text} {p : Place} where
  pub walked_within : Walked o T b p → StandsWithin p
  walked_within w = stands_within w.is_reading (reads-append w.to_front w.reads)

  pub walked_step : {q : Place} {e : PlacedElement} → Walked o T b p → Steps o T p.front q e → Walked o T b q
  walked_step {e = e} w s = record {
    is_reading = s.is_reading;
    first = w.first;
    items = w.items ++ gives e.content;
    to_front = w.to_front;
    reads = reads-append w.reads (step_reads s);
  }

  pub walked_end : {q : Place} → Walked o T b p → IsPastLast o T p.front q → ReadsOn o T b
  walked_end w h = record { items = w.items; reads = subst (Reads o T b w.items) h.was_end w.reads }

-- what stands after elements
pub reads_rest : {o : ParseOption} {T b c : Text} {items : List Given} → Reads o T b items c
    → (r : Text) × (T ≡ c ++ r)
reads_rest (Reads.stay r whole) = (r, whole)
reads_rest (Reads.step whole element reads) = reads_rest reads

-- no element
pub stays : {p : Place} → StandsWithin p → Reads p.option p.text p.front [] p.front
stays s = let rest = reads_rest s.reads in Reads.stay rest.0 rest.1

pub walked_start : {p : Place} → StandsWithin p → Walked p.option p.text p.front p
walked_start {p} s = record {
  is_reading = record { option = refl; text = refl; refusal = s.refusal };
  first = s.items;
  items = [];
  to_front = s.reads;
  reads = stays s;
}

-- what was found, or that nothing was
pub found_none : {X : Type 0} {found : Option X} (none : Type 0) (some : X → Type 0)
    → MatchOption found none some
    → found ≡ None → none
found_none none some h is = subst (λ x. MatchOption x none some) is h

pub found_some : {X : Type 0} {found : Option X} {x : X} (none : Type 0) (some : X → Type 0)
    → MatchOption found none some
    → found ≡ Some x → some x
found_some none some h is = subst (λ x. MatchOption x none some) is h
