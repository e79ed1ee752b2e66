-- The walk over a text's elements and their warnings.
use Rattle.std.proofs.Common.{◌≡◌, ◌∙◌, ◌<◌, ◌-◌, List, [], ◌++◌, length, ap, sym, subst, refl, Option}
use Rattle.std.proofs.Common.{None, Some, Result, Ok, Err, arith, append_assoc, append-nil, length-append}
use Rattle.std.proofs.Common.{chars, MatchOption}
use Rattle.std.specs.Cow.{cow_str_bytes}
use Rattle.ini_text.specs.Errors.Messages.{HasMessage}
use Rattle.ini_text.specs.Grammar.Elements.{Given}
use Rattle.ini_text.specs.Grammar.Texts.{Reads, Stops}
use Rattle.ini_text.specs.Parsing.Parser.{Place}
use Rattle.ini_text.specs.Parsing.Places.{AnswersElement, StandsBetween, StopsAfter, gives}
use Rattle.ini_text.specs.declared.error.Error.{Error}
use Rattle.ini_text.specs.declared.error.Error.TheVariants.{Parse}
use Rattle.ini_text.specs.declared.error.ParseError.{ParseError}
use Rattle.ini_text.specs.declared.option.ParseOption.{ParseOption}
use Rattle.ini_text.specs.declared.parser.placed.PlacedElement.{PlacedElement}
use Rattle.ini_text.proofs.GrammarLemmas.ItemLemmas.{reads-append}
use Rattle.ini.specs.Texts.{Text}
use Rattle.ini.specs.Loading.{IfParse, IsStopOf}
use Rattle.ini_check.specs.Inside.Positions.{IsAt}
use Rattle.ini_check.specs.Inside.Walks.{IsPastLast, IsReading, StandsWithin, Steps}
use Rattle.ini_check.specs.Warnings.{Adds, AreWarningsOf, ElementWarns, Warns, known, seen_after, seen_none}
use Rattle.ini_check.specs.declared.position.Position.{Position}
use Rattle.ini_check.specs.declared.seen.Seen.{Seen}
use Rattle.ini_check.specs.declared.warning.Warning.{Warning}

-- where reading stops after what was read
stops_after : {o : ParseOption} {T b : Text} {items : List Given} (e : ParseError) → Reads o T [] items b
    → StopsAfter o T b e.kind e.line e.col → HasMessage e.kind (cow_str_bytes e.msg) → IsStopOf o T e
stops_after {b = b} e reads stop message = record {
  front = b ++ stop.source;
  stops = Stops.stops reads stop.whole stop.stops;
  line = stop.line_is;
  column = stop.column_is;
  message = message;
}

pub step_stops : {o : ParseOption} {T b : Text} {items : List Given} (c : Text)
    (answer : Result (Option PlacedElement) Error) → Reads o T [] items b → AnswersElement o T b c answer
    → IfParse answer (IsStopOf o T)
step_stops c (Ok found) reads h = tt
step_stops c (Err (Parse e)) reads h = stops_after e reads h.0 h.1
step_stops c (Err _) reads h = tt

-- what was checked: elements reach where the parser stands, and these are their warnings
pub record Checks (o : ParseOption) (T : Text) (p : Place) (m : Position) (seen : Seen) (ws : List Warning)
    : Type 0 where
  pub is_reading : IsReading o T p
  pub items : List Given
  pub reads : Reads o T [] items p.front
  pub at : IsAt p.front m
  pub warns : Warns o T p.front seen ws

module _ {o : ParseOption} {T : Text} where
  -- what was said of the parser's text and options
  pub told : {p : Place} (F : ParseOption → Text → Type 0) → IsReading o T p → F p.option p.text → F o T
  told {p} F is h = subst (λ x. F x T) is.option (subst (F p.option) is.text h)

  module _ {p q : Place} {found : Option PlacedElement} (is : IsReading o T p)
      (h : MatchOption found (IsPastLast p.option p.text p.front q) (Steps p.option p.text p.front q)) where
    pub step_some : {e : PlacedElement} → found ≡ Some e → Steps o T p.front q e
    step_some {e} same = told (λ o T. Steps o T p.front q e) is
        (subst (λ x. MatchOption x (IsPastLast p.option p.text p.front q)
        (Steps p.option p.text p.front q)) same h)

    pub step_none : found ≡ None → IsPastLast o T p.front q
    step_none same = told (λ o T. IsPastLast o T p.front q) is
        (subst (λ x. MatchOption x (IsPastLast p.option p.text p.front q)
        (Steps p.option p.text p.front q)) same h)

  pub stands_read : {b c : Text} {e : PlacedElement} → StandsBetween o T b c e
      → Reads o T b (gives e.content) c
  stands_read {b} {e = e} stands =
      let source = chars e.source.now in
      subst (Reads o T b (gives e.content)) (sym stands.reaches)
      (subst (λ l. Reads o T b l (b ++ source)) (append-nil (gives e.content))
      (Reads.step stands.whole stands.is_element
      (Reads.stay stands.rest (stands.whole ∙ sym (append_assoc b source stands.rest)))))

  -- what was read up to where the parser stands
  pub reads_within : {p : Place} {items : List Given} → IsReading o T p → Reads o T [] items p.front
      → StandsWithin p
  reads_within {p} {items} is reads = record {
    refusal = is.refusal;
    items = items;
    reads =
        subst (λ x. Reads x p.text [] items p.front) (sym is.option)
        (subst (λ x. Reads o x [] items p.front) (sym is.text) reads);
  }

  module _ {b : Text} {q : Place} {e : PlacedElement} (s : Steps o T b q e) where
    pub step_reads : Reads o T b (gives e.content) q.front
    step_reads = stands_read s.stands

    pub step_nearer : length T - length q.front < length T - length b
    step_nearer =
        let stands = s.stands in
        let source = chars e.source.now in
        omega (
          arith,
          stands.longer,
          ap length stands.whole,
          ap length stands.reaches,
          length-append b source,
          length-append b (source ++ stands.rest),
          length-append source stands.rest,
        )

  module _ {p : Place} {m : Position} {seen : Seen} {ws : List Warning} (s : Checks o T p m seen ws) where
    pub checks_within : StandsWithin p
    checks_within = reads_within s.is_reading s.reads

    pub checks_end : {q : Place} → IsPastLast o T p.front q → AreWarningsOf o T ws
    checks_end h = record {
      seen = seen;
      warns = subst (λ c. Warns o T c seen ws) h.was_end s.warns;
    }

    pub checks_step : {q : Place} {e : PlacedElement} {n : Position} {new : List Warning} {next : Seen}
        → Steps o T p.front q e
        → Adds (ElementWarns o p.front (known seen e.content) (chars e.source.now) e.content) ws new
        → next ≡ seen_after seen (chars e.source.now) e.content
        → IsAt (p.front ++ chars e.source.now) n → Checks o T q n next new
    checks_step {q} {e} {n} {new} {next} t adds seen_is at = record {
      is_reading = t.is_reading;
      items = s.items ++ gives e.content;
      reads = reads-append s.reads (step_reads t);
      at = subst (λ c. IsAt c n) (sym t.stands.reaches) at;
      warns =
          subst (Warns o T q.front next) (sym adds.added)
          (subst (λ x. Warns o T q.front x (ws ++ adds.more)) (sym seen_is)
          (Warns.following e adds.more s.warns t.stands adds.holds));
    }

-- before the first element
pub checks_start : {o : ParseOption} {T : Text} {p : Place} {m : Position} {seen : Seen}
    {ws : List Warning} → p.option ≡ o → p.text ≡ T → p.front ≡ [] → p.refusal ≡ None → IsAt [] m
    → seen ≡ seen_none → ws ≡ []
    → Checks o T p m seen ws
checks_start {o} {T} {p} {m} {seen} {ws} option text front refusal at no_elements no_ws = record {
  is_reading = record { option = option; text = text; refusal = refusal };
  items = [];
  reads = subst (Reads o T [] []) (sym front) (Reads.stay T refl);
  at = subst (λ c. IsAt c m) (sym front) at;
  warns =
      subst (λ c. Warns o T c seen ws) (sym front)
      (subst (λ x. Warns o T [] x ws) (sym no_elements)
      (subst (λ x. Warns o T [] seen_none x) (sym no_ws) Warns.front));
}
