-- From one element to the next, up to an item.
use Rattle.std.proofs.Common.{◌≡◌, ◌<◌, ◌≤◌, ℕ, List, [], ◌∷◌, ◌++◌, length, sym, ap, ◌∙◌, append_assoc}
use Rattle.std.proofs.Common.{append-nil, subst, subst₂, chars, arith, length-append}
use Rattle.ini_text.specs.Grammar.CharacterKinds.{is_blank}
use Rattle.ini_text.specs.Grammar.Elements.{Given, Gap, Element, ElementStops}
use Rattle.ini_text.specs.Grammar.Lines.{Note}
use Rattle.ini_text.specs.Parsing.Fronts.{front_of, IsRest}
use Rattle.ini_text.specs.Parsing.Parser.{memory, parse, Refuses, TellsRefusal, refusal_of, StopsPast}
use Rattle.ini_text.specs.Inside.ItemSearch.{StopIsWithin}
use Rattle.ini_text.specs.Errors.Messages.{HasMessage}
use Rattle.ini_text.specs.declared.error.ParseKind.{ParseKind}
use Rattle.ini_text.specs.Grammar.Positions.{line_of, column_of}
use Rattle.ini_text.specs.Inside.ElementReader.{element}
use Rattle.ini_text.specs.Inside.Reading.{found, stopped, StopsBy}
use Rattle.ini_text.specs.Grammar.Texts.{Reads}
use Rattle.ini_text.specs.declared.error.Error.{Error}
use Rattle.ini_text.specs.declared.error.Error.TheVariants as errors
use Rattle.ini_text.specs.declared.option.ParseOption.{ParseOption}
use Rattle.ini_text.specs.declared.parser.fault.Stop.{Stop}
use Rattle.ini_text.specs.declared.parser.fault.Stop.TheVariants as stops
use Rattle.ini_text.proofs.StringLemmas.FrontLemmas.{front_grows}
use Rattle.ini_text.proofs.ReaderLemmas.ElementReaderLemmas.{element-says}
use Rattle.ini_text.proofs.ReaderLemmas.KeyReaderLemmas.{KeyFront-some}
use Rattle.ini_text.proofs.ReaderLemmas.RunReaderLemmas.{BeginsWith-some}

-- two rows of elements joined
pub reads-append : {o : ParseOption} {T b c d : List ℕ} {xs ys : List Given} → Reads o T b xs c
    → Reads o T c ys d → Reads o T b (xs ++ ys) d
reads-append (Reads.stay r e) more = more
reads-append {o} {T} {d = d} {ys = ys}
    (Reads.step {b = b} {s = s} {r = r} {c = c} {gives = gives} {items = items} e x rest) more =
    subst (λ l. Reads o T b l d) (sym (append_assoc gives items ys))
    (Reads.step e x (reads-append rest more))

gap-some : {b s r : List ℕ} → Gap b s r → 1 ≤ length s
gap-some (Gap.blank_line {w = w} c i ends) = omega (arith, length-append w (c ∷ []))
gap-some (Gap.before_header {w = w} i) = BeginsWith-some is_blank w i.some
gap-some (Gap.white is inside) = omega arith

-- an element isn't empty
pub element-some : {o : ParseOption} {b s r : List ℕ} {gives : List Given} → Element o b s r gives
    → 1 ≤ length s
element-some (Element.gap g) = gap-some g
element-some (Element.comment s one marks all) = omega arith
element-some (Element.last_comment one marks all) = omega arith
element-some (Element.indented_comment {w = w} {s = s} on i noted) =
    omega (arith, length-append w s, BeginsWith-some is_blank w i.some)
element-some (Element.note may late (Note.note mark all closes)) = omega arith
element-some (Element.header off str) = omega arith
element-some (Element.bracketed_header on str i) = omega arith
element-some (Element.pair {k = k} {s = s} {m = m} front some separates value) =
    omega (arith, length-append k (m ∷ s))
element-some (Element.lone_key alone front some next) = KeyFront-some front some
element-some (Element.dropped_blanks {w = w} i) = BeginsWith-some is_blank w i.some
element-some (Element.dropped_key {w = w} {s = s} runs i begins str) =
    omega (arith, length-append w s, BeginsWith-some is_blank w i.some)

-- after the rest of a text, an element moves the parser on
pub record Moved (o : ParseOption) (T b rest after : List ℕ) (gives : List Given) : Type 0 where
  pub reads : Reads o T b gives (front_of T after)
  pub within : IsRest T after
  pub shorter : length after < length rest
  pub longer : length (front_of T rest) < length (front_of T after)

pub moved : {o : ParseOption} {T b rest front after cs : List ℕ} {c : ℕ} {gives items : List Given}
    → IsRest T rest → Reads o T b [] (front_of T rest) → rest ≡ c ∷ cs
    → front ≡ front_of T rest → gives ≡ items → element o front rest ≡ found gives after
    → Moved o T b rest after items
moved {o} {T} {b} {rest} {after = after} {items = items} within reads is at same read =
    let c = front_of T rest in let (s, holds, whole) =
    element-says o c is (subst₂ (λ f g. element o f rest ≡ found g after) at same read) in
    let grown = front_grows T rest s after within (sym whole) in
    let some : 1 ≤ length s = element-some holds in
    let all : T ≡ c ++ (s ++ after) = sym (ap (λ x. c ++ x) whole ∙ within) in
    let one : Reads o T c items (c ++ s) =
    subst (λ x. Reads o T c x (c ++ s)) (append-nil items)
    (Reads.step all holds (Reads.stay after (all ∙ sym (append_assoc c s after)))) in
    record {
      reads = subst (Reads o T b items) (sym grown.0) (reads-append reads one);
      within = grown.1;
      shorter = omega (arith, length-append s after, ap length whole);
      longer = omega (arith, length-append c s, ap length grown.0);
    }

-- what tells a refusal is right, where the refusal is
module _ (o : ParseOption) (T b : List ℕ) where
  tells_memory : (e : Error) → TellsRefusal memory e → Refuses o T b e
  tells_memory (errors.Memory x) t = tt
  tells_memory (errors.Io x) t = absurd t
  tells_memory (errors.Parse x) t = absurd t
  tells_memory errors.NotUtf8 t = absurd t
  tells_memory errors.NoProgress t = absurd t

  tells_parse : {kind : ParseKind} {line column : ℕ} (message : List ℕ)
      → StopsPast o T b kind line column → HasMessage kind message → (e : Error)
      → TellsRefusal (parse kind line column message) e → Refuses o T b e
  tells_parse message stop m (errors.Memory x) t = absurd t
  tells_parse message stop m (errors.Io x) t = absurd t
  tells_parse message stop m (errors.Parse x) (kind, line, column, text) = (
    record {
      front = stop.front;
      source = stop.source;
      rest = stop.rest;
      reads = stop.reads;
      whole = stop.whole;
      stops = subst (ElementStops o stop.front stop.source stop.rest) (sym kind) stop.stops;
      line_is = line ∙ stop.line_is;
      column_is = column ∙ stop.column_is;
    },
    subst₂ HasMessage (sym kind) (sym text) m,
  )
  tells_parse message stop m errors.NotUtf8 t = absurd t
  tells_parse message stop m errors.NoProgress t = absurd t

  -- reading stops in an element
  pub refuses : (rest : List ℕ) {front cs : List ℕ} {c : ℕ} (stop : Stop) → IsRest T rest
      → Reads o T b [] (front_of T rest) → rest ≡ c ∷ cs → front ≡ front_of T rest
      → StopsBy (element o front rest) stop
      → StopIsWithin T stop × ((e : Error) → TellsRefusal (refusal_of T stop) e → Refuses o T b e)
  refuses rest stops.Memory within reads is at read = (tt, tells_memory)
  refuses rest (stops.Fault fault) within reads is at read =
      let c = front_of T rest in
      let (s, holds, whole) =
      element-says o c
      is (subst (λ f. element o f rest ≡ stopped (chars fault.rest.now) fault.kind) at read) in
      let grown = front_grows T rest s (chars fault.rest.now) within (sym whole) in (
        grown.1,
        tells_parse fault.message.now (record {
          front = c;
          source = s;
          rest = chars fault.rest.now;
          reads = reads;
          whole = sym (ap (λ x. c ++ x) whole ∙ within);
          stops = holds;
          line_is = ap line_of grown.0;
          column_is = ap column_of grown.0;
        }) fault.is_of_kind,
      )
