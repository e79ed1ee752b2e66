-- Items that are read one after another, and the document that they make.
use Rattle.std.proofs.Common.{◌≡◌, ◌∙◌, ◌<◌, ◌≤◌, ◌-◌, List, [], ◌∷◌, ◌++◌, length, ap, sym, subst, refl}
use Rattle.std.proofs.Common.{Option, None, Some, Result, Ok, Err, arith, add-zero, append_assoc, append-nil}
use Rattle.std.proofs.Common.{length-append, ℕ, IsUtf8, chars}
use Rattle.std.proofs.lemmas.Str.{encodes-chars}
use lib.Utf8.{encodes}
use Rattle.std.proofs.lemmas.Grind.{fold-append}
use Rattle.std.specs.Cow.{cow_str_bytes}
use Rattle.ini_text.specs.Grammar.Elements.{Element, Given, Header, Pair}
use Rattle.ini_text.specs.Parsing.Fronts.{front_of, IsRest}
use Rattle.ini_text.specs.Parsing.Items.{item_of}
use Rattle.ini_text.specs.Parsing.Trivia.{AreTrivia, IsTrivia, SkipsTrivia}
use Rattle.ini_text.specs.Errors.Messages.{HasMessage}
use Rattle.ini_text.specs.Parsing.Parser.{AnswersItem, KeepsRefusal, Place, Refuses, StopsPast}
use Rattle.ini_text.specs.Grammar.Texts.{Reads, Stops}
use Rattle.ini_text.specs.declared.error.Error.{Error}
use Rattle.ini_text.specs.declared.error.Error.TheVariants.{Parse}
use Rattle.ini_text.specs.declared.error.ParseError.{ParseError}
use Rattle.ini_text.specs.declared.item.Item.{Item}
use Rattle.ini_text.specs.declared.option.ParseOption.{ParseOption}
use Rattle.ini_text.proofs.LawLemmas.ExportedLemmas.{Reads-before, front_is}
use Rattle.ini_text.proofs.PlainLemmas.PlainLineLemmas.{line_end_gap}
use Rattle.ini.specs.Texts.{Text}
use Rattle.ini.specs.Documents.{Document, with_item, with_pair}
use Rattle.ini.specs.Loading.{IfParse, IsStopOf}
use Rattle.ini.specs.Inside.StreamLoader.{Makes, Settles, StopsLater, with_items}

module _ {o : ParseOption} {T : Text} where
  -- two rows of elements joined
  pub Reads-append : {b c d : Text} {xs ys : List Given} → Reads o T b xs c → Reads o T c ys d
      → Reads o T b (xs ++ ys) d
  Reads-append (Reads.stay r e) more = more
  Reads-append {d = d} {ys = ys} (Reads.step {b = b} {gives = gives} {items = items} e x rest) more =
      subst (λ l. Reads o T b l d) (sym (append_assoc gives items ys))
      (Reads.step e x (Reads-append rest more))

  -- what is read is a front of the text
  pub Reads-within : {b c : Text} {items : List Given} → Reads o T b items c → length c ≤ length T
  Reads-within (Reads.stay {b = b} r e) = omega (arith, ap length e, length-append b r)
  Reads-within (Reads.step e x rest) = Reads-within rest

  -- where reading stops after what was read
  pub IsStopOf-after : {b : Text} {items : List Given} (e : ParseError) → Reads o T [] items b
      → StopsPast o T b e.kind e.line e.col → HasMessage e.kind (cow_str_bytes e.msg) → IsStopOf o T e
  IsStopOf-after e reads stop message = record {
    front = stop.front ++ stop.source;
    stops = Stops.stops (Reads-append reads stop.reads) stop.whole stop.stops;
    line = stop.line_is;
    column = stop.column_is;
    message = message;
  }

-- where reading stops that began at the front of the text
pub IsStopOf-first : (o : ParseOption) (T : Text) {b : Text} (e : Error) → b ≡ []
    → IfParse {X = Document} (Err e) (StopsLater o T b 0) → IfParse {X = Document} (Err e) (IsStopOf o T)
IsStopOf-first o T (Parse e) first stops =
    let stop : StopsPast o T stops.front e.kind e.line e.col =
    rw (stops.moved, add-zero stops.line) stops.stop in
    IsStopOf-after e (subst (λ x. Reads o T x stops.items stops.front) first stops.reads) stop stops.message
IsStopOf-first o T _ first stops = tt

-- a text of some bytes has characters
pub chars-some : (bytes : List ℕ) → IsUtf8 bytes → 0 < length bytes → 0 < length (chars bytes)
chars-some bytes utf8 some = at (chars bytes) refl
  where
    at : (cs : List ℕ) → chars bytes ≡ cs → 0 < length cs
    at [] is = absurd (omega (arith, some, ap length (sym (encodes-chars bytes utf8) ∙ ap encodes is)))
    at (c ∷ cs) is = omega arith

-- one item more, and more of them
with_items-push : (d : Document) (items : List Given) (item : Given)
    → with_items d (items ++ item ∷ []) ≡ with_item (with_items d items) item
with_items-push d items item = fold-append with_item d items (item ∷ [])

pub with_items-append : (d : Document) (xs ys : List Given)
    → with_items d (xs ++ ys) ≡ with_items (with_items d xs) ys
with_items-append d xs ys = fold-append with_item d xs ys

length-with_pair : (key value : Text) (d : Document) → length (with_pair key value d) ≡ length d
length-with_pair key value [] = refl
length-with_pair key value (s ∷ []) = refl
length-with_pair key value (s ∷ t ∷ d) = omega (arith, length-with_pair key value (t ∷ d))

-- a document with further items has a section
pub with_item-some : (d : Document) (item : Given) → 0 < length d → 0 < length (with_item d item)
with_item-some d (Header name) h = omega (arith, length-append d ((Some name, []) ∷ []))
with_item-some d (Pair key value) h = omega (arith, length-with_pair key value d)

pub with_items-some : (d : Document) (items : List Given) → 0 < length d → 0 < length (with_items d items)
with_items-some d [] h = h
with_items-some d (item ∷ items) h = with_items-some (with_item d item) items (with_item-some d item h)

-- the parser reads the text by the options, and has refused nothing
pub record IsReading (o : ParseOption) (T : Text) (p : Place) : Type 0 where
  pub option : p.option ≡ o
  pub text : p.text ≡ T
  pub refusal : p.refusal ≡ None

-- after the front b the parser has read items that make the document d to e
pub record Loaded (o : ParseOption) (T b : Text) (p : Place) (d e : Document) : Type 0 where
  pub reading : IsReading o T p
  pub made : Makes o T b p.front d e
  pub some : 0 < length e

pub Loaded-starts : {o : ParseOption} {T b : Text} {p : Place} {d : Document} (r : Text) → b ++ r ≡ T
    → IsReading o T p → p.front ≡ b → 0 < length d → Loaded o T b p d d
Loaded-starts {o} {T} {b} r whole reading front some = record {
  reading = reading;
  made = record {
    items = [];
    reads = subst (Reads o T b []) (sym front) (Reads.stay r (sym whole));
    document = refl;
  };
  some = some;
}

-- the parser stands before what is left, up to which the items are settled
pub record Settling (o : ParseOption) (T rest left : Text) (p : Place) (d e : Document) : Type 0 where
  pub reading : IsReading o T p
  pub front : p.front ≡ front_of T left
  pub settles : Settles o T rest left d e
  pub some : 0 < length e

pub Settling-starts : {o : ParseOption} {T rest : Text} {p : Place} {d : Document} → IsRest T rest
    → IsReading o T p → p.front ≡ front_of T rest → 0 < length d → Settling o T rest rest p d d
Settling-starts {o} {T} {rest} whole reading front some = record {
  reading = reading;
  front = front;
  settles = record {
    items = [];
    reads = λ more.
        Reads.stay (rest ++ more)
        (ap (λ t. t ++ more) (sym whole) ∙ append_assoc (front_of T rest) rest more);
    document = refl;
    is_rest = whole;
  };
  some = some;
}

-- one call of the parser, from the place p to the place q
module _ {o : ParseOption} {T : Text} {p : Place} (reading : IsReading o T p) (q : Place)
    (answer : Result (Option Item) Error)
    (answers : p.refusal ≡ None → AnswersItem p.option p.text p.front q.front answer) where
  answered : (r : Result (Option Item) Error) → answer ≡ r → AnswersItem o T p.front q.front r
  answered r is =
      subst (AnswersItem o T p.front q.front) is
      (subst (λ x. AnswersItem x T p.front q.front answer) reading.option
      (subst (λ x. AnswersItem p.option x p.front q.front answer) reading.text (answers reading.refusal)))

  -- an item makes the front longer, within the text
  pub front_grows : {item : Item} → answer ≡ Ok (Some item)
      → length T - length q.front < length T - length p.front
  front_grows {item} is =
      let one = answered (Ok (Some item)) is in
      omega (arith, one.0, Reads-within one.1)

  pub IsReading-goes_on : {found : Option Item} → q.option ≡ p.option → q.text ≡ p.text
      → KeepsRefusal p.refusal q.refusal answer → answer ≡ Ok found → IsReading o T q
  IsReading-goes_on option text refusal is = record {
    option = option ∙ reading.option;
    text = text ∙ reading.text;
    refusal =
        subst (KeepsRefusal None q.refusal)
        is (subst (λ x. KeepsRefusal x q.refusal answer) reading.refusal refusal);
  }

  -- with the item the document is one item longer
  pub Loaded-item : {b : Text} {item : Item} {d e f : Document} → Loaded o T b p d e → IsReading o T q
      → answer ≡ Ok (Some item) → f ≡ with_item e (item_of item) → Loaded o T b q d f
  Loaded-item {item = item} {d} {e} loaded goes_on is with =
      let made = loaded.made in
      record {
        reading = goes_on;
        made = record {
          items = made.items ++ item_of item ∷ [];
          reads = Reads-append made.reads (answered (Ok (Some item)) is).1;
          document =
              with ∙ ap (λ x. with_item x (item_of item)) made.document
              ∙ sym (with_items-push d made.items (item_of item));
        };
        some = subst (λ x. 0 < length x) (sym with) (with_item-some e (item_of item) loaded.some);
      }

  -- at the text's end the document is whole
  pub Loaded-ends : {b : Text} {d e : Document} → Loaded o T b p d e → answer ≡ Ok None → Makes o T b T d e
  Loaded-ends {b} loaded is =
      let made = loaded.made in
      record {
        items = made.items;
        reads =
            subst (λ l. Reads o T b l T) (append-nil made.items)
            (Reads-append made.reads (answered (Ok None) is).1);
        document = made.document;
      }

  -- where the parser refuses the text, reading stops
  pub Loaded-stops : {b : Text} {d e : Document} {fault : Error} → Loaded o T b p d e → answer ≡ Err fault
      → IfParse {X = Document} (Err fault) (StopsLater o T b 0)
  Loaded-stops {b} {fault = fault} loaded is = at fault (answered (Err fault) is)
    where
      at : (e : Error) → Refuses o T p.front e → IfParse {X = Document} (Err e) (StopsLater o T b 0)
      at (Parse e) refuses = record {
        front = p.front;
        items = loaded.made.items;
        line = e.line;
        reads = loaded.made.reads;
        stop = refuses.0;
        moved = omega arith;
        message = refuses.1;
      }
      at _ refuses = tt

  -- an item that something follows is settled
  pub Settling-item : {rest left following : Text} {item : Item} {d e f : Document}
      → Settling o T rest left p d e → IsReading o T q
      → answer ≡ Ok (Some item) → 0 < length following → q.front ++ following ≡ T
      → f ≡ with_item e (item_of item) → Settling o T rest following q d f
  Settling-item {following = []} settling goes_on is some whole with = absurd (omega arith)
  Settling-item {rest} {left} {following = c ∷ r} {item} {d} {e} settling goes_on is some whole with =
      let front : front_of T (c ∷ r) ≡ q.front = front_is q.front (c ∷ r) T whole in
      let settles = settling.settles in
      let one : Reads o (q.front ++ c ∷ r) (front_of T left) (item_of item ∷ []) q.front =
      subst (λ t. Reads o t (front_of T left) (item_of item ∷ []) q.front) (sym whole)
      (subst (λ x. Reads o T x (item_of item ∷ []) q.front) settling.front
      (answered (Ok (Some item)) is).1) in
      record {
        reading = goes_on;
        front = sym front;
        settles = record {
          items = settles.items ++ item_of item ∷ [];
          reads = λ more.
              let longer : T ++ more ≡ q.front ++ c ∷ (r ++ more) =
              ap (λ t. t ++ more) (sym whole) ∙ append_assoc q.front (c ∷ r) more in
              Reads-append (settles.reads more) (rw (front, longer) (Reads-before c r (r ++ more) one));
          document =
              with ∙ ap (λ x. with_item x (item_of item)) settles.document
              ∙ sym (with_items-push d settles.items (item_of item));
          is_rest = ap (λ x. x ++ c ∷ r) front ∙ whole;
        };
        some = subst (λ x. 0 < length x) (sym with) (with_item-some e (item_of item) settling.some);
      }

-- trivia that are skipped are settled
module _ {o : ParseOption} where
  AreTrivia-front : {b c : Text} → AreTrivia o b c → (m : Text) × (b ++ m ≡ c)
  AreTrivia-front {b} AreTrivia.none = ([], append-nil b)
  AreTrivia-front {b} (AreTrivia.more {s = s} t row) =
      let x = AreTrivia-front row in (s ++ x.0, sym (append_assoc b s x.0) ∙ x.1)

  IsTrivia-read : {T b s c : Text} (r : Text) → IsTrivia o b s → T ≡ b ++ (s ++ r) → Reads o T (b ++ s) [] c
      → Reads o T b [] c
  IsTrivia-read r (IsTrivia.element gives) at more = Reads.step at (gives r) more
  IsTrivia-read {T} {b} {c = after} r (IsTrivia.line {s} {c} ends gives) at more =
      let before = at ∙ ap (λ y. b ++ y) (append_assoc s (c ∷ []) r) in
      Reads.step before (gives r)
      (Reads.step (before ∙ sym (append_assoc b s (c ∷ r))) (Element.gap (line_end_gap c ends))
      (subst (λ x. Reads o T x [] after) (sym (append_assoc b s (c ∷ []))) more))

  AreTrivia-read : {T b c : Text} (r : Text) → AreTrivia o b c → T ≡ c ++ r → Reads o T b [] c
  AreTrivia-read r AreTrivia.none whole = Reads.stay r whole
  AreTrivia-read r (AreTrivia.more {b} {s} t row) whole =
      let m = AreTrivia-front row in
      let at =
      whole ∙ ap (λ y. y ++ r) (sym m.1) ∙ append_assoc (b ++ s) m.0 r ∙ append_assoc b s (m.0 ++ r) in
      IsTrivia-read (m.0 ++ r) t at (AreTrivia-read r row whole)

  pub Settles-trivia : {T rest left following : Text} {d e : Document} → Settles o T rest left d e
      → SkipsTrivia o T (front_of T left) (front_of T following) → IsRest T following
      → Settles o T rest following d e
  Settles-trivia {T} {rest} {left} {following} settles skips is_rest = record {
    items = settles.items;
    reads = λ more.
        let whole : T ++ more ≡ front_of T following ++ (skips.rest ++ more) =
        ap (λ t. t ++ more) skips.whole ∙ append_assoc (front_of T following) skips.rest more in
        subst (λ l. Reads o (T ++ more) (front_of T rest) l (front_of T following)) (append-nil settles.items)
        (Reads-append (settles.reads more) (AreTrivia-read (skips.rest ++ more) skips.skipped whole));
    document = settles.document;
    is_rest = is_rest;
  }
