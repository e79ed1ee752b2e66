-- Items that borrow, read one after another, and the document that they make: what `ini`'s ReadingLemmas
-- have of items that own.
use Rattle.std.proofs.Common.{◌≡◌, ◌∙◌, ◌<◌, ◌-◌, [], ◌∷◌, ◌++◌, length, ap, sym, subst, Option, None, Some}
use Rattle.std.proofs.Common.{Result, Ok, Err, arith, append-nil}
use Rattle.std.proofs.lemmas.Grind.{fold-append}
use Rattle.ini_text.specs.Grammar.Texts.{Reads}
use Rattle.ini_text.specs.Parsing.Items.{borrowed_item_of}
use Rattle.ini_text.specs.Parsing.Parser.{AnswersBorrowed, KeepsRefusal, Place, Refuses}
use Rattle.ini_text.specs.declared.error.Error.{Error}
use Rattle.ini_text.specs.declared.error.Error.TheVariants.{Parse}
use Rattle.ini_text.specs.declared.item.BorrowedItem.{BorrowedItem}
use Rattle.ini_text.specs.declared.option.ParseOption.{ParseOption}
use Rattle.ini.specs.Texts.{Text}
use Rattle.ini.specs.Documents.{Document, with_item}
use Rattle.ini.specs.Loading.{IfParse}
use Rattle.ini.specs.Inside.StreamLoader.{Makes, StopsLater}
use Rattle.ini.proofs.ReadingLemmas.{IsReading, Loaded, Reads-append, Reads-within, with_item-some}

-- one call of the parser, from the place p to the place q
module _ {o : ParseOption} {T : Text} {p : Place} (reading : IsReading o T p) (q : Place)
    (answer : Result (Option BorrowedItem) Error)
    (answers : p.refusal ≡ None → AnswersBorrowed p.option p.text p.front q.front answer) where
  answered : (r : Result (Option BorrowedItem) Error) → answer ≡ r → AnswersBorrowed o T p.front q.front r
  answered r is =
      subst (AnswersBorrowed o T p.front q.front) is
      (subst (λ x. AnswersBorrowed x T p.front q.front answer) reading.option
      (subst (λ x. AnswersBorrowed p.option x p.front q.front answer) reading.text (answers reading.refusal)))

  -- an item makes the front longer, within the text
  pub front_grows : {item : BorrowedItem} → answer ≡ Ok (Some item)
      → length T - length q.front < length T - length p.front
  front_grows {item} is =
      let one = answered (Ok (Some item)) is in
      omega (arith, one.0, Reads-within one.1)

  pub goes_on : {found : Option BorrowedItem} → q.option ≡ p.option → q.text ≡ p.text
      → KeepsRefusal p.refusal q.refusal answer → answer ≡ Ok found → IsReading o T q
  goes_on option text refusal is = record {
    option = option ∙ reading.option;
    text = text ∙ reading.text;
    refusal =
        subst (KeepsRefusal None q.refusal)
        is (subst (λ x. KeepsRefusal x q.refusal answer) reading.refusal refusal);
  }

  -- with the item the document is one item longer
  pub one_more : {b : Text} {item : BorrowedItem} {d e f : Document} → Loaded o T b p d e → IsReading o T q
      → answer ≡ Ok (Some item) → f ≡ with_item e (borrowed_item_of item) → Loaded o T b q d f
  one_more {item = item} {d} {e} loaded next is with =
      let made = loaded.made in
      let one = borrowed_item_of item in
      record {
        reading = next;
        made = record {
          items = made.items ++ one ∷ [];
          reads = Reads-append made.reads (answered (Ok (Some item)) is).1;
          document =
              with ∙ ap (λ x. with_item x one) made.document
              ∙ sym (fold-append with_item d made.items (one ∷ []));
        };
        some = subst (λ x. 0 < length x) (sym with) (with_item-some e one loaded.some);
      }

  -- at the text's end the document is whole
  pub ends : {b : Text} {d e : Document} → Loaded o T b p d e → answer ≡ Ok None → Makes o T b T d e
  ends {b} loaded is =
      let made = loaded.made in
      record {
        items = made.items;
        reads =
            subst (λ l. Reads o T b l T) (append-nil made.items)
            (Reads-append made.reads (answered (Ok None) is).1);
        document = made.document;
      }

  -- where the parser refuses the text, reading stops
  pub stops : {b : Text} {d e : Document} {fault : Error} → Loaded o T b p d e → answer ≡ Err fault
      → IfParse {X = Document} (Err fault) (StopsLater o T b 0)
  stops {b} {fault = fault} loaded is = at fault (answered (Err fault) is)
    where
      at : (e : Error) → Refuses o T p.front e → IfParse {X = Document} (Err e) (StopsLater o T b 0)
      at (Parse e) refuses = record {
        front = p.front;
        items = loaded.made.items;
        line = e.line;
        reads = loaded.made.reads;
        stop = refuses.0;
        moved = omega arith;
        message = refuses.1;
      }
      at _ refuses = tt
