-- How a parser looks for its next item.
use Rattle.std.specs.Prelude.{◌≡◌, ℕ, ◌<◌, List, [], ◌∷◌, length, ⊤, chars, Option, Result, IfSome}
use Rattle.std.specs.Prelude.{MatchOption, MatchResult}
use Rattle.std.specs.Borrow.{Bor}
use Rattle.ini_text.specs.Parsing.Fronts.{front_of, IsRest}
use Rattle.ini_text.specs.Parsing.Items.{borrowed_item_of, item_of}
use Rattle.ini_text.specs.Grammar.Elements.{Given}
use Rattle.ini_text.specs.Grammar.Texts.{Reads}
use Rattle.ini_text.specs.declared.error.Error.{Error}
use Rattle.ini_text.specs.declared.item.BorrowedItem.{BorrowedItem}
use Rattle.ini_text.specs.declared.item.Item.{Item}
use Rattle.ini_text.specs.declared.option.ParseOption.{ParseOption}
use Rattle.ini_text.specs.declared.parser.fault.Stop.{Stop}
use Rattle.ini_text.specs.declared.parser.fault.Stop.TheVariants as stops
use Rattle.ini_text.specs.Parsing.Parser.{TellsRefusal, Refuses, refusal_of}

-- the stop is before a rest of the text
abbrev pub StopIsWithin : List ℕ → Stop → Type 0
StopIsWithin T stops.Memory = ⊤
StopIsWithin T (stops.Fault fault) = IsRest T (chars fault.rest.now)

-- the first item of the rest `start` of a text, and what follows it
abbrev pub Finds : {I : Type 0} → (I → Given) → ParseOption → List ℕ → List ℕ
    → Result (Option I × Bor (List ℕ)) Stop → Type 0
Finds view o T start r =
    MatchResult r
    (λ p. IsRest T (chars p.1.now) × MatchOption p.0
    (Reads o T (front_of T start) [] T × (chars p.1.now ≡ []))
    (λ item. (length (front_of T start) < length (front_of T (chars p.1.now)))
    × Reads o T (front_of T start) (view item ∷ []) (front_of T (chars p.1.now))))
    (λ stop. StopIsWithin T stop × ((e : Error) → TellsRefusal (refusal_of T stop) e
    → Refuses o T (front_of T start) e))

abbrev pub FindsItem : ParseOption → List ℕ → List ℕ → Result (Option Item × Bor (List ℕ)) Stop → Type 0
FindsItem o T start r = Finds item_of o T start r

abbrev pub FindsBorrowed : ParseOption → List ℕ → List ℕ → Result (Option BorrowedItem × Bor (List ℕ)) Stop
    → Type 0
FindsBorrowed o T start r = Finds borrowed_item_of o T start r

-- what a parser rests on: what is left is a rest of its text, and its stop stands before one
pub record StandsIn (T rest : List ℕ) (stop : Option Stop) : Type 0 where
  pub left : IsRest T rest
  pub stopped : IfSome stop (StopIsWithin T)
