-- Walks over the elements of a text.
use Rattle.std.specs.Prelude.{◌≡◌, [], List, None}
use Rattle.ini_text.specs.Grammar.Elements.{Given}
use Rattle.ini_text.specs.Grammar.Texts.{Reads}
use Rattle.ini_text.specs.Parsing.Parser.{Place}
use Rattle.ini_text.specs.Parsing.Places.{StandsBetween}
use Rattle.ini_text.specs.declared.option.ParseOption.{ParseOption}
use Rattle.ini_text.specs.declared.parser.placed.PlacedElement.{PlacedElement}
use Rattle.ini.specs.Texts.{Text}

-- the parser has refused nothing, and elements reach where it stands
pub record StandsWithin (p : Place) : Type 0 where
  pub refusal : p.refusal ≡ None
  pub items : List Given
  pub reads : Reads p.option p.text [] items p.front

-- the parser reads the text by the options, and has refused nothing
pub record IsReading (o : ParseOption) (T : Text) (p : Place) : Type 0 where
  pub option : p.option ≡ o
  pub text : p.text ≡ T
  pub refusal : p.refusal ≡ None

-- after the front b stood the element, and now the parser stands after it
pub record Steps (o : ParseOption) (T b : Text) (q : Place) (e : PlacedElement) : Type 0 where
  pub is_reading : IsReading o T q
  pub stands : StandsBetween o T b q.front e

-- no element stood after the front b: it is the text
pub record IsPastLast (o : ParseOption) (T b : Text) (q : Place) : Type 0 where
  pub is_reading : IsReading o T q
  pub was_end : b ≡ T
  pub is_end : q.front ≡ T
