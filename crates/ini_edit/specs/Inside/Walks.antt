-- Walks over the elements of a text: from a front b of the text T to where a parser stands then.
use Rattle.std.specs.Prelude.{◌≡◌, ◌∷◌, [], false, List, Option, None, Some, chars}
use Rattle.ini_text.specs.Grammar.Elements.{Given, Header, Pair}
use Rattle.ini_text.specs.Grammar.Texts.{Reads}
use Rattle.ini_text.specs.Grammar.Places.{ArePlaced}
use Rattle.ini_text.specs.Parsing.Items.{cow_text}
use Rattle.ini_text.specs.Parsing.Parser.{Place}
use Rattle.ini_text.specs.Parsing.Places.{StandsBetween}
use Rattle.ini_text.specs.declared.option.ParseOption.{ParseOption}
use Rattle.ini_text.specs.declared.parser.placed.PlacedElement.{PlacedElement}
use Rattle.ini.specs.Texts.{Text, is_name}
use Rattle.ini.specs.Documents.{Document}
use Rattle.ini.specs.Properties.{Pairs}
use Rattle.ini.specs.SectionItems.{pair_items}
use Rattle.ini_edit.specs.Places.{up_to_end, text_with}
use Rattle.ini_edit.specs.Targets.{Lacks, OpensSection}
use Rattle.ini_edit.specs.FirstPairs.{source_of, stretches_of}
use Rattle.ini_edit.specs.declared.find.FoundPair.{FoundPair}

-- the parser has refused nothing, and elements reach where it stands
pub record StandsWithin (p : Place) : Type 0 where
  pub refusal : p.refusal ≡ None
  pub items : List Given
  pub reads : Reads p.option p.text [] items p.front

-- what a section ends with at the front c: the text's end, or a header that reaches the front d
pub data EndsSection (o : ParseOption) (T c : Text) : Text → Type 0 where
  end : c ≡ T → EndsSection o T c c
  header : {d : Text} (name : Text) → Reads o T c (Header name ∷ []) d → EndsSection o T c d

-- items of which none opens a section of the name
pub data OpensNone (name : Option Text) : List Given → Type 0 where
  nothing : OpensNone name []
  pair : {key value : Text} → OpensNone name (Pair key value ∷ [])
  other : {t : Text} → is_name name (Some t) ≡ false → OpensNone name (Header t ∷ [])

module _ (o : ParseOption) (T : Text) where
  -- the parser reads the text by the options, and has refused nothing
  pub record IsReading (p : Place) : Type 0 where
    pub option : p.option ≡ o
    pub text : p.text ≡ T
    pub refusal : p.refusal ≡ None

  -- after the front b stood the element, and now the parser stands after it
  pub record Steps (b : Text) (q : Place) (e : PlacedElement) : Type 0 where
    pub is_reading : IsReading q
    pub stands : StandsBetween o T b q.front e

  -- no element stood after the front b: it is the text
  pub record IsPastLast (b : Text) (q : Place) : Type 0 where
    pub is_reading : IsReading q
    pub was_end : b ≡ T
    pub is_end : q.front ≡ T

  -- it stands after what opens the first section of the name
  pub record OpensFirst (q : Place) (name : Option Text) : Type 0 where
    pub is_reading : IsReading q
    pub items : List Given
    pub sections : Document
    pub opens : OpensSection name items sections
    pub reads : Reads o T [] items q.front

  -- between the fronts b and c stand pairs without the key
  pub record PassesPairs (b c key : Text) : Type 0 where
    pub pairs : Pairs
    pub lacks : Lacks key pairs
    pub reads : Reads o T b (pair_items pairs) c

  -- after such pairs stood the pair of the key, and now the parser stands after it
  pub record ReachesPair (b : Text) (q : Place) (key : Text) (pair : FoundPair) : Type 0 where
    pub is_reading : IsReading q
    pub passes : PassesPairs b (chars pair.front.now) key
    pub whole : T ≡ text_with (stretches_of pair) (stretches_of pair).raw_value
    pub front : q.front ≡ up_to_end (stretches_of pair)
    pub placed : ArePlaced o (chars pair.front.now) (source_of (stretches_of pair)) (chars pair.rest.now)
        key (cow_text pair.value)

  -- after such pairs the section ended, and now the parser stands after what ended it
  pub record ReachesEnd (b : Text) (q : Place) (key : Text) : Type 0 where
    pub is_reading : IsReading q
    pub front : Text
    pub passes : PassesPairs b front key
    pub ends : EndsSection o T front q.front

  -- elements reach from the front b to the text's end
  pub record ReadsOn (b : Text) : Type 0 where
    pub items : List Given
    pub reads : Reads o T b items T
