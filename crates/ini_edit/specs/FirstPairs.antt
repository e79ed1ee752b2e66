-- The first pair of a key in the first section of a name, and where it stands in its text.
use Rattle.std.specs.Prelude.{◌≡◌, List, Option, None, chars}
use Rattle.ini_text.specs.Grammar.Elements.{Given}
use Rattle.ini_text.specs.Grammar.Places as grammar
use Rattle.ini_text.specs.declared.parser.placed.PairPlaces.{PairPlaces}
use Rattle.ini_text.specs.declared.option.ParseOption.{ParseOption}
use Rattle.ini.specs.Texts.{Text}
use Rattle.ini.specs.Documents.{Document, first_section, value_in}
use Rattle.ini.specs.Loading.{IsDocumentOf}
use Rattle.ini_edit.specs.Places.{Stretches, StandsAt}
use Rattle.ini_edit.specs.Targets.{IsTarget}
use Rattle.ini_edit.specs.declared.find.FoundPair.{FoundPair}

-- where a pair of these places stands between a front and a rest, in the words of the laws
abbrev pub stretches_at : Text → PairPlaces → Text → Stretches
stretches_at front places rest = record {
  front = front;
  key = chars places.key.now;
  separator = places.separator;
  space_before = chars places.space_before.now;
  raw_value = chars places.raw_value.now;
  space_after = chars places.space_after.now;
  note = chars places.note.now;
  trailing_lines = chars places.trailing_lines.now;
  rest = rest;
}

abbrev pub stretches_of : FoundPair → Stretches
stretches_of pair = stretches_at (chars pair.front.now) pair.places (chars pair.rest.now)

-- the stretches of the pair's source alone
abbrev pub source_of : Stretches → grammar.Stretches
source_of p = record {
  key = p.key;
  separator = p.separator;
  space_before = p.space_before;
  raw_value = p.raw_value;
  space_after = p.space_after;
  note = p.note;
  trailing_lines = p.trailing_lines;
}

-- The stretches are those of the first pair of the key in the first section of the name, and the pair has
-- the value.
pub record IsFirstPair (o : ParseOption) (T : Text) (name : Option Text) (key : Text) (p : Stretches)
    (value : Text) : Type 0 where
  pub before : List Given
  pub after : List Given
  pub stands : StandsAt o T p key value before after
  pub target : IsTarget name key before after
  pub placed : grammar.ArePlaced o p.front (source_of p) p.rest key value

-- the text's document has no section of the name
pub record LacksSection (o : ParseOption) (T : Text) (name : Option Text) : Type 0 where
  pub document : Document
  pub is_document : IsDocumentOf o T document
  pub none : first_section name document ≡ None

-- the text's document has no pair of the key in its first section of the name
pub record LacksPair (o : ParseOption) (T : Text) (name : Option Text) (key : Text) : Type 0 where
  pub document : Document
  pub is_document : IsDocumentOf o T document
  pub none : value_in name key document ≡ None
