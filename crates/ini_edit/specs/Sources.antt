-- A text in pieces: its sections, each with its header, its pairs, and what follows each of these up to the
-- next.
use Rattle.std.specs.Prelude.{Bool, ◌&&◌, List, [], ◌∷◌, ◌++◌, map, Option, is_some}
use Rattle.std.specs.Borrow.{Bor}
use Rattle.ini_text.specs.Grammar.Places.{Stretches, pair_source}
use Rattle.ini_text.specs.Parsing.Items.{cow_text}
use Rattle.ini_text.specs.Parsing.Places as parsing
use Rattle.ini_text.specs.declared.option.ParseOption.{ParseOption}
use Rattle.ini_text.specs.declared.parser.placed.PlacedPair.{PlacedPair}
use Rattle.ini.specs.Documents.{Document}
use Rattle.ini.specs.Properties.{Pairs}
use Rattle.ini.specs.Texts.{Text}

-- the sources of what a list has, joined
abbrev pub joined : {A : Type 0} → (A → Text) → List A → Text
joined source [] = []
joined source (x ∷ xs) = source x ++ joined source xs

-- A pair: the stretches of its source; the key and the value that it gives; and the gaps and comments that
-- follow it.
pub record PairPiece : Type 0 where
  pub stretches : Stretches
  pub key : Text
  pub value : Text
  pub after : Text

-- a pair has a separator, and a key alone has none
abbrev pub has_separator : PairPiece → Bool
has_separator p = is_some p.stretches.separator

-- where values are multiline, a pair goes on over lines unless it is a key alone
abbrev pub is_multiline : ParseOption → PairPiece → Bool
is_multiline o p = o.enabled_indented_mutiline_value && has_separator p

-- A section: its name, and the source of its header, both none of the general section's; the gaps and
-- comments that follow the header; and the pairs.
pub record SectionPiece : Type 0 where
  pub name : Option Text
  pub header : Text
  pub after : Text
  pub pairs : List PairPiece

-- a text that was read by these options
pub record Pieces : Type 0 where
  pub option : ParseOption
  pub sections : List SectionPiece

-- the text of a pair and what follows it, of pairs, of a section, and of sections
abbrev pub pair_text : PairPiece → Text
pair_text p = pair_source p.stretches ++ p.after

abbrev pub pairs_text : List PairPiece → Text
pairs_text ps = joined pair_text ps

abbrev pub section_text : SectionPiece → Text
section_text s = s.header ++ (s.after ++ pairs_text s.pairs)

abbrev pub sections_text : List SectionPiece → Text
sections_text ss = joined section_text ss

-- what a pair gives, and a section with its pairs
abbrev pub given_pair : PairPiece → Text × Text
given_pair p = (p.key, p.value)

-- the pairs of a section that is lent
abbrev pub given_pairs : Bor SectionPiece → Pairs
given_pairs s = map given_pair s.now.pairs

abbrev pub given_section : SectionPiece → Option Text × Pairs
given_section s = (s.name, map given_pair s.pairs)

-- the text, and the document that it means
abbrev pub text_in : Pieces → Text
text_in pieces = sections_text pieces.sections

abbrev pub document_in : Pieces → Document
document_in pieces = map given_section pieces.sections

-- a pair as the parser places it, before such a text
abbrev pub placed_piece : PlacedPair → Text → PairPiece
placed_piece p after = record {
  stretches = parsing.stretches_of p.places;
  key = cow_text p.key;
  value = cow_text p.value;
  after = after;
}
