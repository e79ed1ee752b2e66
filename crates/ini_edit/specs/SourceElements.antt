-- The elements of a text in pieces in order, each with its section and where it begins.
use Rattle.std.specs.Prelude.{Bool, ℕ, ◌-◌, ◌^◌, filter, map, min, not, List, [], ◌∷◌, ◌++◌, Option}
use Rattle.std.specs.Option.{option_map}
use Rattle.ini_text.specs.Grammar.Places.{Stretches, pair_source, separator_text}
use Rattle.ini_text.specs.Grammar.Positions.{column_of, line_of}
use Rattle.ini.specs.Texts.{Text, str_name, str_text}
use Rattle.ini_edit.specs.SourceLines.{is_empty}
use Rattle.ini_edit.specs.SourcePlaces.{PairPlace, pair_place, text_up_to}
use Rattle.ini_edit.specs.Sources.{PairPiece, Pieces, SectionPiece, sections_text}
use Rattle.ini_edit.specs.declared.source.elements.Position.{Position}
use Rattle.ini_edit.specs.declared.source.elements.SourceContent.{SourceContent}
use Rattle.ini_edit.specs.declared.source.elements.SourceContent.TheVariants as contents
use Rattle.ini_edit.specs.declared.source.elements.SourceElement.{SourceElement}

-- a number as far as 64 bits count
abbrev pub counted : ℕ → ℕ
counted n = min n (2 ^ 64 - 1)

-- where a text's front ends
abbrev pub position_of : Text → Position
position_of front = record { line = counted (line_of front); column = counted (column_of front) }

-- a header, a pair, or white space and comments
pub data ContentPiece : Type 0 where
  header : Text → ContentPiece
  pair : PairPiece → ContentPiece
  between : Text → ContentPiece

abbrev pub content_text : ContentPiece → Text
content_text (ContentPiece.header source) = source
content_text (ContentPiece.pair p) = pair_source p.stretches
content_text (ContentPiece.between source) = source

-- what pairs are made of, a section, and sections, each with the section's name
abbrev pub pair_contents : List PairPiece → List ContentPiece
pair_contents [] = []
pair_contents (p ∷ ps) = ContentPiece.pair p ∷ ContentPiece.between p.after ∷ pair_contents ps

abbrev pub section_contents : SectionPiece → List ContentPiece
section_contents s = ContentPiece.header s.header ∷ ContentPiece.between s.after ∷ pair_contents s.pairs

abbrev pub named_contents : Option Text → List ContentPiece → List (Option Text × ContentPiece)
named_contents name cs = map (λ c. (name, c)) cs

abbrev pub sections_contents : List SectionPiece → List (Option Text × ContentPiece)
sections_contents [] = []
sections_contents (s ∷ ss) = named_contents s.name (section_contents s) ++ sections_contents ss

-- an element: the name of its section, what it is, and where it begins
pub record ElementPiece : Type 0 where
  pub section : Option Text
  pub content : ContentPiece
  pub position : Position

-- each where it begins: the first after this front
abbrev pub placed_contents : (front : Text) → List (Option Text × ContentPiece) → List ElementPiece
placed_contents front [] = []
placed_contents front (c ∷ cs) =
    record { section = c.0; content = c.1; position = position_of front }
    ∷ placed_contents (front ++ content_text c.1) cs

abbrev pub has_characters : ElementPiece → Bool
has_characters e = not (is_empty (content_text e.content))

-- the elements, but for those without any character
abbrev pub elements_in : Pieces → List ElementPiece
elements_in pieces = filter has_characters (placed_contents [] (sections_contents pieces.sections))

-- the text of a pair up to its value
abbrev pub up_to_value : Stretches → Text
up_to_value p = p.key ++ (separator_text p.separator ++ p.space_before)

-- the text up to the value of a pair, and where that begins, of the first pair of a key
abbrev pub text_before_value : PairPlace → Text
text_before_value p =
    sections_text p.section.before
    ++ (text_up_to p.section.here p.pair.before ++ up_to_value p.pair.here.stretches)

abbrev pub value_position : Option Text → Text → List SectionPiece → Option Position
value_position name key ss = option_map (λ p. position_of (text_before_value p)) (pair_place name key 0 ss)

-- what an element of a walk shows
abbrev pub shown_content : SourceContent → ContentPiece
shown_content (contents.Header source) = ContentPiece.header (str_text source)
shown_content (contents.Pair p) = ContentPiece.pair p.now
shown_content (contents.Between source) = ContentPiece.between (str_text source)

abbrev pub shown_element : SourceElement → ElementPiece
shown_element e = record {
  section = str_name e.section;
  content = shown_content e.content;
  position = e.position;
}
