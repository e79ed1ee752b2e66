-- The spans of a text in pieces, each in its place: headers, pairs, and what stands between these.
use Rattle.std.specs.Prelude.{◌≡◌, ◌≢◌, ℕ, true, List, [], ◌∷◌, ◌++◌, Option, None, Some, is_some}
use Rattle.std.specs.List.{list_all}
use Rattle.ini_text.specs.Grammar.CharacterKinds.{line_feed, is_inline_white, is_separator, BeginsWithNo}
use Rattle.ini_text.specs.Grammar.Elements.{Header, Element}
use Rattle.ini_text.specs.Grammar.Keys.{KeyFront}
use Rattle.ini_text.specs.Grammar.Lines.{LineTail}
use Rattle.ini_text.specs.Grammar.Pieces.{ArePieces, Piece, pieces_items, pieces_text}
use Rattle.ini_text.specs.Grammar.Places.{IsLone, OwnLines, Stretches, TrailingLines, pair_source}
use Rattle.ini_text.specs.Grammar.Places.{value_source}
use Rattle.ini_text.specs.Grammar.Values.{Value}
use Rattle.ini_text.specs.declared.option.ParseOption.{ParseOption}
use Rattle.ini.specs.Texts.{Text}
use Rattle.ini_edit.specs.Endings.{Ending, ending}
use Rattle.ini_edit.specs.Inside.InPlace.{AreInPlace}
use Rattle.ini_edit.specs.Sources.{PairPiece, SectionPiece}

-- what opens a section, of this source; a pair; or gaps and comments
pub data Span : Type 0 where
  opening : (name : Option Text) (source : Text) → Span
  pair : (stretches : Stretches) (key value : Text) → Span
  gap : (source : Text) → Span

abbrev pub span_source : Span → Text
span_source (opening name source) = source
span_source (pair p key value) = pair_source p
span_source (gap source) = source

module _ (o : ParseOption) where
  -- after the character c and before r, the stretches are those of a pair with a separator
  pub record IsValuePair (c : ℕ) (p : Stretches) (key value r : Text) : Type 0 where
    pub separator : ℕ
    pub separator_is : p.separator ≡ Some separator
    pub key_front : KeyFront o (c ∷ []) p.key (separator ∷ []) key
    pub some : key ≢ []
    pub separates : is_separator separator ≡ true
    pub gives : Value o (value_source p) r value
    pub white_before : list_all is_inline_white p.space_before ≡ true
    pub starts : BeginsWithNo is_inline_white p.raw_value
    pub white_after : list_all is_inline_white p.space_after ≡ true
    pub are_trailing : TrailingLines o p.trailing_lines r
    -- the raw value, and white space after it, are all of the value's own lines, up to a note
    pub own_lines : OwnLines o (p.raw_value ++ p.space_after) (p.note ++ (p.trailing_lines ++ r))
    pub note : LineTail p.note (p.trailing_lines ++ r)
    -- no note stands after an empty value
    pub unnoted : p.raw_value ≡ [] → p.note ≡ []
    -- no white space stands after a backslash that would take it
    pub closed : ending o p.raw_value ≡ Ending.escape → p.space_after ≡ []

  -- those of a key alone
  pub record IsLonePair (c : ℕ) (p : Stretches) (key value r : Text) : Type 0 where
    pub lone : IsLone o p r value
    pub key_front : KeyFront o (c ∷ []) p.key r key
    pub some : key ≢ []

  -- those of a pair
  pub data IsPair (c : ℕ) (p : Stretches) (key value r : Text) : Type 0 where
    has_value : IsValuePair c p key value r → IsPair c p key value r
    is_lone : IsLonePair c p key value r → IsPair c p key value r

  -- elements that give nothing
  pub record IsGap (c : ℕ) (source r : Text) : Type 0 where
    pub pieces : List Piece
    pub whole : source ≡ pieces_text pieces
    pub nothing : pieces_items pieces ≡ []
    pub are : ArePieces o c pieces r

  -- the span is in its place
  pub data IsSpan (c : ℕ) : Span → Text → Type 0 where
    general : {r : Text} → IsSpan c (opening None []) r
    header : {name s r : Text} → Element o (c ∷ []) s r (Header name ∷ []) → IsSpan c (opening
        (Some name) s) r
    is_pair : {p : Stretches} {key value r : Text} → IsPair c p key value r → IsSpan c (pair p key value) r
    is_gap : {s r : Text} → IsGap c s r → IsSpan c (gap s) r

  abbrev pub AreSpans : ℕ → List Span → Text → Type 0
  AreSpans = AreInPlace span_source IsSpan

-- the spans of pairs, of a section, and of sections
abbrev pub pairs_spans : List PairPiece → List Span
pairs_spans [] = []
pairs_spans (p ∷ ps) = pair p.stretches p.key p.value ∷ gap p.after ∷ pairs_spans ps

abbrev pub section_spans : SectionPiece → List Span
section_spans s = opening s.name s.header ∷ gap s.after ∷ pairs_spans s.pairs

abbrev pub sections_spans : List SectionPiece → List Span
sections_spans [] = []
sections_spans (s ∷ ss) = section_spans s ++ sections_spans ss

-- the first section is the general one, and each other has a name
abbrev pub BeginGeneral : List SectionPiece → Type 0
BeginGeneral [] = ⊥
BeginGeneral (s ∷ ss) = (s.name ≡ None) × (list_all (λ t. is_some t.name) ss ≡ true)

-- the sections are those of a whole text
pub record AreSections (o : ParseOption) (ss : List SectionPiece) : Type 0 where
  pub begin_general : BeginGeneral ss
  pub spans : AreSpans o line_feed (sections_spans ss) []
