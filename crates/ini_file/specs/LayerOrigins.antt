-- What is written of several files with the places of pairs: each pair of their one document, after the file
-- and the line of the pair that gives its value.
use Rattle.std.specs.Prelude.{◌≡◌, ℕ, Bool, true, false, List, [], ◌∷◌, ◌++◌, flat_map, fold, length, ⊤}
use Rattle.std.specs.Prelude.{Option, None, chars, encode_utf8_all, slice_get, unwrap_or}
use Rattle.ini_text.specs.Parsing.ByteOrderMarks.{without_byte_order_mark}
use Rattle.ini_text.specs.declared.error.Error.TheVariants.{Memory}
use Rattle.ini_text.specs.declared.option.ParseOption.{ParseOption}
use Rattle.ini.specs.Documents.{Document, value_in, with_pair}
use Rattle.ini.specs.Loading.{IsTextWith}
use Rattle.ini.specs.Properties.{Pairs}
use Rattle.ini.specs.Texts.{Text}
use Rattle.ini_dialect.specs.Lookups.{value_under}
use Rattle.ini_dialect.specs.declared.rule.Lookup.{Lookup}
use Rattle.ini_edit.specs.SourceElements.{ContentPiece, ElementPiece, elements_in}
use Rattle.ini_edit.specs.Sources.{Pieces}
use Rattle.ini_edit.specs.WholeTexts.{IsReadInPieces}
use Rattle.ini_edit.specs.declared.error.EditError.TheVariants.{Text as TextError}
use Rattle.ini_edit.specs.declared.source.elements.Position.{Position}
use Rattle.ini_words.specs.Lines.{listed_pair}
use Rattle.ini_words.specs.Words.{Word}
use Rattle.ini_dialect.specs.Rules.{is_own}
use Rattle.ini_file.specs.Forms.{listing_form}
use Rattle.ini_file.specs.Layered.{merged_by}
use Rattle.ini_file.specs.Merges.{AreLoaded, RefusesOther}
use Rattle.ini_file.specs.Origins.{place_word}
use Rattle.ini_file.specs.declared.layers.LayersEnd.{LayersEnd}
use Rattle.ini_file.specs.declared.layers.LayersEnd.TheVariants.{Done, File, Refused}

-- a document with one element more of a text: a header opens a section, a pair has its place for its value
abbrev pub with_content : (null : Bool) → (file : Word) → Document → Option Text → ContentPiece → Position
    → Document
with_content null file d name (ContentPiece.header source) position = d ++ (name, []) ∷ []
with_content null file d name (ContentPiece.pair p) position =
    with_pair p.key (chars (place_word null file position.line)) d
with_content null file d name (ContentPiece.between source) position = d

abbrev pub with_element : (null : Bool) → (file : Word) → Document → ElementPiece → Document
with_element null file d e = with_content null file d e.section e.content e.position

-- the document of places: that of a text, but for its values
abbrev pub places_in : (null : Bool) → (file : Word) → Pieces → Document
places_in null file pieces = fold (with_element null file) ((None, []) ∷ []) (elements_in pieces)

pub record HasPlaces (o : ParseOption) (null : Bool) (file : Word) (T : Text) (places : Document)
    : Type 0 where
  pub pieces : Pieces
  pub are_read : IsReadInPieces o T pieces
  pub are_places : places ≡ places_in null file pieces

-- so it is with a file of these bytes
abbrev pub IsPlaced : ParseOption → (null : Bool) → (file : Word) → List ℕ → Document → Type 0
IsPlaced o null file input places =
    IsTextWith (λ T. HasPlaces o null file T places) (without_byte_order_mark input)

-- the name of this number
abbrev pub name_at : List Word → ℕ → Word
name_at names number = unwrap_or (slice_get names number) []

-- and with each file, by the name of its number
pub data ArePlaced (o : ParseOption) (null : Bool) (names : List Word) : List (List ℕ) → List Document
    → Type 0 where
  none : ArePlaced o null names [] []
  then : {files : List (List ℕ)} {documents : List Document} → ArePlaced o null names files documents
      → (file : List ℕ) {places : Document} → IsPlaced o null (name_at names (length files)) file places
      → ArePlaced o null names (files ++ file ∷ []) (documents ++ places ∷ [])

-- the value that counts in a document: by the crate's own rule as `merged_by` has it
abbrev pub value_by : Bool → Lookup → Option Text → Text → Document → Option Text
value_by true rule name key d = value_in name key d
value_by false rule name key d = value_under rule name key d

-- a pair as it is listed, after the place that its key has among the places
module _ (rule : Lookup) (null : Bool) (places : Document) where
  abbrev pub pair_with_place : Option Text → Text × Text → List ℕ
  pair_with_place name pair = encode_utf8_all
      (unwrap_or (value_by (is_own rule) rule name pair.0 places) []
      ++ listed_pair (listing_form null) name pair)

  abbrev pub section_with_places : Option Text → Pairs → List ℕ
  section_with_places name pairs = flat_map (pair_with_place name) pairs

  abbrev pub lines_with_places : Document → List ℕ
  lines_with_places d = flat_map (λ s. section_with_places s.0 s.1) d

-- the lines are those of what the files' documents make in layers, with what their places make in layers
pub record AreOriginLines (rule : Lookup) (o : ParseOption) (null : Bool) (names : List Word)
    (files : List (List ℕ)) (documents : List Document) (lines : List ℕ)
    : Type 0 where
  pub places : List Document
  pub are_placed : ArePlaced o null names files places
  pub are_lines : lines ≡ lines_with_places rule null (merged_by (is_own rule) rule places)
      (merged_by (is_own rule) rule documents)

pub record AreLayerOrigins (rule : Lookup) (o : ParseOption) (null : Bool) (names : List Word)
    (files : List (List ℕ)) (lines : List ℕ)
    : Type 0 where
  pub documents : List Document
  pub are_loaded : AreLoaded o files documents
  pub are_lines : AreOriginLines rule o null names files documents lines

-- how it ends
abbrev pub HasLayerOrigins : Lookup → ParseOption → (null : Bool) → List Word → List (List ℕ) → LayersEnd
    → Type 0
HasLayerOrigins rule o null names files (Done lines) = AreLayerOrigins rule o null names files lines.items
HasLayerOrigins rule o null names files (File index e) = RefusesOther o files index e
HasLayerOrigins rule o null names files (Refused (TextError (Memory _))) = ⊤
HasLayerOrigins rule o null names files (Refused _) = ⊥
