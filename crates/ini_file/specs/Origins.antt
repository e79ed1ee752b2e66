-- What is written of each pair of a text, with the file and the line where it stands.
use Rattle.std.specs.Prelude.{◌≡◌, ◌++◌, ℕ, Bool, if◌then◌else◌, List, [], codes, chars, encode_utf8_all}
use Rattle.std.specs.Prelude.{flat_map, Option, Result, Ok, Err}
use Rattle.std.specs.Fmt.{decimal}
use Rattle.std.specs.declared.alloc.Global.{Global}
use Rattle.std.specs.declared.vec.Vec.{Vec}
use Rattle.ini_text.specs.Parsing.ByteOrderMarks.{without_byte_order_mark}
use Rattle.ini_text.specs.declared.error.Error.{Error}
use Rattle.ini_text.specs.declared.option.ParseOption.{ParseOption}
use Rattle.ini.specs.Loading.{IsTextWith}
use Rattle.ini.specs.Texts.{Text}
use Rattle.ini_edit.specs.SourceElements.{ContentPiece, ElementPiece, elements_in}
use Rattle.ini_edit.specs.Sources.{Pieces}
use Rattle.ini_edit.specs.WholeTexts.{IsReadInPieces}
use Rattle.ini_edit.specs.declared.source.elements.Position.{Position}
use Rattle.ini_words.specs.Lines.{listed_pair}
use Rattle.ini_words.specs.Words.{Word}
use Rattle.ini_file.specs.Forms.{listing_form}
use Rattle.ini_file.specs.Merges.{RefusesFile}

-- what stands before a pair: the file and the line
abbrev pub place_word : (null : Bool) → (file : Word) → (line : ℕ) → Word
place_word null file line =
    if null then file ++ (codes "\0" ++ (decimal line ++ codes "\0"))
    else file ++ (codes ":" ++ (decimal line ++ codes ":"))

-- a pair after its place, as it is listed
abbrev pub placed_pair : (null : Bool) → (place : Word) → Option Text → Text × Text → List ℕ
placed_pair null place name pair = encode_utf8_all (chars place ++ listed_pair (listing_form null) name pair)

-- a pair is written, and nothing of another element
abbrev pub origin_of : (null : Bool) → (file : Word) → Option Text → ContentPiece → Position → List ℕ
origin_of null file name (ContentPiece.pair p) position =
    placed_pair null (place_word null file position.line) name (p.key, p.value)
origin_of null file name _ position = []

abbrev pub origin : (null : Bool) → (file : Word) → ElementPiece → List ℕ
origin null file e = origin_of null file e.section e.content e.position

-- the lines are those of a text's pairs
pub record HasOrigins (o : ParseOption) (null : Bool) (file : Word) (T : Text) (lines : List ℕ) : Type 0 where
  pub pieces : Pieces
  pub are_read : IsReadInPieces o T pieces
  pub are_lines : lines ≡ flat_map (origin null file) (elements_in pieces)

-- how it ends
abbrev pub AreOrigins : ParseOption → (null : Bool) → (file : Word) → List ℕ → Result (Vec ℕ Global) Error
    → Type 0
AreOrigins o null file input (Ok lines) =
    IsTextWith (λ T. HasOrigins o null file T lines.items) (without_byte_order_mark input)
AreOrigins o null file input (Err refused) = RefusesFile o input refused
