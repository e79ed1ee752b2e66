-- What loading a text or bytes answers.
use Rattle.std.specs.Prelude.{◌≡◌, ℕ, Bool, List, Option, IfSome, Result, Err, IfErr, IfOk, ⊤}
use Rattle.std.specs.Str.{IsUtf8, chars}
use Rattle.std.specs.Cow.{cow_str_bytes}
use Rattle.std.specs.Io.KnownBytes.{IsAtEnd}
use Rattle.ini_text.specs.Grammar.Elements.{Given}
use Rattle.ini_text.specs.Errors.Messages.{HasMessage}
use Rattle.ini_text.specs.Grammar.Positions.{column_of, line_of}
use Rattle.ini_text.specs.Grammar.Texts.{Derives, Stops}
use Rattle.ini_text.specs.Parsing.ByteOrderMarks.{text_bytes}
use Rattle.ini_text.specs.declared.error.Error.{Error}
use Rattle.ini_text.specs.declared.error.Error.TheVariants.{Io, Memory, NoProgress, NotUtf8, Parse}
use Rattle.ini_text.specs.declared.error.ParseError.{ParseError}
use Rattle.ini_text.specs.declared.option.ParseOption.{ParseOption}
use Rattle.ini.specs.Texts.{Text}
use Rattle.ini.specs.Documents.{Document, HasGeneral, document_of}

-- it is the document of the items that the text derives
pub record IsDocumentOf (o : ParseOption) (T : Text) (d : Document) : Type 0 where
  pub items : List Given
  pub derives : Derives o T items
  pub document : d ≡ document_of items

-- reading the text stops at the end of a front, and the error tells kind, line, column and message
pub record IsStopOf (o : ParseOption) (T : Text) (e : ParseError) : Type 0 where
  pub front : Text
  pub stops : Stops o T e.kind front
  pub line : e.line ≡ line_of front
  pub column : e.col ≡ column_of front
  pub message : HasMessage e.kind (cow_str_bytes e.msg)

-- what holds of a parse fault, if it is one
abbrev pub IfParse : {X : Type 0} → Result X Error → (ParseError → Type 0) → Type 0
IfParse (Err (Parse e)) P = P e
IfParse _ P = ⊤

-- the text was refused, or memory was
abbrev pub IsParseOrMemory : Error → Type 0
IsParseOrMemory (Parse _) = ⊤
IsParseOrMemory (Memory _) = ⊤
IsParseOrMemory _ = ⊥

-- the bytes are UTF-8, and P holds of their text
abbrev pub IsTextWith : (Text → Type 0) → List ℕ → Type 0
IsTextWith P bytes = IsUtf8 bytes × P (chars bytes)

-- the same of a reader's bytes, without a mark if it is dropped, where it is known which they are
abbrev pub IsDocumentOfBytes : ParseOption → Bool → Option (List ℕ) → Document → Type 0
IsDocumentOfBytes o drop_mark known d =
    IfSome known (λ bytes. IsTextWith (λ T. IsDocumentOf o T d) (text_bytes drop_mark bytes))

abbrev pub IsStopOfBytes : ParseOption → Bool → Option (List ℕ) → ParseError → Type 0
IsStopOfBytes o drop_mark known e =
    IfSome known (λ bytes. IsTextWith (λ T. IsStopOf o T e) (text_bytes drop_mark bytes))

-- a reader's bytes are no text
abbrev pub AreNoText : Bool → Option (List ℕ) → Type 0
AreNoText drop_mark known = IfSome known (λ bytes. ¬ (IsUtf8 (text_bytes drop_mark bytes)))

-- they were refused as no text
abbrev pub IsNotUtf8 : {X : Type 0} → Result X Error → Type 0
IsNotUtf8 (Err NotUtf8) = ⊤
IsNotUtf8 _ = ⊥

-- what holds once the device was read to its end
abbrev pub OnReadThrough : {X : Type 0} → Result X Error → Type 0 → Type 0
OnReadThrough (Err (Io _)) P = ⊤
OnReadThrough (Err (Memory _)) P = ⊤
OnReadThrough _ P = P

-- every refusal but that of a writer
abbrev pub IsReadRefusal : Error → Type 0
IsReadRefusal NoProgress = ⊥
IsReadRefusal _ = ⊤

-- what a call did that was to read a document from a reader's bytes by these options
pub record ReadsDocument {R : Type 0} (remaining : R → Option (List ℕ)) (old new : R)
    (o : ParseOption) (drop_mark : Bool) (result : Result Document Error) : Type 0 where
  -- it answers the document of their text, which has a general section
  pub document : IfOk result (IsDocumentOfBytes o drop_mark (remaining old))
  pub general : IfOk result HasGeneral
  -- or where reading their text stops, or that they are no text
  pub fault : IfParse result (IsStopOfBytes o drop_mark (remaining old))
  pub not_utf8 : IsNotUtf8 result → AreNoText drop_mark (remaining old)
  -- they were read to the end, unless the device failed or memory was refused
  pub end : OnReadThrough result (IsAtEnd (remaining new))
  pub only : IfErr result IsReadRefusal
