-- A text that is streamed: of its bytes only those are kept that reading may still look at.
use Rattle.std.specs.Prelude.{◌≡◌, ℕ, ◌+◌, ◌≤◌, true, List, [], ◌++◌, fold, length, take, chars, count_by}
use Rattle.std.specs.Prelude.{Result, IfOk}
use Rattle.std.specs.Str.{IsUtf8}
use Rattle.std.specs.Cow.{cow_str_bytes}
use Rattle.ini_text.specs.Grammar.CharacterKinds.{is_line_feed}
use Rattle.ini_text.specs.Grammar.Elements.{Given}
use Rattle.ini_text.specs.Grammar.Positions.{is_column_one}
use Rattle.ini_text.specs.Grammar.Texts.{Reads}
use Rattle.ini_text.specs.Errors.Messages.{HasMessage}
use Rattle.ini_text.specs.Parsing.Fronts.{front_of, IsRest}
use Rattle.ini_text.specs.Parsing.Parser.{StopsPast}
use Rattle.ini_text.specs.declared.error.Error.{Error}
use Rattle.ini_text.specs.declared.error.ParseError.{ParseError}
use Rattle.ini_text.specs.declared.option.ParseOption.{ParseOption}
use Rattle.ini.specs.Texts.{Text}
use Rattle.ini.specs.Documents.{Document, document_of, with_item}
use Rattle.ini.specs.Loading.{IfParse}
use Rattle.ini.specs.declared.streaming.StreamLoader.{StreamLoader}

-- the document with further items
abbrev pub with_items : Document → List Given → Document
with_items d items = fold with_item d items

-- the items of the text between the fronts b and c make the document d to e
pub record Makes (o : ParseOption) (T b c : Text) (d e : Document) : Type 0 where
  pub items : List Given
  pub reads : Reads o T b items c
  pub document : e ≡ with_items d items

-- after the front b, and items, reading stops, at a line that is `gone` lines further down
pub record StopsLater (o : ParseOption) (T b : Text) (gone : ℕ) (e : ParseError) : Type 0 where
  pub front : Text
  pub items : List Given
  pub line : ℕ
  pub reads : Reads o T b items front
  pub stop : StopsPast o T front e.kind line e.col
  pub moved : e.line ≡ line + gone
  pub message : HasMessage e.kind (cow_str_bytes e.msg)

-- the items up to what is left of the text make the document d to e, whatever follows the text
pub record Settles (o : ParseOption) (T rest left : Text) (d e : Document) : Type 0 where
  pub items : List Given
  pub reads : (more : Text) → Reads o (T ++ more) (front_of T rest) items (front_of T left)
  pub document : e ≡ with_items d items
  pub is_rest : IsRest T left

-- the bytes begin with a front, a text, whose items the document has
pub record HasFront (p : StreamLoader) (bytes : List ℕ) : Type 0 where
  pub within : p.front ≤ length bytes
  pub utf8 : IsUtf8 (take p.front bytes)

-- of the bytes b only c stay: whole lines were dropped, and items of what stays got into the document
pub record GoesBy (o : ParseOption) (old new : StreamLoader) (b c : List ℕ) : Type 0 where
  pub gone : List ℕ
  pub items : List Given
  pub bytes : b ≡ gone ++ c
  pub utf8 : IsUtf8 gone
  pub line_start : is_column_one (chars gone) ≡ true
  pub lines : new.lines ≡ old.lines + count_by is_line_feed (chars gone)
  pub front : HasFront new c
  pub reads : (more : List ℕ) → Reads o (chars (b ++ more)) (chars (take old.front b)) items
      (chars gone ++ chars (take new.front c))
  pub document : new.document ≡ with_items old.document items

-- what the last bytes make of the document
pub record Ends (o : ParseOption) (p : StreamLoader) (bytes : List ℕ) (result : Result Document Error)
    : Type 0 where
  pub utf8 : IfOk result (λ d. IsUtf8 bytes)
  pub document : IfOk result
      (Makes o (chars bytes) (chars (take p.front bytes)) (chars bytes) p.document)
  pub fault : IfParse result
      (λ e. IsUtf8 bytes × StopsLater o (chars bytes) (chars (take p.front bytes)) p.lines e)

-- All bytes that were read: those that were dropped, whole lines, and those that are kept. The document has
-- the items of all but what follows the front, whatever follows.
pub record IsStreaming (o : ParseOption) (all bytes : List ℕ) (p : StreamLoader) : Type 0 where
  pub gone : List ℕ
  pub items : List Given
  pub whole : all ≡ gone ++ bytes
  pub utf8 : IsUtf8 gone
  pub line_start : is_column_one (chars gone) ≡ true
  pub lines : p.lines ≡ count_by is_line_feed (chars gone)
  pub front : HasFront p bytes
  pub reads : (more : List ℕ) → Reads o (chars gone ++ chars (bytes ++ more)) [] items
      (chars gone ++ chars (take p.front bytes))
  pub document : p.document ≡ document_of items
