-- What an edit does to a document, what a list of them does, and what is written of a text that is edited.
use Rattle.std.specs.Prelude.{◌≡◌, ℕ, List, [], ◌∷◌, ◌++◌, fold, Result, Err, ⊤, encode_utf8_all}
use Rattle.ini_text.specs.declared.error.Error.{Error}
use Rattle.ini_text.specs.declared.error.Error.TheVariants.{Io, Memory, NoProgress, NotUtf8, Parse}
use Rattle.ini_text.specs.declared.option.ParseOption.{ParseOption}
use Rattle.ini_text.specs.declared.write.option.WriteOption.{WriteOption}
use Rattle.ini.specs.Texts.{Text, name_of, text_of}
use Rattle.ini.specs.Documents.{Document, section_removed}
use Rattle.ini.specs.Edits.{add_in, delete_in, delete_in_all, set_in}
use Rattle.ini.specs.Loading.{IsDocumentOf}
use Rattle.ini.specs.Written.{written}
use Rattle.ini.specs.declared.edits.Edit.{Edit}
use Rattle.ini.specs.declared.edits.Edit.TheVariants.{Set, Add, Delete, DeleteFrom, DeleteSection, Clear}

-- the document after one edit
abbrev pub edited_once : Document → Edit → Document
edited_once d (Set name key value) = set_in (name_of name) (text_of key) (text_of value) d
edited_once d (Add name key value) = add_in (name_of name) (text_of key) (text_of value) d
edited_once d (Delete name key) = delete_in_all (name_of name) (text_of key) d
edited_once d (DeleteFrom name key) = delete_in (name_of name) (text_of key) d
edited_once d (DeleteSection name) = section_removed (name_of name) d
edited_once d Clear = []

-- the document after the edits, made in order
abbrev pub edited : Document → List Edit → Document
edited d edits = fold edited_once d edits

-- the edit puts in a pair, so it may ask for memory
abbrev pub Grows : Edit → Type 0
Grows (Set _ _ _) = ⊤
Grows (Add _ _ _) = ⊤
Grows _ = ⊥

-- an edit was refused: those before it were made, and neither it nor a later one
pub record IsCutShort (edits : List Edit) (old new : Document) : Type 0 where
  pub made : List Edit
  pub refused : Edit
  pub later : List Edit
  pub split : edits ≡ made ++ refused ∷ later
  pub grows : Grows refused
  pub document : new ≡ edited old made

-- these bytes are what is written, once the document of the text is edited
pub record IsEditedText (o : ParseOption) (T : Text) (edits : List Edit) (w : WriteOption)
    (output : List ℕ) : Type 0 where
  pub document : Document
  pub loaded : IsDocumentOf o T document
  pub is_written : output ≡ encode_utf8_all (written (edited document edits) w)

-- what holds where the text, or memory, was refused
abbrev pub OnParseOrMemory : {X : Type 0} → Result X Error → Type 0 → Type 0
OnParseOrMemory (Err (Parse _)) P = P
OnParseOrMemory (Err (Memory _)) P = P
OnParseOrMemory _ P = ⊤

-- what holds where the device refused
abbrev pub OnDeviceRefusal : {X : Type 0} → Result X Error → Type 0 → Type 0
OnDeviceRefusal (Err (Io _)) P = P
OnDeviceRefusal (Err NoProgress) P = P
OnDeviceRefusal _ P = ⊤

-- every refusal but that of bytes
abbrev pub IsEditRefusal : Error → Type 0
IsEditRefusal NotUtf8 = ⊥
IsEditRefusal _ = ⊤
