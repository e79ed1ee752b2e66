-- How a merge ends: what other files set, set in a file's text.
use Rattle.std.specs.Prelude.{◌≡◌, ℕ, false, true, List, [], ◌∷◌, ◌++◌, Some, ⊤, chars, length, map}
use Rattle.std.specs.Str.{IsUtf8}
use Rattle.std.specs.declared.alloc.Global.{Global}
use Rattle.std.specs.declared.vec.Vec.{Vec}
use Rattle.ini_text.specs.Parsing.ByteOrderMarks.{has_byte_order_mark, without_byte_order_mark}
use Rattle.ini_text.specs.declared.error.Error.{Error}
use Rattle.ini_text.specs.declared.error.Error.TheVariants.{Memory, NotUtf8, Parse}
use Rattle.ini_text.specs.declared.option.ParseOption.{ParseOption}
use Rattle.ini_text.specs.declared.write.option.WriteOption.{WriteOption}
use Rattle.ini.specs.Documents.{Document}
use Rattle.ini.specs.Loading.{IsDocumentOf, IsStopOf, IsTextWith}
use Rattle.ini.specs.Texts.{Text}
use Rattle.ini_edit.specs.declared.edit_list.RefusedEdit.{RefusedEdit}
use Rattle.ini_file.specs.Bytes.{byte_order_mark_of}
use Rattle.ini_dialect.specs.Rules.{is_own}
use Rattle.ini_file.specs.Ruled.{RuledBy}
use Rattle.ini_file.specs.RuledMerges.{HasSettings, RefusesSettingsBy, settings_by}
use Rattle.ini_file.specs.Writing.{IsWriting}
use Rattle.ini_file.specs.declared.merge.MergeEnd.{MergeEnd}
use Rattle.ini_file.specs.declared.merge.MergeEnd.TheVariants.{Done, Other, File, Edit, GetsMark}

-- the bytes of files
abbrev pub bytes_of : List (Vec ℕ Global) → List (List ℕ)
bytes_of files = map (λ file. file.items) files

-- the text has a document
abbrev pub HasDocument : ParseOption → Text → Type 0
HasDocument o T = (document : Document) × IsDocumentOf o T document

-- the bytes are those of a text with this document
abbrev pub Loads : ParseOption → List ℕ → Document → Type 0
Loads o file document = IsTextWith (λ T. IsDocumentOf o T document) (without_byte_order_mark file)

-- so it is with each file and its document
pub data AreLoaded (o : ParseOption) : List (List ℕ) → List Document → Type 0 where
  none : AreLoaded o [] []
  then : {files : List (List ℕ)} {documents : List Document} → AreLoaded o files documents
      → (file : List ℕ) {document : Document} → Loads o file document
      → AreLoaded o (files ++ file ∷ []) (documents ++ document ∷ [])

-- the bytes have no document
abbrev pub RefusesFile : ParseOption → List ℕ → Error → Type 0
RefusesFile o file NotUtf8 = ¬ (IsUtf8 (without_byte_order_mark file))
RefusesFile o file (Parse e) = IsTextWith (λ T. IsStopOf o T e) (without_byte_order_mark file)
RefusesFile o file (Memory _) = ⊤
RefusesFile o file _ = ⊥

-- the file at the index has no document, and each before it has one
pub record RefusesOther (o : ParseOption) (files : List (List ℕ)) (index : ℕ) (e : Error) : Type 0 where
  pub before : List (List ℕ)
  pub file : List ℕ
  pub following : List (List ℕ)
  pub whole : files ≡ before ++ file ∷ following
  pub is_at : index ≡ length before
  pub documents : List Document
  pub are_loaded : AreLoaded o before documents
  pub is_refused : RefusesFile o file e

-- The bytes are the mark, and after it, in UTF-8, the text T with what the documents set, written as the
-- options say; where they set nothing T has a document all the same.
pub record IsMerged (r : RuledBy) (documents : List Document)
    (byte_order_mark : List ℕ) (T : Text) (bytes : List ℕ) : Type 0 where
  pub option : WriteOption
  pub is_option : IsWriting r.options (Some r.separator) option
  pub new : List ℕ
  pub whole : bytes ≡ byte_order_mark ++ new
  pub is_utf8 : IsUtf8 new
  pub are_made : HasSettings (is_own r.rule) r.rule r.options.reading option
      (settings_by (is_own r.rule) r.rule documents) T (chars new)
  pub is_read : settings_by (is_own r.rule) r.rule documents ≡ [] → HasDocument r.options.reading T
  -- a file that has no mark gets none, which reading would drop
  pub gets_none : byte_order_mark ≡ [] → has_byte_order_mark new ≡ false

-- the file has no mark, and with what the documents set in its text T it would get one
pub record GetsMarkMerged (r : RuledBy) (documents : List Document)
    (byte_order_mark : List ℕ) (T : Text) : Type 0 where
  pub option : WriteOption
  pub is_option : IsWriting r.options (Some r.separator) option
  pub new : List ℕ
  pub is_utf8 : IsUtf8 new
  pub are_made : HasSettings (is_own r.rule) r.rule r.options.reading option
      (settings_by (is_own r.rule) r.rule documents) T (chars new)
  pub has_none : byte_order_mark ≡ []
  pub gets : has_byte_order_mark new ≡ true

-- of what the documents set something is refused in the text T
pub record RefusesMerge (r : RuledBy) (documents : List Document)
    (T : Text) (refused : RefusedEdit) : Type 0 where
  pub option : WriteOption
  pub is_option : IsWriting r.options (Some r.separator) option
  pub is_refused : RefusesSettingsBy (is_own r.rule) r.rule r.options.reading option
      (settings_by (is_own r.rule) r.rule documents) T refused

module _ (r : RuledBy) where
  -- how a merge of documents into a text after a mark ends
  abbrev pub EndsOnText : List Document → List ℕ → Text → MergeEnd → Type 0
  EndsOnText documents byte_order_mark T (Done bytes) = IsMerged r documents byte_order_mark T bytes.items
  EndsOnText documents byte_order_mark T (Edit refused) = RefusesMerge r documents T refused
  EndsOnText documents byte_order_mark T GetsMark = GetsMarkMerged r documents byte_order_mark T
  EndsOnText documents byte_order_mark T (File (Parse e)) = IsStopOf r.options.reading T e
  EndsOnText documents byte_order_mark T (File (Memory _)) = ⊤
  EndsOnText documents byte_order_mark T _ = ⊥

  -- the same where other files have these documents, of the file's bytes, which may be no text
  abbrev pub EndsOnBytes : List Document → List ℕ → MergeEnd → Type 0
  EndsOnBytes documents input (File NotUtf8) = ¬ (IsUtf8 (without_byte_order_mark input))
  EndsOnBytes documents input end =
      IsTextWith (λ T. EndsOnText documents (byte_order_mark_of input) T end) (without_byte_order_mark input)

  -- how a merge of other files into a file ends
  abbrev pub HasMerge : List ℕ → List (List ℕ) → MergeEnd → Type 0
  HasMerge input others (Other index e) = RefusesOther r.options.reading others index e
  HasMerge input others end =
      (documents : List Document) × AreLoaded r.options.reading others documents
      × EndsOnBytes documents input end
