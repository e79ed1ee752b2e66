-- What a call that edits a whole text makes of it: the text is read in pieces, these are edited, and written
-- again.
use Rattle.std.specs.Prelude.{◌≡◌, Bool, true, List, [], ◌∷◌, Option, Some, alloc_error, ⊤}
use Rattle.ini_text.specs.Laws.Plain.{IsPlainName}
use Rattle.ini_text.specs.declared.error.Error.{Error}
use Rattle.ini_text.specs.declared.error.Error.TheVariants.{Memory, Parse}
use Rattle.ini_text.specs.declared.error.ParseError.{ParseError}
use Rattle.ini_text.specs.declared.option.ParseOption.{ParseOption}
use Rattle.ini_text.specs.declared.write.option.WriteOption.{WriteOption}
use Rattle.ini_text.specs.declared.write.policy.EscapePolicy.{EscapePolicy}
use Rattle.ini.specs.Documents.{Document, section_removed}
use Rattle.ini.specs.Edits.{add_in, delete_in, rename_key_in, section_renamed, set_in}
use Rattle.ini.specs.Loading.{IsDocumentOf, IsStopOf}
use Rattle.ini.specs.Texts.{Text}
use Rattle.ini_edit.specs.Editings.{Editing, Set, SetExisting, Add, Delete, RenameKey}
use Rattle.ini_edit.specs.Editings.{DeleteSection, RenameSection}
use Rattle.ini_edit.specs.Made.{HasUnwritableWord}
use Rattle.ini_edit.specs.Renamed.{IsPlainBareKey}
use Rattle.ini_edit.specs.SourceEdits.{RenamesKeyIn, RenamesNameIn}
use Rattle.ini_edit.specs.SourceEditsAdded.{IsAddedIn, IsSetIn, RefusesAdding, RefusesToSetIn}
use Rattle.ini_edit.specs.SourceEditsList.{AreMadeOf, DeletesIn, DeletesSectionIn, RefusesOneOfThem}
use Rattle.ini_edit.specs.SourceEditsSet.{SetsFirst}
use Rattle.ini_edit.specs.SourceReads.{AreRead}
use Rattle.ini_edit.specs.SourceWritten.{HasForm, IsWritableNew, RefusesNew}
use Rattle.ini_edit.specs.Sources.{Pieces, document_in, text_in}
use Rattle.ini_edit.specs.declared.edit_list.RefusedEdit.{RefusedEdit}
use Rattle.ini_edit.specs.declared.error.EditError.{EditError}
use Rattle.ini_edit.specs.declared.error.EditError.TheVariants.{Key, Name, Text as TextError, Value}
use Rattle.ini_edit.specs.declared.source.set.LaterPairs.TheVariants.{TakenOut}

-- these are the pieces that the text is read in
pub record IsReadInPieces (o : ParseOption) (T : Text) (p : Pieces) : Type 0 where
  pub option : p.option ≡ o
  pub text : text_in p ≡ T
  pub are_read : AreRead o p.sections
  pub document : IsDocumentOf o T (document_in p)

-- the text T has a document, and U has that document, edited
pub record LoadsEdited (o : ParseOption) (T U : Text) (edit : Document → Document) : Type 0 where
  pub document : Document
  pub was : IsDocumentOf o T document
  pub is : IsDocumentOf o U (edit document)

-- The text U is that of other pieces, which an edit makes of those of T; and it loads as the document so
-- edited.
pub record IsEditedText (o : ParseOption) (T U : Text) (makes : Pieces → Pieces → Type 0)
    (edit : Document → Document) : Type 0 where
  pub old : Pieces
  pub new : Pieces
  pub is_read : IsReadInPieces o T old
  pub made : makes old new
  pub text : U ≡ text_in new
  pub loads : LoadsEdited o T U edit

-- The text U is T with the key set: wherever its pair stands, or in a new one; and where its pair is there.
abbrev pub IsSetText : ParseOption → WriteOption → Text → Option Text → (key value : Text) → Text → Type 0
IsSetText o w T name key value U =
    IsEditedText o T U (λ p q. IsSetIn o w TakenOut p q name key value) (set_in name key value)

abbrev pub IsSetThereText : ParseOption → EscapePolicy → Text → Option Text → (key value : Text) → Text
    → Type 0
IsSetThereText o policy T name key value U =
    IsEditedText o T U (λ p q. SetsFirst o policy TakenOut p q name key value true)
    (set_in name key value)

-- The text U is T with the pair added.
abbrev pub IsAddedText : ParseOption → WriteOption → Text → Option Text → (key value : Text) → Text → Type 0
IsAddedText o w T name key value U =
    IsEditedText o T U (λ p q. IsAddedIn o w p q name key value) (add_in name key value)

-- The text U is T without the first pair of the key; and T in which that has another key.
abbrev pub IsDeletedText : ParseOption → Text → Option Text → (key : Text) → Text → Type 0
IsDeletedText o T name key U =
    IsEditedText o T U (λ p q. DeletesIn p q name key true) (delete_in name key)

abbrev pub IsKeyRenamedText : ParseOption → EscapePolicy → Text → Option Text → (old new : Text) → Text
    → Type 0
IsKeyRenamedText o policy T name old new U =
    IsEditedText o T U (λ p q. RenamesKeyIn o policy p q name old new true)
    (rename_key_in name old new)

-- The text U is T without the first section of the name; and T in which that has another name.
abbrev pub IsSectionDeletedText : ParseOption → Text → (name : Text) → Text → Type 0
IsSectionDeletedText o T name U =
    IsEditedText o T U (λ p q. DeletesSectionIn p q name true) (section_removed (Some name))

abbrev pub IsNameRenamedText : ParseOption → EscapePolicy → Text → (old new : Text) → Text → Type 0
IsNameRenamedText o policy T old new U =
    IsEditedText o T U (λ p q. RenamesNameIn policy p q old new true) (section_renamed (Some old) (Some new))

-- reading the text is refused so: where it stops, or for want of memory
abbrev pub IsRefusalOf : ParseOption → Text → Error → Type 0
IsRefusalOf o T (Parse e) = IsStopOf o T e
IsRefusalOf o T (Memory _) = ⊤
IsRefusalOf o T _ = ⊥

-- its pieces refuse so
pub record RefuseInPieces (o : ParseOption) (T : Text) (refuses : Pieces → Type 0) : Type 0 where
  pub pieces : Pieces
  pub is_read : IsReadInPieces o T pieces
  pub refused : refuses pieces

-- Setting a key is refused for its value, whatever the text is; then for the text; and then as in its pieces.
abbrev pub RefusesToSetOf : ParseOption → WriteOption → Text → Option Text → (key value : Text) → EditError
    → Type 0
RefusesToSetOf o w T name key value Value = ¬ HasForm o w.escape_policy value
RefusesToSetOf o w T name key value (TextError (Parse e)) = HasForm o w.escape_policy value × IsStopOf o T e
RefusesToSetOf o w T name key value (TextError (Memory _)) = ⊤
RefusesToSetOf o w T name key value e =
    RefuseInPieces o T (λ p. RefusesToSetIn o w p.sections name key value e)

-- Adding a pair is refused for its words, whatever the text is; then for the text; and then as in its pieces.
pub data RefusesToAddTo (o : ParseOption) (w : WriteOption) (T : Text) (name : Option Text)
    (key value : Text)
    : EditError → Type 0 where
  words : {e : EditError} → RefusesNew o w key value e → RefusesToAddTo o w T name key value e
  fault : {e : ParseError} → IsWritableNew o w key value → IsStopOf o T e
      → RefusesToAddTo o w T name key value (TextError (Parse e))
  pieces : {e : EditError} → RefuseInPieces o T (λ p. RefusesAdding o w p.sections name key value e)
      → RefusesToAddTo o w T name key value e

-- the text U is T with the edit made in it
abbrev pub IsMadeText : ParseOption → WriteOption → Editing → Text → Text → Type 0
IsMadeText o w (Set name key value) T U = IsSetText o w T name key value U
IsMadeText o w (SetExisting name key value) T U = IsSetThereText o w.escape_policy T name key value U
IsMadeText o w (Add name key value) T U = IsAddedText o w T name key value U
IsMadeText o w (Delete name key) T U = IsDeletedText o T name key U
IsMadeText o w (RenameKey name old new) T U = IsKeyRenamedText o w.escape_policy T name old new U
IsMadeText o w (DeleteSection name) T U = IsSectionDeletedText o T name U
IsMadeText o w (RenameSection old new) T U = IsNameRenamedText o w.escape_policy T old new U

-- What an edit of a whole text is refused with: setting and adding as their calls say; each other edit for
-- its new word, whatever the text is, and else for the text, or for want of memory.
abbrev pub RefusesOfText : ParseOption → WriteOption → Editing → Text → EditError → Type 0
RefusesOfText o w (Set name key value) T e = RefusesToSetOf o w T name key value e
RefusesOfText o w (Add name key value) T e = RefusesToAddTo o w T name key value e
RefusesOfText o w e T (TextError (Parse stop)) =
    (¬ HasUnwritableWord o w.escape_policy e) × IsStopOf o T stop
RefusesOfText o w e T (TextError (Memory _)) = ⊤
RefusesOfText o w (SetExisting name key value) T Value = ¬ HasForm o w.escape_policy value
RefusesOfText o w (RenameKey name old new) T Key = ¬ IsPlainBareKey o w.escape_policy new
RefusesOfText o w (RenameSection old new) T Name = ¬ IsPlainName o w.escape_policy new
RefusesOfText o w _ T _ = ⊥

-- The edits make another text of this one, in its pieces, one after another; with none it isn't read.
pub data MakesText (o : ParseOption) (w : WriteOption) : List Editing → Text → List Bool → Text
    → Type 0 where
  none : {T : Text} → MakesText o w [] T [] T
  some : {edits : List Editing} {T U : Text} {found : List Bool} (old new : Pieces) → IsReadInPieces o T old
      → AreMadeOf w TakenOut old edits found new → U ≡ text_in new → MakesText o w edits T found U

-- Memory is refused; the first edit is, where the text is or the edit for its words; or one of them is in the
-- pieces.
pub data RefusesText (o : ParseOption) (w : WriteOption) : List Editing → Text → RefusedEdit → Type 0 where
  memory : {edits : List Editing} {T : Text}
      → RefusesText o w edits T (record { index = 0; refusal = TextError (Memory alloc_error) })
  first : {e : Editing} {edits : List Editing} {T : Text} {refusal : EditError}
      → RefusesOfText o w e T refusal
      → RefusesText o w (e ∷ edits) T (record { index = 0; refusal = refusal })
  pieces : {edits : List Editing} {T : Text} {refused : RefusedEdit}
      → RefuseInPieces o T (λ p. RefusesOneOfThem w TakenOut p edits refused)
      → RefusesText o w edits T refused
