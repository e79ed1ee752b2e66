-- Several edits of a text in pieces, one after another.
use Rattle.std.specs.Prelude.{◌≡◌, Bool, true, false, List, [], ◌∷◌, ◌++◌, Option, Some, ⊤, length}
use Rattle.std.specs.Prelude.{is_some, alloc_error}
use Rattle.ini.specs.Texts.{Text}
use Rattle.ini_text.specs.Laws.Plain.{IsPlainName}
use Rattle.ini_text.specs.declared.error.Error.TheVariants.{Memory}
use Rattle.ini_text.specs.declared.write.option.WriteOption.{WriteOption}
use Rattle.ini_edit.specs.Editings.{Editing, Set, SetExisting, Add, Delete, RenameKey, DeleteSection}
use Rattle.ini_edit.specs.Editings.{RenameSection}
use Rattle.ini_edit.specs.Made.{made_in}
use Rattle.ini_edit.specs.Renamed.{IsPlainBareKey}
use Rattle.ini_edit.specs.SourceEditsAdded.{IsAddedIn, IsSetIn, RefusesAdding, RefusesToSetIn}
use Rattle.ini_edit.specs.SourceEditsDelete.{deleted_nth}
use Rattle.ini_edit.specs.SourceEdits.{RenamesKeyIn, RenamesNameIn}
use Rattle.ini_edit.specs.SourceEditsSections.{section_deleted}
use Rattle.ini_edit.specs.SourceEditsSet.{SetsFirst}
use Rattle.ini_edit.specs.SourcePlaces.{pair_place, section_place}
use Rattle.ini_edit.specs.SourceWritten.{HasForm}
use Rattle.ini_edit.specs.Sources.{Pieces, SectionPiece, document_in}
use Rattle.ini_edit.specs.declared.edit_list.RefusedEdit.{RefusedEdit}
use Rattle.ini_edit.specs.declared.error.EditError.{EditError}
use Rattle.ini_edit.specs.declared.error.EditError.TheVariants.{Key, Name, Text as TextError, Value}
use Rattle.ini_edit.specs.declared.source.set.LaterPairs.{LaterPairs}
use Rattle.ini_edit.specs.declared.source.set.LaterPairs.TheVariants.{TakenOut}

-- the pieces with other sections
abbrev pub with_sections : Pieces → List SectionPiece → Pieces
with_sections p ss = record p { sections = ss }

-- the first pair of the key is taken out, or there is none, and all stays
abbrev pub DeletesIn : Pieces → Pieces → Option Text → Text → Bool → Type 0
DeletesIn old new name key found = (found ≡ is_some (pair_place name key 0 old.sections))
    × (new ≡ with_sections old (deleted_nth old.option name key 0 old.sections))

-- the first section of the name is, or there is none, and all stays
abbrev pub DeletesSectionIn : Pieces → Pieces → Text → Bool → Type 0
DeletesSectionIn old new name found = (found ≡ is_some (section_place (Some name) old.sections))
    × (new ≡ with_sections old (section_deleted old.option name old.sections))

-- what an edit that found what it is about, or didn't, makes of the document, where the later pairs of a key
-- that is set are taken out
abbrev pub MakesDocument : Editing → Pieces → Pieces → Bool → Type 0
MakesDocument e old new true = document_in new ≡ made_in e (document_in old)
MakesDocument e old new false = document_in new ≡ document_in old

module _ (w : WriteOption) (later : LaterPairs) where
  -- the edit makes the new pieces of the old ones, and found what it is about or didn't
  abbrev pub MakesOf : Editing → Pieces → Pieces → Bool → Type 0
  MakesOf (Set name key value) old new found =
      (found ≡ true) × IsSetIn old.option w later old new name key value
  MakesOf (SetExisting name key value) old new found =
      SetsFirst old.option w.escape_policy later old new name key value found
  MakesOf (Add name key value) old new found = (found ≡ true) × IsAddedIn old.option w old new name key value
  MakesOf (Delete name key) old new found = DeletesIn old new name key found
  MakesOf (RenameKey name before after) old new found =
      RenamesKeyIn old.option w.escape_policy old new name before after found
  MakesOf (DeleteSection name) old new found = DeletesSectionIn old new name found
  MakesOf (RenameSection before after) old new found =
      RenamesNameIn w.escape_policy old new before after found

  -- what an edit is refused with
  abbrev pub RefusesOf : Editing → Pieces → EditError → Type 0
  RefusesOf (Set name key value) p e = RefusesToSetIn p.option w p.sections name key value e
  RefusesOf (Add name key value) p e = RefusesAdding p.option w p.sections name key value e
  RefusesOf _ p (TextError (Memory _)) = ⊤
  RefusesOf (SetExisting name key value) p Value = ¬ HasForm p.option w.escape_policy value
  RefusesOf (RenameKey name before after) p Key = ¬ IsPlainBareKey p.option w.escape_policy after
  RefusesOf (RenameSection before after) p Name = ¬ IsPlainName p.option w.escape_policy after
  RefusesOf _ p _ = ⊥

  -- one edit more makes the new pieces, and whether it found what it is about comes last
  pub record MakesNext (e : Editing) (old new : Pieces) (found after : List Bool) : Type 0 where
    pub is_found : Bool
    pub made : MakesOf e old new is_found
    pub option : new.option ≡ old.option
    pub document : later ≡ TakenOut → MakesDocument e old new is_found
    pub kept : after ≡ found ++ is_found ∷ []

  -- the edits one after another, and beside each whether it found what it is about
  pub data AreMadeOf (old : Pieces) : List Editing → List Bool → Pieces → Type 0 where
    none : AreMadeOf old [] [] old
    then : {edits : List Editing} {found after : List Bool} {mid new : Pieces} (e : Editing)
        → AreMadeOf old edits found mid → MakesNext e mid new found after
        → AreMadeOf old (edits ++ e ∷ []) after new

  -- the first of the edits is refused, or memory is
  abbrev pub RefusesFirstOf : List Editing → Pieces → EditError → Type 0
  RefusesFirstOf [] p e = e ≡ TextError (Memory alloc_error)
  RefusesFirstOf (edit ∷ edits) p e = RefusesOf edit p e

  -- the edits before the one at the index make these pieces, and of those this one is refused, or memory is
  pub record RefusesOneOfThem (old : Pieces) (edits : List Editing) (refused : RefusedEdit) : Type 0 where
    pub before : List Editing
    pub following : List Editing
    pub found : List Bool
    pub mid : Pieces
    pub whole : edits ≡ before ++ following
    pub index : refused.index ≡ length before
    pub are_made : AreMadeOf old before found mid
    pub is_refused : RefusesFirstOf following mid refused.refusal
