-- Edits as values, with the texts that they name. No name is the general section's.
use Rattle.std.specs.Prelude.{Option}
use Rattle.ini.specs.Texts.{Text, str_name, str_text}
use Rattle.ini_edit.specs.declared.edits.Edit.{Edit}
use Rattle.ini_edit.specs.declared.edits.Edit.TheVariants as edit

pub data Editing : Type 0 where
  Set : (name : Option Text) (key value : Text) → Editing
  SetExisting : (name : Option Text) (key value : Text) → Editing
  Add : (name : Option Text) (key value : Text) → Editing
  Delete : (name : Option Text) (key : Text) → Editing
  RenameKey : (name : Option Text) (old new : Text) → Editing
  DeleteSection : (name : Text) → Editing
  RenameSection : (old new : Text) → Editing

abbrev pub editing_of : Edit → Editing
editing_of (edit.Set name key value) = Set (str_name name) (str_text key) (str_text value)
editing_of (edit.SetExisting name key value) = SetExisting (str_name name) (str_text key) (str_text value)
editing_of (edit.Add name key value) = Add (str_name name) (str_text key) (str_text value)
editing_of (edit.Delete name key) = Delete (str_name name) (str_text key)
editing_of (edit.RenameKey name old new) = RenameKey (str_name name) (str_text old) (str_text new)
editing_of (edit.DeleteSection name) = DeleteSection (str_text name)
editing_of (edit.RenameSection old new) = RenameSection (str_text old) (str_text new)
