-- What an edit makes of a document, where a text has nothing that it is about, and which words of it can't
-- be written.
use Rattle.std.specs.Prelude.{◌≡◌, Bool, true, false, List, [], ◌∷◌, Some}
use Rattle.ini_text.specs.Grammar.Strings.{noted_key_ends}
use Rattle.ini_text.specs.Laws.Plain.{IsPlainKey, IsPlainName, IsReadBack, has_bare_note}
use Rattle.ini_text.specs.declared.option.ParseOption.{ParseOption}
use Rattle.ini_text.specs.declared.write.policy.EscapePolicy.{EscapePolicy}
use Rattle.ini.specs.Documents.{Document, section_removed}
use Rattle.ini.specs.Edits.{add_in, delete_in, rename_key_in, section_renamed, set_in}
use Rattle.ini.specs.Texts.{Text}
use Rattle.ini_edit.specs.Editings.{Editing, Set, SetExisting, Add, Delete, RenameKey}
use Rattle.ini_edit.specs.Editings.{DeleteSection, RenameSection}
use Rattle.ini_edit.specs.FirstPairs.{LacksPair, LacksSection}
use Rattle.ini_edit.specs.Renamed.{IsPlainBareKey}
use Rattle.ini_edit.specs.SourceWritten.{HasForm}

-- the document with the edit made in it
abbrev pub made_in : Editing → Document → Document
made_in (Set name key value) d = set_in name key value d
made_in (SetExisting name key value) d = set_in name key value d
made_in (Add name key value) d = add_in name key value d
made_in (Delete name key) d = delete_in name key d
made_in (RenameKey name old new) d = rename_key_in name old new d
made_in (DeleteSection name) d = section_removed (Some name) d
made_in (RenameSection old new) d = section_renamed (Some old) (Some new) d

-- the document with those edits made in it that found what they are about
abbrev pub all_made_in : List Editing → List Bool → Document → Document
all_made_in [] found d = d
all_made_in (e ∷ edits) [] d = d
all_made_in (e ∷ edits) (true ∷ found) d = all_made_in edits found (made_in e d)
all_made_in (e ∷ edits) (false ∷ found) d = all_made_in edits found d

-- what the edit is about isn't in the text
abbrev pub HasNothing : ParseOption → Editing → Text → Type 0
HasNothing o (Set name key value) T = ⊥
HasNothing o (SetExisting name key value) T = LacksPair o T name key
HasNothing o (Add name key value) T = ⊥
HasNothing o (Delete name key) T = LacksPair o T name key
HasNothing o (RenameKey name old new) T = LacksPair o T name old
HasNothing o (DeleteSection name) T = LacksSection o T (Some name)
HasNothing o (RenameSection old new) T = LacksSection o T (Some old)

-- a key and its value can be written in a line of their own
pub record IsWritableLine (o : ParseOption) (policy : EscapePolicy) (key value : Text) : Type 0 where
  pub has_form : HasForm o policy value
  pub plain_key : IsPlainKey o policy key
  pub key_no_note : (noted_key_ends o).notes ≡ true → has_bare_note policy key ≡ false
  pub key_read_back : IsReadBack o policy key

-- The edit has a word that can't be written, whatever the text is. (What else setting and adding are refused
-- with for their words may depend on the text.)
abbrev pub HasUnwritableWord : ParseOption → EscapePolicy → Editing → Type 0
HasUnwritableWord o policy (Set name key value) = ¬ HasForm o policy value
HasUnwritableWord o policy (SetExisting name key value) = ¬ HasForm o policy value
HasUnwritableWord o policy (Add name key value) = ¬ IsWritableLine o policy key value
HasUnwritableWord o policy (RenameKey name old new) = ¬ IsPlainBareKey o policy new
HasUnwritableWord o policy (RenameSection old new) = ¬ IsPlainName o policy new
HasUnwritableWord o policy _ = ⊥
