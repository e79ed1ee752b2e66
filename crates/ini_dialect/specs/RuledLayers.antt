-- The document that is made of documents in layers under a rule.
use Rattle.std.specs.Prelude.{List, [], ◌∷◌, flat_map, fold, map, Option, None, unwrap_or}
use Rattle.ini.specs.Documents.{Document}
use Rattle.ini.specs.Texts.{Text}
use Rattle.ini_edit.specs.Editings.{Editing, Set}
use Rattle.ini_dialect.specs.Lookups.{keys_under, names_under, set_under, value_under}
use Rattle.ini_dialect.specs.declared.rule.Lookup.{Lookup}

-- the key is set to the value that counts in the document
abbrev pub setting_under : Lookup → Document → Option Text → Text → Editing
setting_under rule d name key = Set name key (unwrap_or (value_under rule name key d) [])

-- so is each key of the section, as the rule tells keys apart
abbrev pub settings_named_under : Lookup → Document → Option Text → List Editing
settings_named_under rule d name = map (setting_under rule d name) (keys_under rule name d)

-- so are those of each section, and of each document in order
abbrev pub settings_under : Lookup → Document → List Editing
settings_under rule d = flat_map (settings_named_under rule d) (names_under rule d)

abbrev pub settings_in_layers : Lookup → List Document → List Editing
settings_in_layers rule layers = flat_map (settings_under rule) layers

-- a document with what an edit sets, under the rule
abbrev pub with_setting : Lookup → Document → Editing → Document
with_setting rule d (Set name key value) = set_under rule name key value d
with_setting rule d _ = d

-- one after another they go over a general section without pairs
abbrev pub all_set : Lookup → List Editing → Document
all_set rule edits = fold (with_setting rule) ((None, []) ∷ []) edits
