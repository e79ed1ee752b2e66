-- The edits of a document, by the name of a section.
use Rattle.std.specs.Prelude.{Bool, if◌then◌else◌, List, [], ◌∷◌, ◌++◌, map, Option}
use Rattle.std.specs.Map.{set_value}
use Rattle.ini.specs.Texts.{Text, is_name, is_text}
use Rattle.ini.specs.Properties.{Pairs, inserted, removed}
use Rattle.ini.specs.Documents.{Document}

-- f at the first section of the name; where there is none, `last` comes last
abbrev pub edit_section : Option Text → (Pairs → Pairs) → Document → Document → Document
edit_section name f last [] = last
edit_section name f last (s ∷ d) =
    if is_name name s.0 then (s.0, f s.1) ∷ d else s ∷ edit_section name f last d

-- the pair is inserted in the first section of the name, or in a new last one
abbrev pub set_in : Option Text → Text → Text → Document → Document
set_in name key value d = edit_section name (inserted key value) ((name, (key, value) ∷ []) ∷ []) d

-- the pair is appended there
abbrev pub add_in : Option Text → Text → Text → Document → Document
add_in name key value d =
    edit_section name (λ pairs. pairs ++ (key, value) ∷ []) ((name, (key, value) ∷ []) ∷ []) d

-- the first section of the name loses the first pair of the key
abbrev pub delete_in : Option Text → Text → Document → Document
delete_in name key d = edit_section name (removed key) [] d

-- the first value of the key there is another one
abbrev pub replace_in : Option Text → Text → Text → Document → Document
replace_in name key value d = edit_section name (λ pairs. set_value (is_text key) pairs value) [] d

-- every section of the name loses the first pair of the key
abbrev pub delete_in_all : Option Text → Text → Document → Document
delete_in_all name key d = map (λ s. (s.0, if is_name name s.0 then removed key s.1 else s.1)) d

-- the first pair that fits has another key, at its place
abbrev pub first_renamed : {K V : Type 0} → (K → Bool) → K → List (K × V) → List (K × V)
first_renamed test key [] = []
first_renamed test key (p ∷ ps) = if test p.0 then (key, p.1) ∷ ps else p ∷ first_renamed test key ps

-- the first pair of the key has another key
abbrev pub key_renamed : Text → Text → Pairs → Pairs
key_renamed key other pairs = first_renamed (is_text key) other pairs

-- so it has in the first section of the name
abbrev pub rename_key_in : Option Text → Text → Text → Document → Document
rename_key_in name key other d = edit_section name (key_renamed key other) [] d

-- the first section of the name has another name
abbrev pub section_renamed : Option Text → Option Text → Document → Document
section_renamed name other d = first_renamed (is_name name) other d

-- the first section of the name is `pairs`
abbrev pub section_set : Option Text → Pairs → Document → Document
section_set name pairs d = set_value (is_name name) d pairs

-- the first section of the name is `pairs`, or a new last one is
abbrev pub with_section : Option Text → Document → Pairs → Document
with_section name d pairs = edit_section name (λ _. pairs) ((name, pairs) ∷ []) d

-- the same as an edit of the document
abbrev pub section_put : Option Text → Pairs → Document → Document
section_put name pairs d = with_section name d pairs
