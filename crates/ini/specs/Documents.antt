-- A document: a list of sections, each a name and the pairs of the section; and the document of items.
use Rattle.std.specs.Prelude.{List, [], ◌∷◌, ◌++◌, fold, map, Option, None, Some, IsSome, String}
use Rattle.std.specs.Prelude.{option_and_then}
use Rattle.std.specs.Map.{lookup, remove_entry}
use Rattle.ini_multimap.specs.Pairs.{distinct_keys, values_at, without}
use Rattle.ini_text.specs.Grammar.Elements.{Given, Header, Pair}
use Rattle.ini.specs.Texts.{Text, is_name, name_of}
use Rattle.ini.specs.Properties.{Pairs, both, first_value}

-- the sections in order; no name is the general section's
abbrev pub Document : Type 0
Document = List (Option Text × Pairs)

-- the pairs of the first section of the name
abbrev pub first_section : Option Text → Document → Option Pairs
first_section name d = lookup (is_name name) d

-- a general section is there
abbrev pub HasGeneral : Document → Type 0
HasGeneral d = IsSome (first_section None d)

-- the first value of the key in the first section of the name
abbrev pub value_in : Option Text → Text → Document → Option Text
value_in name key d = option_and_then (first_value key) (first_section name d)

-- the pairs of each section of the name, in order
abbrev pub sections_named : Option Text → Document → List Pairs
sections_named name d = values_at (is_name name) d

-- each distinct name, in the order of first occurrence
abbrev pub names : Document → List (Option Text)
names d = distinct_keys is_name d

-- without the first section of the name
abbrev pub section_removed : Option Text → Document → Document
section_removed name d = remove_entry (is_name name) d

-- without any section of the name
abbrev pub all_sections_removed : Option Text → Document → Document
all_sections_removed name d = without (is_name name) d

-- the pair goes last in the last section
abbrev pub with_pair : Text → Text → Document → Document
with_pair key value [] = []
with_pair key value (s ∷ []) = (s.0, s.1 ++ (key, value) ∷ []) ∷ []
with_pair key value (s ∷ t ∷ d) = s ∷ with_pair key value (t ∷ d)

-- a header opens a section without pairs, last
abbrev pub with_item : Document → Given → Document
with_item d (Header name) = d ++ (Some name, []) ∷ []
with_item d (Pair key value) = with_pair key value d

-- the document of items: it begins as one general section without pairs
abbrev pub document_of : List Given → Document
document_of items = fold with_item ((None, []) ∷ []) items

module _ {Z : Type 0} where
  -- what names show
  abbrev pub names_of : List (Option (String Z)) → List (Option Text)
  names_of ns = map name_of ns

  -- what sections named by strings show
  abbrev pub sections_of : List (Option (String Z) × Pairs) → Document
  sections_of ss = both name_of (λ ps. ps) ss
