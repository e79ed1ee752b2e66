-- What an edit of a document, or of the pairs of a section, leaves as it is.
use Rattle.std.specs.Prelude.{◌≡◌, false, if◌then◌else◌, List, [], map, drop, Option, Some, None, IsSome}
use Rattle.ini.specs.Texts.{Text, is_name, is_text}
use Rattle.ini.specs.Properties.{Pairs, all_removed, first_value, values}
use Rattle.ini.specs.Documents.{Document, HasGeneral, first_section, sections_named, value_in}

abbrev values_of_found : Text → Option Pairs → List Text
values_of_found key None = []
values_of_found key (Some pairs) = values key pairs

-- each key but this one keeps its first value, and all its values in order
abbrev pub KeepsOtherKeys : Text → (Pairs → Pairs) → Type 0
KeepsOtherKeys key edit = (other : Text) (pairs : Pairs) → is_text other key ≡ false
    → first_value other (edit pairs) ≡ first_value other pairs

abbrev pub KeepsOtherValues : Text → (Pairs → Pairs) → Type 0
KeepsOtherValues key edit = (other : Text) (pairs : Pairs) → is_text other key ≡ false
    → values other (edit pairs) ≡ values other pairs

-- the pairs of all keys but this one stay, in order
abbrev pub KeepsOtherPairs : Text → (Pairs → Pairs) → Type 0
KeepsOtherPairs key edit = (pairs : Pairs) → all_removed key (edit pairs) ≡ all_removed key pairs

-- each name but this one keeps its first section, and all its sections in order
abbrev pub KeepsOtherNames : Option Text → (Document → Document) → Type 0
KeepsOtherNames name edit = (other : Option Text) (d : Document) → is_name other name ≡ false
    → first_section other (edit d) ≡ first_section other d

abbrev pub KeepsOtherSections : Option Text → (Document → Document) → Type 0
KeepsOtherSections name edit = (other : Option Text) (d : Document) → is_name other name ≡ false
    → sections_named other (edit d) ≡ sections_named other d

-- in the first section of the name each key but this one keeps its first value
abbrev pub KeepsOtherKeysIn : Option Text → Text → (Document → Document) → Type 0
KeepsOtherKeysIn name key edit = (other : Text) (d : Document) → is_text other key ≡ false
    → value_in name other (edit d) ≡ value_in name other d

-- a name that has a section keeps one
abbrev pub KeepsNames : (Document → Document) → Type 0
KeepsNames edit = (other : Option Text) (d : Document) → IsSome (first_section other d)
    → IsSome (first_section other (edit d))

-- a document that has a general section keeps one
abbrev pub KeepsGeneral : (Document → Document) → Type 0
KeepsGeneral edit = (d : Document) → HasGeneral d → HasGeneral (edit d)

-- the document without the pairs of the key in the sections of the name
abbrev pub apart_from : Option Text → Text → Document → Document
apart_from name key d = map (λ s. (s.0, if is_name name s.0 then all_removed key s.1 else s.1)) d

-- where the name has a section all stays in order but those pairs
abbrev pub KeepsRest : Option Text → Text → (Document → Document) → Type 0
KeepsRest name key edit = (d : Document) → IsSome (first_section name d)
    → apart_from name key (edit d) ≡ apart_from name key d

-- the later sections of the name stay
abbrev pub KeepsLaterSections : Option Text → (Document → Document) → Type 0
KeepsLaterSections name edit = (d : Document)
    → drop 1 (sections_named name (edit d)) ≡ drop 1 (sections_named name d)

-- all values of the key in the first section of the name, in order
abbrev pub values_in : Option Text → Text → Document → List Text
values_in name key d = values_of_found key (first_section name d)
