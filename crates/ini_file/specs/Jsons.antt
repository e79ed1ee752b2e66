-- A document as an object of JSON.
use Rattle.std.specs.Prelude.{◌++◌, List, [], ◌∷◌, codes, encode_utf8_all, flat_map, Option, None, Some}
use Rattle.ini.specs.Texts.{Text}
use Rattle.ini.specs.Documents.{Document}
use Rattle.ini_dialect.specs.Lookups.{all_values, keys_under, names_under}
use Rattle.ini_dialect.specs.declared.rule.CaseRule.{CaseRule}
use Rattle.ini_dialect.specs.declared.rule.Lookup.{Lookup}
use Rattle.ini_dialect.specs.declared.rule.SectionRule.TheVariants.{Joined}
use Rattle.ini_dialect.specs.declared.rule.ValueRule.TheVariants.{First}
use Rattle.ini_words.specs.Words.{Word}
use Rattle.ini_file.specs.JsonStrings.{json_string}

-- a string
abbrev pub json_text : Text → Word
json_text text = json_string (encode_utf8_all text)

-- what each is, with commas between them
abbrev pub with_commas : {X : Type 0} → (X → Word) → List X → Word
with_commas f [] = []
with_commas f (x ∷ xs) = f x ++ flat_map (λ y. 0x2C ∷ f y) xs

-- one value, or a list
abbrev pub json_value : List Text → Word
json_value (value ∷ []) = json_text value
json_value values = 0x5B ∷ (with_commas json_text values ++ 0x5D ∷ [])

-- a section's name; the general one's is empty
abbrev pub json_name : Option Text → Word
json_name None = codes "\"\""
json_name (Some name) = json_text name

module _ (rule : Lookup) (d : Document) where
  -- a key and its values, in the sections of the name
  abbrev pub json_member : Option Text → Text → Word
  json_member name key = json_text key ++ 0x3A ∷ json_value (all_values rule name key d)

  -- a section's name and its members
  abbrev pub json_section : Option Text → Word
  json_section name =
      json_name name ++ (codes ":{" ++ (with_commas (json_member name) (keys_under rule name d) ++ 0x7D ∷ []))

  -- the document
  abbrev pub json_document : Word
  json_document = 0x7B ∷ (with_commas json_section (names_under rule d) ++ codes "}\n")

-- all sections and all values count
abbrev pub rule_of_all : CaseRule → Lookup
rule_of_all case = record { sections = Joined; values = First; case = case }
