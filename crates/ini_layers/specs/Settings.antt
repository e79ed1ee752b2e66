-- Settings, and what documents answer of them.
use Rattle.std.specs.Prelude.{◌≡◌, Bool, ◌&&◌, List, [], map, flat_map, Option, unwrap_or}
use Rattle.ini.specs.Documents.{Document, first_section, names, value_in}
use Rattle.ini.specs.Properties.{distinct}
use Rattle.ini.specs.Texts.{Text, is_name, is_text}
use Rattle.ini_dialect.specs.Flattened.{flattened, listed}
use Rattle.ini_dialect.specs.Lists.{list_text}
use Rattle.ini_dialect.specs.Lookups.{all_values, value_under}
use Rattle.ini_dialect.specs.declared.rule.Lookup.{Lookup}
use Rattle.ini_layers.specs.declared.change.SettingValue.{SettingValue}
use Rattle.ini_layers.specs.declared.change.SettingValue.TheVariants.{Counting, List as WholeList}

-- a setting: the name of its section, and its key
abbrev pub Setting : Type 0
Setting = Option Text × Text

abbrev pub is_setting : Setting → Setting → Bool
is_setting s t = is_name s.0 t.0 && is_text s.1 t.1

-- its value: the first one of the key in the first section of the name
abbrev pub value_of : Setting → Document → Option Text
value_of s d = value_in s.0 s.1 d

-- every look-up answers the same
abbrev pub AnswerAlike : Document → Document → Type 0
AnswerAlike d e = (name : Option Text) (key : Text) → value_in name key d ≡ value_in name key e

-- what a setting's value is under a rule: the one that counts, or the list of all, as a text
abbrev pub value_by : SettingValue → Lookup → Option Text → Text → Document → Option Text
value_by Counting rule name key d = value_under rule name key d
value_by WholeList rule name key d = list_text (all_values rule name key d)

-- the document in which each setting has that as its one value
abbrev pub flat_by : SettingValue → Lookup → Document → Document
flat_by Counting rule d = flattened rule d
flat_by WholeList rule d = listed rule d

-- every setting has the same value
abbrev pub AlikeBy : SettingValue → Lookup → Document → Document → Type 0
AlikeBy which rule d e = (name : Option Text) (key : Text)
    → value_by which rule name key d ≡ value_by which rule name key e

-- every look-up under the rule answers the same
abbrev pub AlikeUnder : Lookup → Document → Document → Type 0
AlikeUnder rule d e = AlikeBy Counting rule d e

-- the settings of the first section of the name, each once, in order
abbrev pub settings_in : Document → Option Text → List Setting
settings_in d name = map (λ key. (name, key)) (distinct (unwrap_or (first_section name d) []))

-- the settings of a document, each once: name by name, in order
abbrev pub settings : Document → List Setting
settings d = flat_map (settings_in d) (names d)
