-- The laws of sections and keys that get another name.
use Rattle.std.proofs.Common.{◌≡◌, false, [], ◌∷◌, Option, None, Some, refl, arith}
use Rattle.std.proofs.lemmas.Bool.{false≢true}
use Rattle.std.specs.Map.{values_of}
use Rattle.ini.specs.Texts.{Text, is_name, is_text}
use Rattle.ini.specs.Properties.{Pairs, first_value}
use Rattle.ini.specs.Documents.{Document, HasGeneral, first_section, sections_named, value_in}
use Rattle.ini.specs.Edits.{key_renamed, rename_key_in, section_renamed}
use Rattle.ini.specs.EditLaws.{KeepsLaterSections, KeepsNames, KeepsOtherNames, KeepsOtherSections}
use Rattle.ini.proofs.KeepingLemmas.{first-edited, later-edited, name_refl, named-edited, names_equal}
use Rattle.ini.proofs.KeepingLemmas.{text_refl, texts_equal, there-edited, value-edited}

-- what got another name is there by it
module _ (name other : Option Text) (pairs : Pairs) where
  pub section-there : (d : Document) → first_section name d ≡ Some pairs → first_section other d ≡ None
      → first_section other (section_renamed name other d) ≡ Some pairs
  section-there [] there none =
      let no : ⊥ = cc in
      absurd no
  section-there (s ∷ d) there none = grind (arith, section-there d, name_refl other)

module _ (key other value : Text) where
  value-there : (ps : Pairs) → first_value key ps ≡ Some value → first_value other ps ≡ None
      → first_value other (key_renamed key other ps) ≡ Some value
  value-there [] there none =
      let no : ⊥ = cc in
      absurd no
  value-there (p ∷ ps) there none = grind (arith, value-there ps, text_refl other)

  module _ (name : Option Text) where
    key-there : (d : Document) → value_in name key d ≡ Some value → value_in name other d ≡ None
        → value_in name other (rename_key_in name key other d) ≡ Some value
    key-there [] there none =
        let no : ⊥ = cc in
        absurd no
    key-there (s ∷ d) there none = grind (arith, key-there d, value-there s.1)

pub renamed_key-there : (name : Option Text) (key other value : Text) (d : Document)
    → value_in name key d ≡ Some value → value_in name other d ≡ None
    → value_in name other (rename_key_in name key other d) ≡ Some value
renamed_key-there name key other value d = key-there key other value name d

-- the other names
module _ (name other third : Option Text) where
  pub first-renamed : (d : Document) → is_name third name ≡ false → is_name third other ≡ false
      → first_section third (section_renamed name other d) ≡ first_section third d
  first-renamed [] apart new = refl
  first-renamed (s ∷ d) apart new = grind (arith, first-renamed d, names_equal name s.0, apart, new)

  pub named-renamed : (d : Document) → is_name third name ≡ false → is_name third other ≡ false
      → sections_named third (section_renamed name other d) ≡ sections_named third d
  named-renamed [] apart new = refl
  named-renamed (s ∷ d) apart new = grind (arith, named-renamed d, names_equal name s.0, apart, new)

module _ (name other : Option Text) where
  pub pairs-renamed : (d : Document) → values_of (section_renamed name other d) ≡ values_of d
  pairs-renamed [] = refl
  pairs-renamed (s ∷ d) = grind (arith, pairs-renamed d)

-- the other keys
module _ (key other third : Text) (apart : is_text third key ≡ false)
    (new : is_text third other ≡ false) where
  first-key_renamed : (ps : Pairs) → first_value third (key_renamed key other ps) ≡ first_value third ps
  first-key_renamed [] = refl
  first-key_renamed (p ∷ ps) = grind (arith, first-key_renamed ps, texts_equal key p.0, apart, new)

pub keys-renamed : (name : Option Text) (key other third : Text) (d : Document)
    → is_text third key ≡ false → is_text third other ≡ false
    → value_in name third (rename_key_in name key other d) ≡ value_in name third d
keys-renamed name key other third d apart new = value-edited name (key_renamed key other) [] third refl
    (first-key_renamed key other third apart new) d

module _ (name : Option Text) (key other : Text) where
  pub rename_key-names : KeepsOtherNames name (rename_key_in name key other)
  rename_key-names third d apart = first-edited name (key_renamed key other) [] third refl apart d

  pub rename_key-sections : KeepsOtherSections name (rename_key_in name key other)
  rename_key-sections third d apart = named-edited name (key_renamed key other) [] third refl apart d

  pub rename_key-there_still : KeepsNames (rename_key_in name key other)
  rename_key-there_still = there-edited name (key_renamed key other) []

  pub rename_key-later : KeepsLaterSections name (rename_key_in name key other)
  rename_key-later d = later-edited name (key_renamed key other) [] d refl

-- a general section stays where another one is renamed
pub general-renamed : (name : Text) (other : Option Text) (d : Document) → HasGeneral d
    → HasGeneral (section_renamed (Some name) other d)
general-renamed name other [] there = absurd (false≢true there)
general-renamed name other (s ∷ d) there = grind (
  arith,
  general-renamed name other d,
  names_equal (Some name) s.0,
)

pub ruleset there = (section-there, renamed_key-there)

pub ruleset names = (first-renamed, named-renamed, pairs-renamed)

pub ruleset keys = (
  keys-renamed,
  rename_key-names,
  rename_key-sections,
  rename_key-there_still,
  rename_key-later,
)
