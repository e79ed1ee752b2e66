-- What look-ups under a rule answer after changes of settings.
use Rattle.std.specs.Prelude.{◌≡◌, Bool, false, ◌&&◌, if◌then◌else◌, List, [], ◌∷◌, map, Option}
use Rattle.std.specs.Option.{option_and_then}
use Rattle.ini.specs.Documents.{Document}
use Rattle.ini.specs.Texts.{Text}
use Rattle.ini_dialect.specs.Lists.{list_text, list_values}
use Rattle.ini_dialect.specs.Lookups.{name_fits, text_fits}
use Rattle.ini_dialect.specs.declared.rule.Lookup.{Lookup}
use Rattle.ini_layers.specs.Differences.{SettingChange, difference}
use Rattle.ini_layers.specs.Settings.{AlikeBy, flat_by, value_by}
use Rattle.ini_layers.specs.declared.change.SettingValue.{SettingValue}
use Rattle.ini_layers.specs.declared.change.SettingValue.TheVariants.{Counting, List as WholeList}

-- what a setting of this value has after the changes: the last one that is of it counts
abbrev pub value_after : (SettingChange → Bool) → List SettingChange → Option Text → Option Text
value_after is_of [] value = value
value_after is_of (c ∷ changes) value = value_after is_of changes (if is_of c then c.new else value)

-- the value that a text stands for: itself; or the list that is read of it, as it would be written
abbrev pub meant_value : SettingValue → Option Text → Option Text
meant_value Counting value = value
meant_value WholeList value = option_and_then (λ list. list_text (list_values list)) value

abbrev pub meant_changes : SettingValue → List SettingChange → List SettingChange
meant_changes Counting changes = changes
meant_changes WholeList changes =
    map {A = SettingChange} (λ c. record c { new = meant_value WholeList c.new }) changes

-- of this setting, as the rule tells names and keys apart
abbrev pub fits_change : Lookup → Option Text → Text → SettingChange → Bool
fits_change rule name key c = name_fits rule.case name c.name && text_fits rule.case key c.key

module _ (which : SettingValue) (rule : Lookup) where
  -- that is what every look-up answers
  abbrev pub HasChangedBy : List SettingChange → (old new : Document) → Type 0
  HasChangedBy changes old new = (name : Option Text) (key : Text) → value_by which rule name key new
      ≡ value_after (fits_change rule name key) (meant_changes which changes)
      (value_by which rule name key old)

  -- where the changes are the difference of two documents, flattened, of which the first answers as the old
  -- one does, the new one answers as the second
  abbrev pub LeadsToBy : List SettingChange → (old new : Document) → Type 0
  LeadsToBy changes old new = (from to : Document)
      → changes ≡ difference (flat_by which rule from) (flat_by which rule to)
      → AlikeBy which rule old from → AlikeBy which rule new to

  -- every look-up of another setting answers the same
  abbrev pub KeepsOthersBy : Option Text → Text → (old new : Document) → Type 0
  KeepsOthersBy name key old new = (n : Option Text) (k : Text)
      → (name_fits rule.case n name && text_fits rule.case k key) ≡ false
      → value_by which rule n k new ≡ value_by which rule n k old

-- the same where the value that counts is a setting's
module _ (rule : Lookup) where
  abbrev pub HasChanged : List SettingChange → (old new : Document) → Type 0
  HasChanged changes old new = HasChangedBy Counting rule changes old new

  abbrev pub LeadsTo : List SettingChange → (old new : Document) → Type 0
  LeadsTo changes old new = LeadsToBy Counting rule changes old new

  abbrev pub KeepsOthers : Option Text → Text → (old new : Document) → Type 0
  KeepsOthers name key old new = KeepsOthersBy Counting rule name key old new
