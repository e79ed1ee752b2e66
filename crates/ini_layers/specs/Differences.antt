-- The difference of two documents: which settings changed, and how.
use Rattle.std.specs.Prelude.{◌≡◌, Bool, not, if◌then◌else◌, List, ◌++◌, filter, map, Option, None, Some}
use Rattle.std.specs.Prelude.{is_some}
use Rattle.std.specs.List.{find}
use Rattle.ini.specs.Documents.{Document, value_in}
use Rattle.ini.specs.Texts.{Text, is_name, str_name, str_text}
use Rattle.ini_layers.specs.Settings.{Setting, is_setting, settings, value_of}
use Rattle.ini_layers.specs.declared.change.Change.{Change}

-- a setting with its value before and after
pub record SettingChange : Type 0 where
  pub name : Option Text
  pub key : Text
  pub old : Option Text
  pub new : Option Text

abbrev pub setting_change : Change → SettingChange
setting_change c = record {
  name = str_name c.name;
  key = str_text c.key;
  old = str_name c.old;
  new = str_name c.new;
}

-- of this setting
abbrev pub is_of : Option Text → Text → SettingChange → Bool
is_of name key c = is_setting (name, key) (c.name, c.key)

-- its value is another one, or it is gone
abbrev pub differs : SettingChange → Bool
differs c = not (is_name c.old c.new)

abbrev pub is_lost : SettingChange → Bool
is_lost c = not (is_some c.new)

module _ (from to : Document) where
  abbrev pub change_of : Setting → SettingChange
  change_of s = record { name = s.0; key = s.1; old = value_of s from; new = value_of s to }

  -- the settings of `to` that differ, and those of `from` that `to` lacks
  abbrev pub difference : List SettingChange
  difference = filter differs (map change_of (settings to)) ++ filter is_lost (map change_of (settings from))

  -- For every name and key: where the values differ the changes have that of this setting, and where they
  -- are the same they have none.
  abbrev pub HasChangesOf : List SettingChange → Type 0
  HasChangesOf changes = (name : Option Text) (key : Text) → find (is_of name key) changes
      ≡ (if is_name (value_in name key from) (value_in name key to) then None
      else Some (change_of (name, key)))
