-- Three-way merges of settings: what both sides made of a base.
use Rattle.std.specs.Prelude.{◌≡◌, Bool, true, false, not, ◌&&◌, ◌||◌, if◌then◌else◌, List, filter, map}
use Rattle.std.specs.Prelude.{Option, None, Some}
use Rattle.std.specs.List.{find}
use Rattle.ini.specs.Documents.{Document, value_in}
use Rattle.ini.specs.Texts.{Text, is_name, str_name}
use Rattle.ini_dialect.specs.declared.rule.Lookup.{Lookup}
use Rattle.ini_layers.specs.Differences.{SettingChange, change_of, difference, is_of, setting_change}
use Rattle.ini_layers.specs.Settings.{AlikeBy, flat_by, value_by}
use Rattle.ini_layers.specs.declared.change.SettingValue.{SettingValue}
use Rattle.ini_layers.specs.declared.change.SettingValue.TheVariants.{Counting}
use Rattle.ini_layers.specs.declared.merging.Conflict.{Conflict}
use Rattle.ini_layers.specs.declared.merging.FlatSides.{FlatSides}
use Rattle.ini_layers.specs.declared.merging.Side.{Side}
use Rattle.ini_layers.specs.declared.merging.Side.TheVariants.{Ours, Theirs}

abbrev pub chosen : {A : Type 0} → Side → (ours theirs : A) → A
chosen Ours ours theirs = ours
chosen Theirs ours theirs = theirs

-- What a setting has then: theirs, where ours is the base's; ours, where theirs is; what both have; else the
-- chosen side's.
abbrev pub merged_value : Side → (base ours theirs : Option Text) → Option Text
merged_value side base ours theirs =
    if is_name base ours then theirs
    else (if is_name base theirs then ours
    else (if is_name ours theirs then theirs else chosen side ours theirs))

-- both sides changed it, to different values
abbrev pub is_conflict : (base ours theirs : Option Text) → Bool
is_conflict base ours theirs =
    not (is_name base ours) && (not (is_name base theirs) && not (is_name ours theirs))

-- every setting has the merged value
abbrev pub IsMergedBy : SettingValue → Lookup → Side → (base ours theirs new : Document) → Type 0
IsMergedBy which rule side base ours theirs new =
    (name : Option Text) (key : Text) → value_by which rule name key new
    ≡ merged_value side (value_by which rule name key base) (value_by which rule name key ours)
    (value_by which rule name key theirs)

-- every look-up under the rule answers it
abbrev pub IsMerged : Lookup → Side → (base ours theirs new : Document) → Type 0
IsMerged rule side base ours theirs new = IsMergedBy Counting rule side base ours theirs new

-- no setting is in conflict
abbrev pub HaveNoConflict : (base ours theirs : Document) → Type 0
HaveNoConflict base ours theirs = (name : Option Text) (key : Text)
    → is_conflict (value_in name key base) (value_in name key ours) (value_in name key theirs) ≡ false

-- the two documents change places where there is no conflict
abbrev pub ChangePlaces : SettingValue → Lookup → (base ours theirs : Document) → Type 0
ChangePlaces which rule base ours theirs = (side other_side : Side) (new other : Document)
    → HaveNoConflict (flat_by which rule base) (flat_by which rule ours) (flat_by which rule theirs)
    → IsMergedBy which rule side base ours theirs new
    → IsMergedBy which rule other_side base theirs ours other
    → AlikeBy which rule new other

-- a change of ours that is made in theirs: its setting has another value there, and theirs didn't touch it,
-- or ours is chosen
abbrev pub is_taken_at : Side → SettingChange → (theirs : Option Text) → Bool
is_taken_at side c theirs = not (is_name c.new theirs) && (is_name c.old theirs || chosen side true false)

abbrev pub is_taken : Side → Document → SettingChange → Bool
is_taken side theirs c = is_taken_at side c (value_in c.name c.key theirs)

abbrev pub taken_changes : Side → (base ours theirs : Document) → List SettingChange
taken_changes side base ours theirs = filter (is_taken side theirs) (difference base ours)

-- the same of documents under a rule
abbrev pub taken_by : SettingValue → Lookup → Side → (base ours theirs : Document) → List SettingChange
taken_by which rule side base ours theirs =
    taken_changes side (flat_by which rule base) (flat_by which rule ours) (flat_by which rule theirs)

abbrev pub taken_under : Lookup → Side → (base ours theirs : Document) → List SettingChange
taken_under rule side base ours theirs = taken_by Counting rule side base ours theirs

-- a change of ours, and what theirs made of its setting
pub record SettingConflict : Type 0 where
  pub change : SettingChange
  pub theirs : Option Text

abbrev pub setting_conflict : Conflict → SettingConflict
setting_conflict c = record { change = setting_change c.change; theirs = str_name c.theirs }

abbrev pub conflicts_with : Document → SettingChange → Bool
conflicts_with theirs c = is_conflict c.old c.new (value_in c.name c.key theirs)

abbrev pub with_theirs : Document → SettingChange → SettingConflict
with_theirs theirs c = record { change = c; theirs = value_in c.name c.key theirs }

-- the changes of ours that are in conflict with theirs, in their order
abbrev pub conflicts_of : (base ours theirs : Document) → List SettingConflict
conflicts_of base ours theirs =
    map (with_theirs theirs) (filter (conflicts_with theirs) (difference base ours))

-- for every name and key: the conflict of a setting that is in conflict, and none of another
abbrev pub HasConflictsOf : (base ours theirs : Document) → List SettingConflict → Type 0
HasConflictsOf base ours theirs conflicts = (name : Option Text) (key : Text)
    → find (λ c. is_of name key c.change) conflicts
    ≡ (if is_conflict (value_in name key base) (value_in name key ours) (value_in name key theirs)
    then Some (with_theirs theirs (change_of base ours (name, key))) else None)

-- those of documents under a rule
abbrev pub conflicts_by : SettingValue → Lookup → (base ours theirs : Document) → List SettingConflict
conflicts_by which rule base ours theirs =
    conflicts_of (flat_by which rule base) (flat_by which rule ours) (flat_by which rule theirs)

abbrev pub conflicts_under : Lookup → (base ours theirs : Document) → List SettingConflict
conflicts_under rule base ours theirs = conflicts_by Counting rule base ours theirs

-- the three documents under a rule
abbrev pub flat_sides_by : SettingValue → Lookup → (base ours theirs : Document) → FlatSides
flat_sides_by which rule base ours theirs =
    let flat = flat_by which rule in record { base = flat base; ours = flat ours; theirs = flat theirs }

abbrev pub flat_sides : Lookup → (base ours theirs : Document) → FlatSides
flat_sides rule base ours theirs = flat_sides_by Counting rule base ours theirs
