-- Changes as they are listed, pass by pass: of a section, and pair by pair.
use Rattle.std.specs.Prelude.{Bool, not, ◌&&◌, if◌then◌else◌, List, [], ◌∷◌, ◌++◌, filter, flat_map, map}
use Rattle.std.specs.Prelude.{Option, is_some}
use Rattle.std.specs.Str.{chars}
use Rattle.ini.specs.Documents.{Document, names}
use Rattle.ini.specs.Properties.{Pairs, first_value}
use Rattle.ini.specs.Texts.{Text}
use Rattle.ini_layers.specs.Differences.{SettingChange, change_of, differs, is_lost}
use Rattle.ini_layers.specs.Settings.{settings_in}
use Rattle.ini_layers.specs.declared.difference.Listing.{Listing}
use Rattle.ini_layers.specs.declared.difference.Listing.TheVariants.{Differing, Lost}

-- which changes a pass lists, and of which document's settings
abbrev pub is_listed : Listing → SettingChange → Bool
is_listed Differing c = differs c
is_listed Lost c = is_lost c

abbrev pub listed_in : Listing → (from to : Document) → Document
listed_in Differing from to = to
listed_in Lost from to = from

-- what it lists in the first section of a name, and in all
abbrev pub listed_under : Listing → (from to : Document) → Option Text → List SettingChange
listed_under which from to name =
    filter (is_listed which) (map (change_of from to) (settings_in (listed_in which from to) name))

abbrev pub listed_from : Listing → (from to : Document) → List SettingChange
listed_from which from to = flat_map (listed_under which from to) (names (listed_in which from to))

-- the change is listed now: it is one that the pass lists, and its key wasn't seen
abbrev pub is_new : Listing → SettingChange → Pairs → Bool
is_new which c seen = is_listed which c && not (is_some (first_value c.key seen))

abbrev pub with_change : Listing → SettingChange → Pairs → List SettingChange → List SettingChange
with_change which c seen changes = if is_new which c seen then changes ++ c ∷ [] else changes

-- and so its key, beside an empty text
abbrev pub with_seen : Listing → SettingChange → Pairs → Pairs
with_seen which c seen = if is_new which c seen then seen ++ (c.key, chars []) ∷ [] else seen
