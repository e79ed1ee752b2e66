-- The edits that set in a text what a document gives.
use Rattle.std.specs.Prelude.{List, [], flat_map, map, Option, unwrap_or}
use Rattle.ini.specs.Texts.{Text}
use Rattle.ini.specs.Properties.{Pairs, first_value}
use Rattle.ini.specs.Documents.{Document, first_section, names}
use Rattle.ini_edit.specs.Editings.{Editing, Set}

-- the pair's key is set to its first value in the section
abbrev pub setting_of : Option Text → Pairs → Text × Text → Editing
setting_of name section pair = Set name pair.0 (unwrap_or (first_value pair.0 section) pair.1)

-- so is each key of the section, in order
abbrev pub settings_in : Option Text → Pairs → List Editing
settings_in name section = map (setting_of name section) section

-- so are those of the first section of the name
abbrev pub settings_named : Document → Option Text → List Editing
settings_named d name = settings_in name (unwrap_or (first_section name d) [])

-- so are those of each name, in the order of first occurrence
abbrev pub settings_of : Document → List Editing
settings_of d = flat_map (settings_named d) (names d)
