-- What the loops over a walk make of a document.
use Rattle.std.specs.Prelude.{if◌then◌else◌, List, filter, fold, map, Option, Some}
use Rattle.std.specs.List.{filter_map}
use Rattle.ini.specs.Texts.{Text, is_name}
use Rattle.ini.specs.Properties.{Pairs, first_value}
use Rattle.ini.specs.Documents.{Document, sections_named}
use Rattle.ini.specs.Edits.{add_in}
use Rattle.ini.specs.Written.{has_pairs}

-- the sections that have pairs
abbrev pub kept : Document → Document
kept d = filter (λ s. has_pairs s.1) d

-- the section, by another name if it has this one
abbrev pub named_anew : Text → Text → Option Text × Pairs → Option Text × Pairs
named_anew name other s = (if is_name s.0 (Some name) then Some other else s.0, s.1)

-- each section of the name has another name
abbrev pub all_named_anew : Text → Text → Document → Document
all_named_anew name other d = map (named_anew name other) d

-- the pairs go after those of the first section of the name, in order
abbrev pub all_added : Option Text → Document → Pairs → Document
all_added name d pairs = fold (λ e p. add_in name p.0 p.1 e) d pairs

-- the first value of the key in each section of the name that has it, in order
abbrev pub each_first : Option Text → Text → Document → List Text
each_first name key d = filter_map (first_value key) (sections_named name d)
