-- What is written of a change in JSON: an object on a line of its own.
use Rattle.std.specs.Prelude.{ℕ, List, ◌++◌, Option, None, Some, codes}
use Rattle.std.specs.Borrow.{Bor}
use Rattle.ini_layers.specs.declared.change.Change.{Change}
use Rattle.ini_file.specs.JsonStrings.{json_string}

-- the name of a field, with what stands around it, and its text as a string; null where there is none
abbrev pub json_field : List ℕ → Option (Bor (List ℕ)) → List ℕ
json_field name None = name ++ codes "null"
json_field name (Some text) = name ++ json_string text.now

abbrev pub json_line : Change → List ℕ
json_line c = json_field (codes "{\"section\":") c.name ++ (json_field (codes ",\"key\":") (Some c.key)
    ++ (json_field (codes ",\"old\":") c.old ++ (json_field (codes ",\"new\":") c.new ++ codes "}\n")))
