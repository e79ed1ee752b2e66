use Rattle.std.proofs.Common.{◌≡◌, ◌++◌, ◌∷◌, flat_map, map, take}
use Rattle.ini.specs.Texts.{str_name}
use Rattle.ini_file.specs.Jsons.{json_section}
use Rattle.ini_file.proofs.json.push_more_sections.Given as goal

abbrev pub invariant-loop-name : goal.invariant-loop-name
invariant-loop-name l = l.bytes.items ≡ l.fn.bytes.items
    ++ flat_map (λ name. 0x2C ∷ json_section l.rule l.document name)
    (map str_name (take l.name-index l.names))
