use Rattle.std.proofs.Common.{◌≡◌, ◌++◌, ◌∷◌, flat_map, map, take}
use Rattle.ini.specs.Texts.{str_name, str_text}
use Rattle.ini_file.specs.Jsons.{json_member}
use Rattle.ini_file.proofs.json.push_more_members.Given as goal

abbrev pub invariant-loop-key : goal.invariant-loop-key
invariant-loop-key l = l.bytes.items ≡ l.fn.bytes.items
    ++ flat_map (λ key. 0x2C ∷ json_member l.rule l.document (str_name l.name) key)
    (map str_text (take l.key-index l.keys))
