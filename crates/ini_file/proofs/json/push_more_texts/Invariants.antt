use Rattle.std.proofs.Common.{◌≡◌, ◌++◌, ◌∷◌, flat_map, map, take}
use Rattle.ini.specs.Texts.{str_text}
use Rattle.ini_file.specs.Jsons.{json_text}
use Rattle.ini_file.proofs.json.push_more_texts.Given as goal

abbrev pub invariant-loop-text : goal.invariant-loop-text
invariant-loop-text l = l.bytes.items ≡ l.fn.bytes.items
    ++ flat_map (λ text. 0x2C ∷ json_text text) (map str_text (take l.text-index l.texts))
