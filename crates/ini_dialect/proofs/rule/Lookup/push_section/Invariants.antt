use Rattle.std.proofs.Common.{◌≡◌, ◌++◌, drop, map}
use Rattle.ini.specs.Texts.{str_name, str_text}
use Rattle.ini_edit.specs.Editings.{editing_of}
use Rattle.ini_dialect.specs.RuledLayers.{setting_under, settings_named_under}
use Rattle.ini_dialect.proofs.rule.Lookup.push_section.Given as goal

-- with those of the keys that are left they are the whole
abbrev pub invariant-loop-key : goal.invariant-loop-key
invariant-loop-key l =
    map editing_of l.edits.items
    ++ map (setting_under l.self l.document (str_name l.name)) (map str_text (drop l.key-index l.keys))
    ≡ map editing_of l.initial.edits.items ++ settings_named_under l.self l.document (str_name l.name)
