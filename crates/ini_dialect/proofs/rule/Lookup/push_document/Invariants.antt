use Rattle.std.proofs.Common.{◌≡◌, ◌++◌, drop, flat_map, map}
use Rattle.ini.specs.Texts.{str_name}
use Rattle.ini_edit.specs.Editings.{editing_of}
use Rattle.ini_dialect.specs.RuledLayers.{settings_named_under, settings_under}
use Rattle.ini_dialect.proofs.rule.Lookup.push_document.Given as goal

-- with those of the names that are left they are the whole
abbrev pub invariant-loop-name : goal.invariant-loop-name
invariant-loop-name l =
    map editing_of l.edits.items
    ++ flat_map (settings_named_under l.self l.document) (map str_name (drop l.name-index l.names))
    ≡ map editing_of l.initial.edits.items ++ settings_under l.self l.document
