use Rattle.std.proofs.Common.{◌≡◌, ◌++◌, drop, map}
use Rattle.ini_edit.specs.Editings.{editing_of}
use Rattle.ini_dialect.specs.RuledLayers.{settings_in_layers}
use Rattle.ini_dialect.proofs.rule.Lookup.settings.Given as goal

-- with those of the documents that are left they are the whole
abbrev pub invariant-loop-document : goal.invariant-loop-document
invariant-loop-document l =
    map editing_of l.edits.items ++ settings_in_layers l.self (drop l.document-index l.documents)
    ≡ settings_in_layers l.self l.documents
