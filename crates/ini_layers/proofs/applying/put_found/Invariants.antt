use Rattle.std.proofs.Common.{◌≡◌, map, take}
use Rattle.ini_edit.specs.Sources.{document_in}
use Rattle.ini_layers.specs.Differences.{setting_change}
use Rattle.ini_layers.specs.SourceChanges.{AreMade}
use Rattle.ini_layers.proofs.applying.put_found.Given as goal

abbrev pub invariant-loop-index : goal.invariant-loop-index
invariant-loop-index l =
    AreMade l.rule l.write l.fn.source (map setting_change (take l.index l.changes)) l.source
    × (l.finder.document ≡ document_in l.source)
