use Rattle.std.proofs.Common.{map, take}
use Rattle.ini_layers.specs.Differences.{setting_change}
use Rattle.ini_layers.specs.SourceChanges.{AreMadeBy}
use Rattle.ini_layers.proofs.applying.put_each.Given as goal

abbrev pub invariant-loop-index : goal.invariant-loop-index
invariant-loop-index l =
    AreMadeBy l.which l.rule l.write l.fn.source (map setting_change (take l.index l.changes)) l.source
