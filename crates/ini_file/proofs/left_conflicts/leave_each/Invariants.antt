use Rattle.std.proofs.Common.{map, take}
use Rattle.ini_layers.specs.Merging.{setting_conflict}
use Rattle.ini_file.specs.LeftConflicts.{AreLeft}
use Rattle.ini_file.proofs.left_conflicts.leave_each.Given as goal

abbrev pub invariant-loop-index : goal.invariant-loop-index
invariant-loop-index l =
    AreLeft l.which l.rule l.write l.fn.source (map setting_conflict (take l.index l.conflicts)) l.source
