use Rattle.std.proofs.Common.{◌≡◌, filter, map, take}
use Rattle.ini_layers.specs.Differences.{setting_change}
use Rattle.ini_layers.specs.Merging.{conflicts_with, setting_conflict, with_theirs}
use Rattle.ini_layers.proofs.merging.conflicts_among.Given as goal

abbrev pub invariant-loop-change : goal.invariant-loop-change
invariant-loop-change l = map setting_conflict l.conflicts.items
    ≡ map (with_theirs l.theirs) (filter (conflicts_with l.theirs)
    (map setting_change (take l.change-index l.changes)))
