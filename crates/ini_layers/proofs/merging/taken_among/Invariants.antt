use Rattle.std.proofs.Common.{◌≡◌, filter, map, take}
use Rattle.ini_layers.specs.Differences.{setting_change}
use Rattle.ini_layers.specs.Merging.{is_taken}
use Rattle.ini_layers.proofs.merging.taken_among.Given as goal

abbrev pub invariant-loop-change : goal.invariant-loop-change
invariant-loop-change l = map setting_change l.taken.items
    ≡ filter (is_taken l.side l.theirs) (map setting_change (take l.change-index l.changes))
