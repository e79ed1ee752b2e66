use Rattle.std.proofs.Common.{◌≡◌, drop, fold, map}
use Rattle.ini_layers.specs.Differences.{setting_change}
use Rattle.ini_c.specs.Changes.{changes_listed, with_change}
use Rattle.ini_c.specs.Inside.Gathered.{contents}
use Rattle.ini_c.proofs.pieces.differences.list_changes.Given as goal

-- with what is left it is the whole
abbrev pub invariant-loop-change : goal.invariant-loop-change
invariant-loop-change l =
    fold with_change (contents l.listing) (map setting_change (drop l.change-index l.changes))
    ≡ changes_listed (map setting_change l.changes)
