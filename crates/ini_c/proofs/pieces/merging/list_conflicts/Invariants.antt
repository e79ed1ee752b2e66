use Rattle.std.proofs.Common.{◌≡◌, drop, fold, map}
use Rattle.ini_layers.specs.Merging.{setting_conflict}
use Rattle.ini_c.specs.Changes.{conflicts_listed, with_conflict}
use Rattle.ini_c.specs.Inside.Gathered.{contents}
use Rattle.ini_c.proofs.pieces.merging.list_conflicts.Given as goal

-- with what is left it is the whole
abbrev pub invariant-loop-conflict : goal.invariant-loop-conflict
invariant-loop-conflict l =
    fold with_conflict (contents l.listing) (map setting_conflict (drop l.conflict-index l.conflicts))
    ≡ conflicts_listed (map setting_conflict l.conflicts)
