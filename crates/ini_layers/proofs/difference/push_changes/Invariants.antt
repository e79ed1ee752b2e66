use Rattle.std.proofs.Common.{◌≡◌, ◌++◌, map}
use Rattle.std.specs.List.{flat_map}
use Rattle.ini_layers.specs.Differences.{setting_change}
use Rattle.ini_layers.specs.Inside.Listings.{listed_from, listed_under}
use Rattle.ini_layers.proofs.difference.push_changes.Given as goal

-- with what is listed of the names that are left it is all
abbrev pub invariant-loop-name : goal.invariant-loop-name
invariant-loop-name l =
    map setting_change l.changes.items ++ flat_map (listed_under l.which l.from l.to) l.name-iterator
    ≡ map setting_change l.initial.changes.items ++ listed_from l.which l.from l.to
