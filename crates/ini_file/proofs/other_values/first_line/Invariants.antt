use Rattle.std.proofs.Common.{◌≡◌, ◌||◌, drop, map}
use Rattle.std.specs.List.{find}
use Rattle.ini_layers.specs.Differences.{setting_change}
use Rattle.ini_file.specs.OtherValues.{lists_several}
use Rattle.ini_file.proofs.other_values.first_line.Given as goal

-- it is the first of what is left
abbrev pub invariant-loop-change : goal.invariant-loop-change
invariant-loop-change l =
    find (λ c. lists_several c.old || lists_several c.new) (map setting_change (drop l.change-index l.changes))
    ≡ find (λ c. lists_several c.old || lists_several c.new) (map setting_change l.changes)
