use Rattle.std.proofs.Common.{◌≡◌, map, take}
use Rattle.ini_layers.specs.Differences.{setting_change}
use Rattle.ini_file.specs.EditLines.{change_read}
use Rattle.ini_file.proofs.apply.lent_changes.Given as goal

abbrev pub invariant-loop-change : goal.invariant-loop-change
invariant-loop-change l = map setting_change l.changes.items ≡ map change_read (take l.change-index l.read)
