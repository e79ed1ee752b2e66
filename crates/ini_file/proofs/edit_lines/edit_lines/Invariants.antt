use Rattle.std.proofs.Common.{◌≡◌, flat_map, map, take}
use Rattle.ini_layers.specs.Differences.{setting_change}
use Rattle.ini_file.specs.EditLines.{edit_line}
use Rattle.ini_file.proofs.edit_lines.edit_lines.Given as goal

abbrev pub invariant-loop-change : goal.invariant-loop-change
invariant-loop-change l =
    l.lines.items ≡ flat_map edit_line (map setting_change (take l.change-index l.changes))
