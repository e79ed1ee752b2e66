use Rattle.std.proofs.Common.{◌≡◌, flat_map, map, take}
use Rattle.ini_layers.specs.Merging.{setting_conflict}
use Rattle.ini_file.specs.ChangeLines.{conflict_line}
use Rattle.ini_file.proofs.change_lines.conflict_lines.Given as goal

abbrev pub invariant-loop-conflict : goal.invariant-loop-conflict
invariant-loop-conflict l = l.lines.items
    ≡ flat_map conflict_line (map setting_conflict (take l.conflict-index l.conflicts))
