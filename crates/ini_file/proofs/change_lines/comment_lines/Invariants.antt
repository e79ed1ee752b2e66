use Rattle.std.proofs.Common.{◌≡◌, flat_map, map, take}
use Rattle.ini_layers.specs.Differences.{setting_change}
use Rattle.ini_file.specs.ChangeLines.{comment_line}
use Rattle.ini_file.proofs.change_lines.comment_lines.Given as goal

abbrev pub invariant-loop-change : goal.invariant-loop-change
invariant-loop-change l = l.lines.items
    ≡ flat_map (comment_line l.is_colored) (map setting_change (take l.change-index l.changes))
