use Rattle.std.proofs.Common.{◌≡◌, flat_map, take}
use Rattle.ini_file.specs.JsonLines.{json_line}
use Rattle.ini_file.proofs.json_lines.json_lines.Given as goal

abbrev pub invariant-loop-change : goal.invariant-loop-change
invariant-loop-change l = l.lines.items ≡ flat_map json_line (take l.change-index l.changes)
