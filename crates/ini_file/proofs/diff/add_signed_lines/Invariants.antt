use Rattle.std.proofs.Common.{◌≡◌, ◌++◌, flat_map, length}
use Rattle.ini_file.specs.Diffs.{lines_of, signed_line}
use Rattle.ini_file.proofs.diff.add_signed_lines.Given as goal

abbrev pub invariant-lines : goal.invariant-lines
invariant-lines l =
    let signed = flat_map (signed_line l.sign) in
    l.diff.items ++ signed (lines_of l.rest) ≡ l.fn.diff.items ++ signed (lines_of l.lines)

abbrev pub decreases-lines : goal.decreases-lines
decreases-lines l = length l.rest
