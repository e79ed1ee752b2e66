use Rattle.std.proofs.Common.{◌≡◌, ◌++◌, flat_map, take}
use Rattle.ini_file.specs.Reports.{name_byte}
use Rattle.ini_file.proofs.report.push_name.Given as goal

abbrev pub invariant-loop-byte : goal.invariant-loop-byte
invariant-loop-byte l = l.reports.items
    ≡ l.fn.reports.items ++ flat_map (name_byte l.format) (take l.byte-index l.file)
