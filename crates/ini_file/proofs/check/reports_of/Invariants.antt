use Rattle.std.proofs.Common.{◌≡◌, flat_map, take}
use Rattle.ini_file.specs.CheckWords.{reporter_of}
use Rattle.ini_file.specs.Checks.{report}
use Rattle.ini_file.proofs.check.reports_of.Given as goal

abbrev pub invariant-loop-warning : goal.invariant-loop-warning
invariant-loop-warning l = l.reports.items
    ≡ flat_map (report l.asked.made.format (reporter_of l.asked.reporting) l.file)
    (take l.warning-index l.warnings)
