use Rattle.std.proofs.Common.{◌≡◌, ◌++◌, filter, length}
use Rattle.ini_file.specs.CheckWords.{reporter_of, reports}
use Rattle.ini_file.proofs.fix.reported_of.Given as goal

abbrev pub invariant-traps : goal.invariant-traps
invariant-traps l = l.traps.items
    ++ filter (reports (reporter_of l.reporting)) l.rest
    ≡ filter (reports (reporter_of l.reporting)) l.given

abbrev pub decreases-traps : goal.decreases-traps
decreases-traps l = length l.rest
