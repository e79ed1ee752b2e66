use Rattle.ini_file.specs.LeftConflicts.{AreLeft}
use Rattle.ini_file.proofs.LeftLemmas.{one_left, one_not_left}
use Rattle.ini_file.proofs.left_conflicts.leave_each.Goals as goal

pub loop-index-init : goal.loop-index-init
loop-index-init c = AreLeft.none

pub returns-in-Err-clause-refused : goal.returns-in-Err-clause-refused
returns-in-Err-clause-refused c =
    one_not_left c.args.which c.args.rule c.args.write.now c.args.conflicts.now c.loop-index.index _ c.in-Err.refusal
    c.loop-index-test.true c.loop-index.invariant c.in-Err.ensures.refused

pub loop-index-preserved : goal.loop-index-preserved
loop-index-preserved c =
    one_left c.args.which c.args.rule c.args.write.now c.args.conflicts.now c.loop-index.index _ c.loop-index-test.true
    c.loop-index.invariant c.in_default.ensures.left
