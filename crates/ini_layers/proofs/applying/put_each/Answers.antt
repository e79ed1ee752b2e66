use Rattle.ini_layers.specs.SourceChanges.{AreMadeBy}
use Rattle.ini_layers.proofs.MadeLemmas.{one_more, one_refused}
use Rattle.ini_layers.proofs.applying.put_each.Goals as goal

pub loop-index-init : goal.loop-index-init
loop-index-init c = AreMadeBy.none

pub returns-in-Err-clause-refused : goal.returns-in-Err-clause-refused
returns-in-Err-clause-refused c =
    rw c.refused_at.ensures
    (one_refused c.args.which c.args.rule c.args.write.now c.args.changes.now
    c.loop-index.index _ c.in-Err.refusal
    c.loop-index-test.true c.loop-index.invariant c.in-Err.ensures.refused)

pub loop-index-preserved : goal.loop-index-preserved
loop-index-preserved c =
    one_more c.args.which c.args.rule c.args.write.now c.args.changes.now
    c.loop-index.index _ c.loop-index-test.true
    c.loop-index.invariant c.in_default.ensures.made
