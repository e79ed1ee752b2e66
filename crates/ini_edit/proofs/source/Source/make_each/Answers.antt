use Rattle.ini_edit.specs.SourceEditsList.{AreMadeOf}
use Rattle.ini_edit.proofs.SourceListLemmas.{one_more_made, one_refused}
use Rattle.ini_edit.proofs.source.Source.make_each.Goals as goal

pub loop-index-init : goal.loop-index-init
loop-index-init c = rw c.new-found.ensures.items AreMadeOf.none

pub returns-in-Err-clause-refused : goal.returns-in-Err-clause-refused
returns-in-Err-clause-refused c =
    rw c.refused_at.ensures
    (one_refused c.args.write.now c.args.later c.args.edits.now c.loop-index.index _ c.in-Err.refusal
    c.loop-index-test.true c.loop-index.invariant c.in-Err.ensures.refused)

pub loop-index-preserved : goal.loop-index-preserved
loop-index-preserved c =
    one_more_made c.args.write.now c.args.later c.args.edits.now c.loop-index.index _ c.loop-index-test.true
    c.loop-index.invariant c.in_default.ensures.made
