use Rattle.ini_layers.specs.Merging.{conflicts_with, with_theirs}
use Rattle.ini_layers.proofs.MergeLemmas.{conflicts-all, conflicts-more}
use Rattle.ini_layers.proofs.merging.conflicts_among.Goals as goal

pub loop-change-preserved : goal.loop-change-preserved
loop-change-preserved c =
    let theirs = c.args.theirs.now in
    conflicts-more (conflicts_with theirs) c.args.changes.now c.loop-change.change-index _
    c.loop-change-test.true (with_theirs theirs) c.loop-change.conflicts.items
    c.push_conflict.new.conflicts.items c.loop-change.invariant c.in_ok-push_conflict.ensures.listed

pub returns-clause-conflicts : goal.returns-clause-conflicts
returns-clause-conflicts c =
    let theirs = c.args.theirs.now in
    conflicts-all (conflicts_with theirs) c.args.changes.now c.loop-change.change-index
    c.loop-change-test.false (with_theirs theirs) c.loop-change.conflicts.items c.loop-change.invariant
