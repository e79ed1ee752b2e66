use Rattle.ini_layers.specs.Merging.{is_taken}
use Rattle.ini_layers.proofs.MergeLemmas.{taken-all, taken-more}
use Rattle.ini_layers.proofs.merging.taken_among.Goals as goal

pub loop-change-preserved : goal.loop-change-preserved
loop-change-preserved c =
    taken-more (is_taken c.args.side c.args.theirs.now) c.args.changes.now
    c.loop-change.change-index _ c.loop-change-test.true c.loop-change.taken.items
    c.push_taken.new.taken.items
    c.loop-change.invariant c.in_ok-push_taken.ensures.taken

pub returns-clause-taken : goal.returns-clause-taken
returns-clause-taken c =
    taken-all (is_taken c.args.side c.args.theirs.now) c.args.changes.now
    c.loop-change.change-index c.loop-change-test.false c.loop-change.taken.items c.loop-change.invariant
