use Rattle.ini_edit.specs.Inside.SourceLayouts.{rules_of}
use Rattle.ini_edit.proofs.ColumnLemmas.{run_end, run_step, run_stop}
use Rattle.ini_edit.proofs.source.layout.columns.run_column.Goals as goal

pub loop-pair-preserved : goal.loop-pair-preserved
loop-pair-preserved c =
    run_step (rules_of c.args.rules.now) c.args.pairs.now c.loop-pair.pair-index c.pair-item.result
    c.loop-pair.column
    c.loop-pair-test.true c.pair-item.is c.loop-pair.invariant c.in_ok-key_width.ensures.width
    c.larger-column.ensures c.in_ok-joins.ensures.joins c.if-not-branch.false

pub returns-then-not-branch-clause-column : goal.returns-then-not-branch-clause-column
returns-then-not-branch-clause-column c =
    run_stop (rules_of c.args.rules.now) c.args.pairs.now c.loop-pair.pair-index c.pair-item.result
    c.loop-pair.column
    c.loop-pair-test.true c.pair-item.is c.loop-pair.invariant c.in_ok-key_width.ensures.width
    c.larger-column.ensures c.in_ok-joins.ensures.joins c.if-not-branch.true

pub returns-clause-column : goal.returns-clause-column
returns-clause-column c =
    run_end (rules_of c.args.rules.now) c.args.pairs.now c.loop-pair.pair-index c.loop-pair.column
    c.loop-pair-test.false c.loop-pair.invariant
