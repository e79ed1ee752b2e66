use Rattle.std.proofs.Common.{map}
use Rattle.ini_layers.specs.Differences.{setting_change}
use Rattle.ini_layers.specs.SourceChanges.{AreMadeBy}
use Rattle.ini_layers.specs.declared.change.SettingValue.TheVariants.{Counting}
use Rattle.ini_layers.proofs.MadeLemmas.{none_made, one_more, one_refused}
use Rattle.ini_layers.proofs.applying.put_found.Goals as goal

pub returns-in-Err-clause-refused : goal.returns-in-Err-clause-refused
returns-in-Err-clause-refused c =
    rw (c.refused_at.ensures, c.into.ensures, c.in-Err.ensures.only_memory)
    (none_made Counting c.args.rule c.args.write.now (map setting_change c.args.changes.now)
    c.args.source.now)

pub loop-index-init : goal.loop-index-init
loop-index-init c = (AreMadeBy.none, c.in-Ok.ensures.document)

pub returns-in-Err-put-clause-refused : goal.returns-in-Err-put-clause-refused
returns-in-Err-put-clause-refused c =
    rw c.refused_at-in-Err-put.ensures
    (one_refused Counting c.args.rule c.args.write.now c.args.changes.now c.loop-index.index _
    c.in-Err-put.refusal c.loop-index-test.true c.loop-index.invariant.0 c.in-Err-put.ensures.refused)

pub loop-index-preserved : goal.loop-index-preserved
loop-index-preserved c = (
  one_more Counting c.args.rule c.args.write.now c.args.changes.now c.loop-index.index _
      c.loop-index-test.true c.loop-index.invariant.0 c.in_default.ensures.made,
  c.in_default.ensures.kept,
)
