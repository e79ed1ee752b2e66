use Rattle.ini_file.specs.RuledMerges.{AreSettingsMade}
use Rattle.ini_file.proofs.RuledMergeLemmas.{one_more_made, one_not_made}
use Rattle.ini_file.proofs.ruled_merge.set_each.Goals as goal

pub loop-index-init : goal.loop-index-init
loop-index-init c = AreSettingsMade.none_made

pub loop-index-preserved : goal.loop-index-preserved
loop-index-preserved c =
    one_more_made c.args.rule c.args.write.now c.args.edits.now c.loop-index.index _ c.loop-index-test.true
    c.loop-index.invariant c.in_default.ensures.made

pub returns-in-Err-clause-refused : goal.returns-in-Err-clause-refused
returns-in-Err-clause-refused c =
    one_not_made c.args.rule c.args.write.now c.args.edits.now c.loop-index.index _ c.loop-index-test.true
    c.loop-index.invariant c.in-Err.refusal c.in-Err.ensures.refused
