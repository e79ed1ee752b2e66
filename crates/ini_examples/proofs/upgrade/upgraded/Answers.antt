use Rattle.std.proofs.Common.{IfOk, subst}
use Rattle.ini_edit.specs.Sources.{document_in}
use Rattle.ini_layers.specs.Merging.{IsMerged}
use Rattle.ini_layers.specs.declared.merging.Side.TheVariants.{Ours}
use Rattle.ini_examples.proofs.upgrade.upgraded.Goals as goal

pub returns : goal.returns
returns c = subst (λ rule. IfOk c.merge.result (λ new. IsMerged rule Ours c.args.old_default.now
    c.args.users.now (document_in c.args.new_default.now) (document_in new))) c.default.ensures
    c.merge.ensures.merged
