use Rattle.std.proofs.Common.{chars}
use Rattle.ini_dialect.proofs.EditLemmas.{copied-more, number-step}
use Rattle.ini_dialect.proofs.edit.set_pair.Goals as goal

pub loop-key-preserved : goal.loop-key-preserved
loop-key-preserved c =
    let step =
    number-step (λ _. chars c.args.value.now) _ _ c.loop-key.left _ c.comes_now.result _ _ _
    c.in-Some.ensures.steps c.comes_now.ensures c.chosen.ensures c.one_less-left.ensures in
    copied-more c.loop-key.pairs _ _ _ _ _ c.loop-key.invariant step c.in_ok-append.ensures.appended
