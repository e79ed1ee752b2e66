use Rattle.std.proofs.Common.{chars}
use Rattle.ini_dialect.specs.Lookups.{valued}
use Rattle.ini_dialect.proofs.EditLemmas.{copied-more, number-step}
use Rattle.ini_dialect.proofs.rule.Lookup.set_in_section.Goals as goal

pub loop-name-preserved : goal.loop-name-preserved
loop-name-preserved c =
    let set = valued c.args.self (chars c.args.key.now) (chars c.args.value.now) in
    let step =
    number-step set _ _ c.loop-name.left _ c.comes_now.result _ _ _ c.in-Some.ensures.steps
    c.comes_now.ensures
    c.in_ok-pairs.ensures.set c.one_less-left.ensures in
    copied-more c.loop-name.edited _ _ _ _ _ c.loop-name.invariant step
    c.in_ok-append_section.ensures.appended
