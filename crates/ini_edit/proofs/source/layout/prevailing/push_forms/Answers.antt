use Rattle.ini_edit.specs.Prevailing.{forms_of}
use Rattle.ini_edit.proofs.PrevailingLemmas.{shown_end, shown_step}
use Rattle.ini_edit.proofs.source.layout.prevailing.push_forms.Goals as goal

pub loop-pair-preserved : goal.loop-pair-preserved
loop-pair-preserved c =
    shown_step (forms_of c.args.aligned) c.args.pairs.now c.loop-pair.pair-index c.pair-item.result
    c.loop-pair.forms.items c.loop-pair-test.true c.pair-item.is c.loop-pair.invariant
    c.in_ok-push_form.ensures.pushed

pub returns-clause-pushed : goal.returns-clause-pushed
returns-clause-pushed c =
    shown_end (forms_of c.args.aligned) c.args.pairs.now c.loop-pair.pair-index c.loop-pair.forms.items
    c.loop-pair-test.false c.loop-pair.invariant
