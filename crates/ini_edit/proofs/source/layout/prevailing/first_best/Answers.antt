use Rattle.std.proofs.Common.{◌∙◌, rules, sym}
use Rattle.std.proofs.lemmas.List.MinMax.{best_of_keeps, best_of_takes}
use Rattle.ini_edit.specs.Prevailing.{prevails}
use Rattle.ini_edit.proofs.source.layout.prevailing.first_best.Goals as goal

pub loop-other-preserved-then-not-prevails : goal.loop-other-preserved-then-not-prevails
loop-other-preserved-then-not-prevails c =
    best_of_keeps (prevails c.args.forms.now) c.args.first c.args.others.now c.loop-other.other-index _
    c.loop-other.best c.loop-other-test.true (search rules) c.loop-other.invariant
    (sym c.prevails.ensures ∙ c.if-not-prevails.true)

pub loop-other-preserved : goal.loop-other-preserved
loop-other-preserved c =
    best_of_takes (prevails c.args.forms.now) c.args.first c.args.others.now c.loop-other.other-index _
    c.loop-other.best c.loop-other-test.true (search rules) c.loop-other.invariant
    (sym c.prevails.ensures ∙ c.if-not-prevails.false)
