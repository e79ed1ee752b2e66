use Rattle.std.proofs.Common.{◌∙◌, subst, sym}
use Rattle.std.proofs.lemmas.List.{take_all}
use Rattle.ini_edit.specs.Inside.Spans.{AreSections}
use Rattle.ini_edit.proofs.source.Source.copy.Goals as goal

pub invariant_of-result : goal.invariant_of-result
invariant_of-result c =
    let all = take_all c.loop-section.section-index c.deref-section-items.result.now
    c.loop-section-test.false in
    subst (AreSections c.self.inside.option)
    (sym (c.loop-section.invariant ∙ all ∙ c.deref-section-items.ensures.value)) c.self.invariant
