use Rattle.std.proofs.Common.{◌∙◌, None, Some, refl}
use Rattle.ini_edit.proofs.SourceReadLemmas.{skips_end, skips_gap, skips_item, skips_rest, skips_start}
use Rattle.ini_edit.proofs.SourceReadLemmas.{skips_step, skips_within}
use Rattle.ini_edit.proofs.WalkLemmas.{step_none, step_some}
use Rattle.ini_edit.proofs.source.gap.reach_item.Goals as goal

pub elements-init : goal.elements-init
elements-init c = skips_start c.requires

pub step-requires : goal.step-requires
step-requires c = skips_within c.elements.invariant

pub front_before-gap-requires : goal.front_before-gap-requires
front_before-gap-requires c =
    let s = c.elements.invariant in
    skips_rest s _ _ c.rest-start.ensures (c.rest.ensures ∙ s.is_reading.text)

pub returns-in_default-clause-reached : goal.returns-in_default-clause-reached
returns-in_default-clause-reached c =
    let s = c.elements.invariant in
    skips_end s (record { gap = c.front_before-gap.result; item = None })
    (skips_gap s _ _ c.rest-start.ensures (c.rest.ensures ∙ s.is_reading.text) c.front_before-gap.ensures)
    (step_none s.is_reading c.in_ok-element.ensures.element c.in_default.is) refl

pub returns-then-not-gives_nothing-clause-reached : goal.returns-then-not-gives_nothing-clause-reached
returns-then-not-gives_nothing-clause-reached c =
    let s = c.elements.invariant in
    skips_item s (record { gap = c.front_before-gap.result; item = Some c.in-Some.element })
    (skips_gap s _ _ c.rest-start.ensures (c.rest.ensures ∙ s.is_reading.text) c.front_before-gap.ensures)
    (step_some s.is_reading c.in_ok-element.ensures.element c.in-Some.is)
    (c.gives_nothing.ensures.no c.if-not-gives_nothing.true) refl

pub elements-preserved : goal.elements-preserved
elements-preserved c =
    let s = c.elements.invariant in
    skips_step s (step_some s.is_reading c.in_ok-element.ensures.element c.in-Some.is)
    (c.gives_nothing.ensures.yes c.if-not-gives_nothing.false)
