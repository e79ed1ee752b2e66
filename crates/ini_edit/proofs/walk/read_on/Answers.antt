use Rattle.ini_edit.proofs.WalkLemmas.{step_none, step_some, walked_end, walked_start, walked_step}
use Rattle.ini_edit.proofs.WalkLemmas.{walked_within}
use Rattle.ini_edit.proofs.walk.read_on.Goals as goal

pub elements-init : goal.elements-init
elements-init c = walked_start c.requires

pub step-requires : goal.step-requires
step-requires c = walked_within c.elements.invariant

pub elements-preserved : goal.elements-preserved
elements-preserved c =
    let w = c.elements.invariant in
    walked_step w (step_some w.is_reading c.in_ok-element.ensures.element c.in-Some.is)

pub returns-clause-end : goal.returns-clause-end
returns-clause-end c =
    let w = c.elements.invariant in
    walked_end w (step_none w.is_reading c.in_ok-element.ensures.element c.in_default.is)
