use Rattle.std.proofs.Common.{◌∙◌, ap, chars}
use Rattle.std.proofs.lemmas.Result.{err_from_is_err_and}
use Rattle.std.proofs.lemmas.Str.{chars-nil}
use Rattle.ini_check.proofs.MendLemmas.{mending_end, mending_start, mending_step, refused_memory}
use Rattle.ini_check.proofs.WalkLemmas.{reads_within, step_nearer, step_none, step_some}
use Rattle.ini_check.proofs.mends.elements.mend_elements.Goals as goal

pub elements-init : goal.elements-init
elements-init c =
    let p = c.new-parser.ensures in
    mending_start (record { option = p.option; text = p.text; refusal = p.refusal }) p.front
    (ap chars c.new-made.ensures.bytes ∙ chars-nil)

pub returns-in_err-element-clause-only : goal.returns-in_err-element-clause-only
returns-in_err-element-clause-only c =
    let p = err_from_is_err_and c.from_residual.result c.from_residual.ensures.1 in
    let step = c.in_err-element.ensures in
    rw (p.1, p.2) (refused_memory _ c.elements.invariant.is_reading c.requires.1 step.only step.fault)

pub push_better-requires : goal.push_better-requires
push_better-requires c =
    let s = c.elements.invariant in
    let t = step_some s.is_reading c.in_ok-element.ensures.element c.in-Some.is in
    record { places = (c.elements.parser.front, (t.stands.rest, t.stands.places)) }

pub elements-preserved : goal.elements-preserved
elements-preserved c =
    let s = c.elements.invariant in
    let t = step_some s.is_reading c.in_ok-element.ensures.element c.in-Some.is in
    mending_step s t c.in_ok-push_better.ensures.mended
