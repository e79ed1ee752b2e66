use Rattle.std.proofs.Common.{chars, subst, sym}
use Rattle.ini.specs.Texts.{str_name}
use Rattle.ini_edit.specs.FirstPairs.{LacksSection}
use Rattle.ini_edit.specs.Inside.Walks.{OpensFirst}
use Rattle.ini_edit.proofs.FindLemmas.{general_opened, sections_end, sections_opened, sections_start}
use Rattle.ini_edit.proofs.FindLemmas.{sections_step, sections_within}
use Rattle.ini_edit.proofs.WalkLemmas.{step_none, step_some}
use Rattle.ini_edit.proofs.find.reach_section.Goals as goal

pub returns-in_default-clause-opened : goal.returns-in_default-clause-opened
returns-in_default-clause-opened c is =
    subst (λ n. OpensFirst c.args.parser.now.option c.args.parser.now.text c.args.parser.now (str_name n))
    (sym c.in_default.is) (general_opened c.requires.refusal c.requires.front)

pub elements-init : goal.elements-init
elements-init c = sections_start c.requires.refusal c.requires.front (chars c.in-Some.name.now)

pub step-requires : goal.step-requires
step-requires c = sections_within c.elements.invariant

pub returns-then-opens-clause-opened : goal.returns-then-opens-clause-opened
returns-then-opens-clause-opened c is =
    let s = c.elements.invariant in
    let step = step_some s.is_reading c.in_ok-element.ensures.element c.in-Some-2.is in
    subst (λ n. OpensFirst c.args.parser.now.option c.args.parser.now.text c.step.new.parser (str_name n))
    (sym c.in-Some.is) (sections_opened s step (c.opens.ensures.yes c.if-opens.true))

pub elements-preserved : goal.elements-preserved
elements-preserved c =
    let s = c.elements.invariant in
    let step = step_some s.is_reading c.in_ok-element.ensures.element c.in-Some-2.is in
    sections_step s step (c.opens.ensures.no c.if-opens.false)

pub returns-clause-absent : goal.returns-clause-absent
returns-clause-absent c is =
    let s = c.elements.invariant in
    subst (λ n. LacksSection c.args.parser.now.option c.args.parser.now.text (str_name n)) (sym c.in-Some.is)
    (sections_end s (step_none s.is_reading c.in_ok-element.ensures.element c.in_default-2.is))
