use Rattle.std.proofs.Common.{◌∙◌, chars}
use Rattle.ini_text.proofs.LawLemmas.ExportedLemmas.{front_is}
use Rattle.ini_edit.proofs.WalkLemmas.{reading, step_none, step_some}
use Rattle.ini_file.proofs.UncommentLemmas.{searches_end, searches_found, searches_more, searches_start}
use Rattle.ini_file.proofs.UncommentLemmas.{searches_within}
use Rattle.ini_file.proofs.uncomment.first_uncommented.Goals as goal

pub elements-init : goal.elements-init
elements-init c =
    searches_start c.names_fit-inside.ensures
    (reading c.new-parser.ensures.option c.new-parser.ensures.text c.new-parser.ensures.refusal)
    c.new-parser.ensures.front

pub step-requires : goal.step-requires
step-requires c = searches_within c.elements.invariant

pub returns-in_default-clause-found : goal.returns-in_default-clause-found
returns-in_default-clause-found c =
    let s = c.elements.invariant in
    searches_end s (step_none s.is_reading c.in_ok-element.ensures.element c.in_default.is)

pub returns-in-Some-2-clause-found : goal.returns-in-Some-2-clause-found
returns-in-Some-2-clause-found c =
    let s = c.elements.invariant in
    searches_found s (step_some s.is_reading c.in_ok-element.ensures.element c.in-Some.is)
    (chars c.rest-rest.result.now)
    (c.front_before-front.ensures
    ∙ front_is c.elements.parser.front (chars c.rest-start.result.now) (chars c.args.text.now)
    (c.rest-start.ensures ∙ s.is_reading.text)) c.rest-rest.ensures c.in_ok-new.ensures.made
    c.in-Some-2.is

pub elements-preserved : goal.elements-preserved
elements-preserved c =
    let s = c.elements.invariant in
    searches_more s (step_some s.is_reading c.in_ok-element.ensures.element c.in-Some.is)
    (chars c.rest-rest.result.now)
    (c.front_before-front.ensures
    ∙ front_is c.elements.parser.front (chars c.rest-start.result.now) (chars c.args.text.now)
    (c.rest-start.ensures ∙ s.is_reading.text)) c.rest-rest.ensures c.in_ok-new.ensures.made
    c.in_default-2.is c.goes_inside-inside.ensures
