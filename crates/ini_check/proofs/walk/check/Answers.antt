use Rattle.std.proofs.Common.{arith, chars, subst}
use Rattle.ini_text.proofs.StringLemmas.PositionLemmas.{characters_fit}
use Rattle.ini_check.proofs.PositionLemmas.{room_after}
use Rattle.ini_check.proofs.WalkLemmas.{checks_start, checks_step, step_some}
use Rattle.ini_check.specs.Warnings.{Adds, ElementWarns}
use Rattle.ini_check.proofs.walk.check.Goals as goal

pub elements-init : goal.elements-init
elements-init c =
    let p = c.new-parser.ensures in
    checks_start p.option p.text p.front p.refusal c.at_front-position.ensures c.none-seen.ensures
    c.new-warnings.ensures.items

pub warn_element-requires-clause-room : goal.warn_element-requires-clause-room
warn_element-requires-clause-room c =
    let s = c.elements.invariant in
    let t = step_some s.is_reading c.in_ok-element.ensures.element c.in-Some.is in
    room_after (chars c.args.text.now) c.elements.parser.front (chars c.in-Some.element.source.now)
    t.stands.rest c.elements.position (omega (arith, characters_fit c.args.text.now c.utf8.text))
    t.stands.whole s.at

pub warn_element-requires-clause-places : goal.warn_element-requires-clause-places
warn_element-requires-clause-places c =
    let s = c.elements.invariant in
    let t = step_some s.is_reading c.in_ok-element.ensures.element c.in-Some.is in
    (c.elements.parser.front, (t.stands.rest, t.stands.places))

pub advance-position-requires : goal.advance-position-requires
advance-position-requires c =
    let s = c.elements.invariant in
    let t = step_some s.is_reading c.in_ok-element.ensures.element c.in-Some.is in
    room_after (chars c.args.text.now) c.elements.parser.front (chars c.in-Some.element.source.now)
    t.stands.rest c.elements.position (omega (arith, characters_fit c.args.text.now c.utf8.text))
    t.stands.whole s.at

pub elements-preserved : goal.elements-preserved
elements-preserved c =
    let s = c.elements.invariant in
    let noted = c.in_ok-known.ensures in
    let t = step_some s.is_reading c.in_ok-element.ensures.element c.in-Some.is in
    let warned = c.in_ok-warn_element.ensures.warned c.elements.parser.front s.at in
    let e = c.in-Some.element in
    let front = c.elements.parser.front in
    checks_step s t
    (subst (λ k. Adds (ElementWarns c.args.read front k (chars e.source.now) e.content)
    c.elements.warnings.items c.warn_element.new.warnings.items) noted.known warned)
    noted.seen (c.advance-position.ensures.at front s.at)
