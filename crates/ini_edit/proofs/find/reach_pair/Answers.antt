use Rattle.std.proofs.Common.{◌∙◌, ap, chars, subst, sym}
use Rattle.ini_text.specs.Parsing.Places.{gives}
use Rattle.ini_text.specs.Parsing.Items.{cow_text}
use Rattle.ini.specs.Texts.{is_text}
use Rattle.ini.proofs.KeepingLemmas.{texts_equal}
use Rattle.ini_text.proofs.LawLemmas.ExportedLemmas.{front_is}
use Rattle.ini_edit.proofs.FindLemmas.{PairsWithout, search_end, search_header, search_pair, search_start}
use Rattle.ini_edit.proofs.FindLemmas.{search_step, search_within}
use Rattle.ini_edit.proofs.WalkLemmas.{step_none, step_some}
use Rattle.ini_edit.proofs.find.reach_pair.Goals as goal

pub elements-init : goal.elements-init
elements-init c = search_start c.requires.within

pub step-requires : goal.step-requires
step-requires c = search_within c.elements.invariant

pub returns-in_default-clause-found : goal.returns-in_default-clause-found
returns-in_default-clause-found c =
    let s = c.elements.invariant in
    search_end s (step_none s.walked.is_reading c.in_ok-element.ensures.element c.in_default.is)

pub elements-preserved-in-Nothing : goal.elements-preserved-in-Nothing
elements-preserved-in-Nothing c =
    let s = c.elements.invariant in
    search_step s (step_some s.walked.is_reading c.in_ok-element.ensures.element c.in-Some.is)
    (subst (λ x. PairsWithout (chars c.args.key.now) (gives x)) (sym c.in-Nothing.is) PairsWithout.nothing)

pub returns-in-Header-clause-found : goal.returns-in-Header-clause-found
returns-in-Header-clause-found c =
    let s = c.elements.invariant in
    search_header s (step_some s.walked.is_reading c.in_ok-element.ensures.element c.in-Some.is)
    (ap gives c.in-Header.is)

pub returns-then-is_same_text-clause-found : goal.returns-then-is_same_text-clause-found
returns-then-is_same_text-clause-found c =
    let s = c.elements.invariant in
    search_pair s _ (step_some s.walked.is_reading c.in_ok-element.ensures.element c.in-Some.is) c.in-Pair.is
    (sym (texts_equal (chars c.args.key.now) (cow_text c.in-Pair.pair.key)
    (ap (is_text (chars c.args.key.now))
    (sym (ap chars c.as_str.ensures.value ∙ ap (λ p. cow_text p.key) c.in-Pair.pair-is))
    ∙ sym c.is_same_text.ensures ∙ c.if-is_same_text.true)))
    (c.front_before.ensures
    ∙ front_is c.elements.parser.front (chars c.rest-start.result.now) (chars c.args.text.now)
    (c.rest-start.ensures ∙ s.walked.is_reading.text ∙ c.requires.text))
    (ap (λ p. p.value) c.in-Pair.pair-is) (ap (λ p. p.places) c.in-Pair.pair-is) c.rest.ensures

pub elements-preserved : goal.elements-preserved
elements-preserved c =
    let s = c.elements.invariant in
    search_step s (step_some s.walked.is_reading c.in_ok-element.ensures.element c.in-Some.is)
    (subst (λ x. PairsWithout (chars c.args.key.now) (gives x)) (sym c.in-Pair.is)
    (PairsWithout.pair
    (ap (is_text (chars c.args.key.now))
    (sym (ap chars c.as_str.ensures.value ∙ ap (λ p. cow_text p.key) c.in-Pair.pair-is))
    ∙ sym c.is_same_text.ensures ∙ c.if-is_same_text.false)))
