use Rattle.std.proofs.Common.{◌≡◌, ◌∙◌, ◌++◌, Some, ap, flat_map, sym}
use Rattle.std.specs.Option.{option_map}
use Rattle.ini_edit.specs.Prevailing.{form_style, forms_in, forms_of, prevailing}
use Rattle.ini_edit.proofs.PrevailingLemmas.{shown_end, shown_step}
use Rattle.ini_edit.proofs.source.layout.prevailing.prevailing_style.Goals as goal

pub loop-section-preserved : goal.loop-section-preserved
loop-section-preserved c =
    shown_step (λ s. flat_map (forms_of c.args.aligned) s.pairs) c.args.sections.now
    c.loop-section.section-index c.section-item.result c.loop-section.forms.items c.loop-section-test.true
    c.section-item.is c.loop-section.invariant
    (c.in_ok-push_forms.ensures.pushed
    ∙ ap (λ ps. c.loop-section.forms.items ++ flat_map (forms_of c.args.aligned) ps) c.pairs.ensures)

pub returns-in-Some-clause-style : goal.returns-in-Some-clause-style
returns-in-Some-clause-style c =
    let items : c.loop-section.forms.items ≡ forms_in c.args.aligned c.args.sections.now =
    shown_end (λ s. flat_map (forms_of c.args.aligned) s.pairs) c.args.sections.now
    c.loop-section.section-index c.loop-section.forms.items c.loop-section-test.false
    c.loop-section.invariant in
    ap Some c.form_style.ensures
    ∙ ap (option_map form_style) (sym c.in-Some.is ∙ c.prevailing.ensures
    ∙ ap prevailing (c.as_slice.ensures.value ∙ items))

pub returns-clause-style : goal.returns-clause-style
returns-clause-style c =
    let items : c.loop-section.forms.items ≡ forms_in c.args.aligned c.args.sections.now =
    shown_end (λ s. flat_map (forms_of c.args.aligned) s.pairs) c.args.sections.now
    c.loop-section.section-index c.loop-section.forms.items c.loop-section-test.false
    c.loop-section.invariant in
    ap (option_map form_style) (sym c.in-None.is ∙ c.prevailing.ensures
    ∙ ap prevailing (c.as_slice.ensures.value ∙ items))
