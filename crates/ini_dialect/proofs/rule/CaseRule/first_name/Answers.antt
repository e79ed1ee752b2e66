use Rattle.std.proofs.Common.{◌∙◌, Some, ap, chars, sym}
use Rattle.ini.specs.Texts.{str_name}
use Rattle.ini_edit.proofs.FirstLemmas.{passed_end, passed_found, passed_more, passed_start, stands_there}
use Rattle.ini_dialect.specs.SectionEdits.{is_sought}
use Rattle.ini_dialect.proofs.SectionEditLemmas.{first_answered, general_stays}
use Rattle.ini_dialect.proofs.rule.CaseRule.first_name.Goals as goal

pub loop-section-init : goal.loop-section-init
loop-section-init c = passed_start _ c.args.sections.now

pub loop-section-preserved : goal.loop-section-preserved
loop-section-preserved c =
    let sought = is_sought c.args.self (chars c.args.name.now) (str_name c.args.but) in
    passed_more (λ s. sought s.name) c.loop-section.invariant c.loop-section-test.true c.section-item.is
    (ap sought (sym c.name-found.ensures) ∙ sym c.seeks.ensures ∙ c.if-seeks.false)

pub returns-then-seeks : goal.returns-then-seeks
returns-then-seeks c =
    let sought = is_sought c.args.self (chars c.args.name.now) (str_name c.args.but) in
    let fits = ap sought (sym c.name-found.ensures) ∙ sym c.seeks.ensures ∙ c.if-seeks.true in
    let at = passed_found (λ s. sought s.name) c.loop-section.invariant c.loop-section-test.true
    c.section-item.is fits in
    first_answered (λ n. sought n) c.args.sections.now c.section-item.result c.owned_name.result
    (general_stays c.args.self (chars c.args.name.now) (str_name c.args.but))
    (at.fitting ∙ ap Some (stands_there (λ s. sought s.name) at c.section-item.is)) fits
    (rw c.name-found.ensures at c.owned_name.ensures)

pub returns : goal.returns
returns c = passed_end _ c.loop-section.invariant c.loop-section-test.false
