use Rattle.std.proofs.Common.{◌∙◌, ◌++◌, ap, chars, map, subst, sym}
use Rattle.std.proofs.lemmas.List.{take_all}
use Rattle.std.proofs.lemmas.Str.{chars-nil}
use Rattle.ini.specs.Loading.{IsDocumentOf}
use Rattle.ini_text.specs.Parsing.Items.{string_text}
use Rattle.ini_edit.specs.Sources.{document_in, given_section, section_text, sections_text}
use Rattle.ini_edit.proofs.InPlaceLemmas.{joined-more}
use Rattle.ini_edit.proofs.SpanLemmas.{sections_load}
use Rattle.ini_edit.proofs.source.Source.to_text.Goals as goal

pub loop-section-init : goal.loop-section-init
loop-section-init c = ap chars c.new-out.ensures.bytes ∙ chars-nil

pub loop-section-preserved : goal.loop-section-preserved
loop-section-preserved c =
    c.in_ok-push_to.ensures.pushed ∙ ap
    (λ t. t ++ section_text c.section-item.result) c.loop-section.invariant
    ∙ sym (joined-more section_text c.deref-section-items.result.now c.loop-section.section-index
    c.section-item.result
    c.loop-section-test.true c.section-item.is)

pub returns-clause-document : goal.returns-clause-document
returns-clause-document c =
    let items = c.deref-section-items.result.now in
    let all = take_all c.loop-section.section-index items c.loop-section-test.false in
    let text = c.loop-section.invariant ∙ ap sections_text (all ∙ c.deref-section-items.ensures.value) in
    subst (λ v. IsDocumentOf v.option (string_text c.loop-section.out) (document_in v)) c.self.view_is
    (subst (λ t. IsDocumentOf c.self.inside.option t (map given_section c.self.inside.sections.items))
    (sym text)
    (sections_load c.self.inside.sections.items c.self.invariant))
