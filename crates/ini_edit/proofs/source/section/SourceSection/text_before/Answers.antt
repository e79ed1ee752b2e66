use Rattle.std.proofs.Common.{◌∙◌, ◌++◌, ap, chars, sym, take}
use Rattle.std.proofs.lemmas.List.{take_all}
use Rattle.ini_text.specs.Grammar.Places.{pair_source}
use Rattle.ini_edit.specs.Inside.Spans.{span_source}
use Rattle.ini_edit.specs.SourcePlaces.{gap_of}
use Rattle.ini_edit.specs.Sources.{joined}
use Rattle.ini_edit.proofs.SourceEndLemmas.{text_before_is, text_one_on}
use Rattle.ini_edit.proofs.SourceSpanLemmas.{spans_to_gap}
use Rattle.ini_edit.proofs.source.section.SourceSection.text_before.Goals as goal

pub loop-i-preserved : goal.loop-i-preserved
loop-i-preserved c =
    let s = c.args.self.now in
    let items = c.deref-pair-items.result.now in
    c.in_ok-push_source.ensures.pushed
    ∙ ap (λ t. t ++ pair_source c.pair-item.result.stretches)
    (c.in_ok-push_text.ensures.pushed ∙ ap (λ t. t ++ chars c.gap_before.result.now) c.loop-i.invariant
    ∙ ap (λ g. joined span_source (spans_to_gap s (take c.loop-i.i items)) ++ g) (c.gap_before.ensures
    ∙ ap (λ l. gap_of s.after (take c.loop-i.i l)) (sym (c.deref-pair-items.ensures.value
    ∙ ap (λ s. s.pairs) c.self.view_is))))
    ∙ text_one_on s items c.loop-i.i c.pair-item.result c.loop-i-test.true c.pair-item.is

pub returns-clause-text : goal.returns-clause-text
returns-clause-text c = λ rest is.
    let s = c.args.self.now in
    let gap = chars c.args.gap.now in
    c.in_ok-push_text-2.ensures.pushed
    ∙ ap (λ t. t ++ gap) (c.loop-i.invariant ∙ ap (λ l. joined span_source (spans_to_gap s l))
    (take_all c.loop-i.i c.deref-pair-items.result.now c.loop-i-test.false
    ∙ c.deref-pair-items.ensures.value ∙ ap (λ s. s.pairs) c.self.view_is))
    ∙ text_before_is s gap rest is
