use Rattle.std.proofs.Common.{◌∙◌, ◌++◌, ap, append_assoc, sym, take}
use Rattle.ini_text.specs.Parsing.Items.{string_text}
use Rattle.ini_edit.specs.Sources.{joined, pair_text}
use Rattle.ini_edit.proofs.InPlaceLemmas.{joined-more}
use Rattle.ini_edit.proofs.source.section.SourceSection.push_to.Goals as goal

pub loop-pair-preserved : goal.loop-pair-preserved
loop-pair-preserved c =
    let front = string_text c.push_text-2.new.out in
    let items = c.deref-pair-items.result.now in
    let text = pair_text c.pair-item.result in
    c.in_ok-push_to.ensures.pushed ∙ ap (λ t. t ++ text) c.loop-pair.invariant
    ∙ append_assoc front (joined pair_text (take c.loop-pair.pair-index items)) text
    ∙ ap (λ t. front ++ t) (sym (joined-more pair_text items c.loop-pair.pair-index c.pair-item.result
    c.loop-pair-test.true c.pair-item.is))
