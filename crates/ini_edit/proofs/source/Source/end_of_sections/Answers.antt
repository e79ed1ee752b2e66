use Rattle.std.proofs.Common.{◌∙◌, ap, length, sym, take}
use Rattle.std.proofs.Math.Seq.{take-length}
use Rattle.ini_edit.specs.Inside.SourceElementWalks.{passed}
use Rattle.ini_edit.specs.SourceElements.{position_of}
use Rattle.ini_edit.specs.SourcePlaces.{text_up_to}
use Rattle.ini_edit.specs.Sources.{section_text, sections_text}
use Rattle.ini_edit.proofs.InPlaceLemmas.{joined-more}
use Rattle.ini_edit.proofs.SourceElementLemmas.{passed-position}
use Rattle.ini_edit.proofs.source.Source.end_of_sections.Goals as goal

pub loop-section-preserved : goal.loop-section-preserved
loop-section-preserved c =
    let s = c.section-item.result in
    let items = take c.args.count c.deref.result.now in
    let i = c.loop-section.section-index in
    c.end_of_pairs-position.ensures
    ∙ ap (λ ps. passed c.loop-section.position (text_up_to s ps))
    (ap (λ l. take (length l) s.pairs) c.pairs.ensures ∙ take-length s.pairs)
    ∙ ap (λ q. passed q (section_text s)) c.loop-section.invariant
    ∙ passed-position (sections_text (take i items)) (section_text s)
    ∙ ap position_of (sym (joined-more section_text items i s c.loop-section-test.true c.section-item.is))
