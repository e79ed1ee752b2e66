use Rattle.std.proofs.Common.{◌∙◌, [], ◌++◌, ap, append-nil, refl, sym, take}
use Rattle.ini_text.specs.Grammar.Places.{pair_source}
use Rattle.ini_edit.specs.Inside.SourceElementWalks.{passed}
use Rattle.ini_edit.specs.SourcePlaces.{text_up_to}
use Rattle.ini_edit.specs.Sources.{pair_text}
use Rattle.ini_edit.proofs.SourceElementLemmas.{onward, passed-append}
use Rattle.ini_edit.proofs.SourcePartLemmas.{one_pair_on}
use Rattle.ini_edit.proofs.source.section.SourceSection.end_of_pairs.Goals as goal

pub loop-pair-init : goal.loop-pair-init
loop-pair-init c =
    let s = c.args.self.now in
    let p = c.args.position in
    c.after-position.ensures ∙ onward (c.after.ensures ∙ onward refl c.header.ensures) c.after-2.ensures
    ∙ sym (passed-append p s.header s.after)
    ∙ ap (λ t. passed p (s.header ++ t)) (sym (append-nil s.after))

pub loop-pair-preserved : goal.loop-pair-preserved
loop-pair-preserved c =
    let s = c.args.self.now in
    let p = c.args.position in
    let items = take c.args.index c.pairs.result.now in
    let i = c.loop-pair.pair-index in
    let x = c.pair-item.result in
    let before = text_up_to s (take i items) in
    c.after-position-in-loop-pair.ensures
    ∙ onward (c.end_of_pair.ensures ∙ ap (λ q. passed q (pair_source x.stretches)) c.loop-pair.invariant)
    c.after-in-loop-pair.ensures
    ∙ sym (passed-append (passed p before) (pair_source x.stretches) x.after)
    ∙ sym (passed-append p before (pair_text x))
    ∙ ap (passed p) (one_pair_on [] s items i x c.loop-pair-test.true c.pair-item.is)
