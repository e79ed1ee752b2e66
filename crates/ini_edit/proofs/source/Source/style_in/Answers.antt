use Rattle.std.proofs.Common.{◌∙◌, ap, arith, get_or, length, min}
use Rattle.ini_edit.proofs.NewStyleLemmas.{style_within}
use Rattle.ini_edit.proofs.source.Source.style_in.Goals as goal

pub style_before-requires : goal.style_before-requires
style_before-requires c = omega (arith, ap length c.pairs.ensures)

pub returns : goal.returns
returns c =
    let i = c.args.section in
    let ss = c.args.self.now.sections in
    let same = ap (λ v. v.sections) c.self.view_is in
    c.style_before.ensures
    ∙ style_within c.args.read ss c.args.index c.min-before.result (omega (arith, ap length same))
    (c.index-here.ensures ∙ ap (λ l. get_or l i c.index-here.result.now) same)
    (c.min-before.ensures ∙ ap (λ l. min c.args.index (length l)) c.pairs.ensures)
    c.last_before-front.ensures
