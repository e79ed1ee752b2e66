use Rattle.std.proofs.Common.{◌∙◌, ap, ap₂, arith, length, sym, take, take_all}
use Rattle.std.proofs.lemmas.Bool.{cond-false, cond-true}
use Rattle.std.proofs.lemmas.Str.{chars-nil}
use Rattle.ini_edit.specs.Sorting.{above_in}
use Rattle.ini_edit.specs.SourcePlaces.{last_before_gap}
use Rattle.ini_edit.proofs.source.section.SourceSection.above_header.Goals as goal

pub returns-then-is_last : goal.returns-then-is_last
returns-then-is_last c = chars-nil ∙ sym (cond-true _ _ _ c.if-is_last.true)

pub returns : goal.returns
returns c =
    let s = c.args.self.now in
    let all =
    ap (λ l. take (length l) s.pairs) c.pairs.ensures ∙ take_all (length s.pairs) s.pairs (omega arith) in
    let last = c.last_before_gap-last.ensures ∙ ap (last_before_gap c.args.front s) all in
    c.above_in.ensures.above ∙ ap₂ above_in last c.last_gap.ensures
    ∙ sym (cond-false _ _ _ c.if-is_last.false)
