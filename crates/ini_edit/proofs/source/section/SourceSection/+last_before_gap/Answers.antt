use Rattle.std.proofs.Common.{◌≡◌, ◌∙◌, ap, sym, take}
use Rattle.ini_text.specs.Grammar.Places.{pair_source}
use Rattle.ini_text.specs.Grammar.Positions.{last_or}
use Rattle.ini_edit.specs.SourcePlaces.{gap_of, last_before_gap, text_up_to}
use Rattle.ini_edit.proofs.SourcePartLemmas.{before_gap_last, before_index, some_last}
use Rattle.ini_edit.proofs.SourceSpanLemmas.{last_after_gap}
use Rattle.ini_edit.proofs.source.section.SourceSection.+last_before_gap.Goals as goal

pub returns-then-not-is_empty : goal.returns-then-not-is_empty
returns-then-not-is_empty t c =
    let s = c.args.self.now in
    let front = c.args.front in
    let p = c.index-pair.result.now in
    let before = take c.in-Some.before s.pairs in
    c.last_of_source.ensures
    ∙ some_last front (last_or front (text_up_to s before)) (pair_source p.stretches)
    (sym c.is_empty.ensures ∙ c.if-not-is_empty.true)
    ∙ sym (ap (last_before_gap front s)
    (before_index c.in-Some.ensures c.requires (ap (λ s. s.pairs) c.self.view_is) c.index-pair.ensures)
    ∙ before_gap_last front s before p)

pub returns : goal.returns
returns t c =
    let s = c.args.self.now in
    let front = c.args.front in
    let p = c.index-pair.result.now in
    let before = take c.in-Some.before s.pairs in
    c.last_of_source-2.ensures
    ∙ ap (λ x. last_or x (pair_source p.stretches)) (c.last_or-gap.ensures
    ∙ ap (last_or c.last_before_gap.result) c.gap_before.ensures
    ∙ ap (λ x. last_or x (gap_of s.after before)) c.last_before_gap.ensures
    ∙ last_after_gap s before front)
    ∙ sym (ap (last_before_gap front s)
    (before_index c.in-Some.ensures c.requires (ap (λ s. s.pairs) c.self.view_is) c.index-pair.ensures)
    ∙ before_gap_last front s before p)
