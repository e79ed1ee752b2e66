use Rattle.std.proofs.Common.{◌∙◌, ap, take}
use Rattle.ini_text.specs.Grammar.Positions.{last_or}
use Rattle.ini_edit.specs.SourcePlaces.{gap_of}
use Rattle.ini_edit.proofs.SourceSpanLemmas.{last_after_gap}
use Rattle.ini_edit.proofs.source.section.SourceSection.last_before.Goals as goal

pub returns : goal.returns
returns c =
    let s = c.args.self.now in
    let before = take c.args.index s.pairs in
    c.last_or.ensures ∙ ap (last_or c.last_before_gap.result) c.gap_before.ensures
    ∙ ap (λ x. last_or x (gap_of s.after before)) c.last_before_gap.ensures
    ∙ last_after_gap s before c.args.front
