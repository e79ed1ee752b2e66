use Rattle.std.proofs.Common.{◌∙◌, ap, sym, take}
use Rattle.ini_edit.specs.SourcePlaces.{gap_of}
use Rattle.ini_edit.proofs.SourcePartLemmas.{before_index}
use Rattle.ini_edit.proofs.SourcePlaceLemmas.{gap_of-end}
use Rattle.ini_edit.proofs.source.section.SourceSection.gap_before.Goals as goal

pub returns-in-Some : goal.returns-in-Some
returns-in-Some c =
    let s = c.args.self.now in
    c.after.ensures
    ∙ sym (ap (gap_of s.after)
    (before_index c.in-Some.ensures c.requires (ap (λ s. s.pairs) c.self.view_is) c.index.ensures)
    ∙ gap_of-end s.after (take c.in-Some.before s.pairs) c.index.result.now)
