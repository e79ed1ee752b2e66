use Rattle.std.proofs.Common.{◌∙◌, ap, sym, take}
use Rattle.ini_edit.specs.SourceEditsDelete.{ends_in_value}
use Rattle.ini_edit.proofs.SourcePartLemmas.{before_index}
use Rattle.ini_edit.proofs.SourcePlaceLemmas.{ends_in_value-end}
use Rattle.ini_edit.proofs.source.section.SourceSection.ends_in_value.Goals as goal

pub returns-in-Some : goal.returns-in-Some
returns-in-Some c =
    let s = c.args.self.now in
    let o = c.args.read in
    c.is_multiline.ensures
    ∙ sym (ap (ends_in_value o)
    (before_index c.in-Some.ensures c.requires (ap (λ s. s.pairs) c.self.view_is) c.index.ensures)
    ∙ ends_in_value-end o (take c.in-Some.before s.pairs) c.index.result.now)
