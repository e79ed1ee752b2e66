use Rattle.std.proofs.Common.{◌≤◌, ◌∙◌, ap, arith, chars, length, sym, take}
use Rattle.std.proofs.lemmas.Bool.{cond-true}
use Rattle.ini_edit.specs.SourceEditsSections.{is_pair_ended}
use Rattle.ini_edit.specs.SourceLines.{is_empty}
use Rattle.ini_edit.proofs.SourceEndLemmas.{pair_ended-end, take_count}
use Rattle.ini_edit.proofs.SourcePartLemmas.{before_index}
use Rattle.ini_edit.proofs.source.section.SourceSection.is_line_ended.Goals as goal

pub returns-in-Some : goal.returns-in-Some
returns-in-Some c =
    let s = c.args.self.now in
    let o = c.args.read in
    let within : c.count.result ≤ length s.pairs = omega (arith, c.count.ensures) in
    c.is_line_ended.ensures
    ∙ sym (ap (is_pair_ended o) (sym (take_count s.pairs c.count.result c.count.ensures)
    ∙ before_index c.in-Some.ensures within (ap (λ s. s.pairs) c.self.view_is) c.index.ensures)
    ∙ pair_ended-end o (take c.in-Some.last s.pairs) c.index.result.now)
    ∙ sym (cond-true (is_empty (chars c.args.before.now)) _ _
    (sym c.is_empty.ensures ∙ c.if-not-is_empty.false))
