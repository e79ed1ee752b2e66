use Rattle.std.proofs.Common.{◌≡◌, ◌∙◌, ap, arith, chars, sym, take}
use Rattle.std.proofs.lemmas.Str.{chars-nil}
use Rattle.ini_edit.specs.Inside.SourceEnds.{trailing_of}
use Rattle.ini_edit.proofs.SourcePartLemmas.{before_index}
use Rattle.ini_edit.proofs.SourcePlaceLemmas.{trailing_of-end}
use Rattle.ini_edit.proofs.source.section.SourceSection.trailing_lines_before.Goals as goal

pub returns-in_ok-from_str-in-Some-clause-lines : goal.returns-in_ok-from_str-in-Some-clause-lines
returns-in_ok-from_str-in-Some-clause-lines c =
    let s = c.args.self.now in
    ap chars c.in_ok-from_str-in-Some.ensures.ok ∙ c.trailing_lines.ensures
    ∙ sym (ap trailing_of (before_index c.in-Some.ensures c.requires (ap (λ s. s.pairs) c.self.view_is)
    c.index.ensures)
    ∙ trailing_of-end (take c.in-Some.before s.pairs) c.index.result.now)

pub returns-in-None-clause-lines : goal.returns-in-None-clause-lines
returns-in-None-clause-lines c =
    let first : c.args.index ≡ 0 = omega (arith, c.in-None.ensures) in
    ap chars c.new.ensures.bytes ∙ chars-nil
    ∙ sym (ap (λ n. trailing_of (take n c.args.self.now.pairs)) first)
