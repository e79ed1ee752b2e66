use Rattle.std.proofs.Common.{◌∙◌, ◌++◌, ap, append-nil, chars, sym}
use Rattle.ini_edit.specs.SourceEditsDelete.{own_lines}
use Rattle.ini_edit.specs.SourceLines.{is_empty}
use Rattle.ini_edit.proofs.PairEndLemmas.{closed_ended, ended_with, ended_without}
use Rattle.ini_edit.proofs.source.pair.SourcePair.ended_lines.Goals as goal

pub returns-then-not-is_empty-clause-last_word : goal.returns-then-not-is_empty-clause-last_word
returns-then-not-is_empty-clause-last_word c =
    sym (closed_ended c.args.read c.args.self.now (sym (ap is_empty c.end-end.ensures.line_end)
    ∙ sym c.is_empty.ensures ∙ c.if-not-is_empty.true))

pub returns-then-not-is_empty-clause-lines : goal.returns-then-not-is_empty-clause-lines
returns-then-not-is_empty-clause-lines c =
    ap chars c.in_ok-own.ensures.ok ∙ c.end-end.ensures.own
    ∙ sym (append-nil (own_lines c.args.read c.args.self.now))
    ∙ ended_with c.args.read c.args.self.now (chars c.args.line_end.now)
    (sym (ap is_empty c.end-end.ensures.line_end) ∙ sym c.is_empty.ensures ∙ c.if-not-is_empty.true)

pub returns-clause-lines : goal.returns-clause-lines
returns-clause-lines c =
    let line_end = chars c.args.line_end.now in
    c.in_ok-push_text.ensures.pushed
    ∙ ap (λ t. t ++ line_end) (ap chars c.in_ok-own.ensures.ok ∙ c.end-end.ensures.own)
    ∙ ended_without c.args.read c.args.self.now line_end
    (sym (ap is_empty c.end-end.ensures.line_end) ∙ sym c.is_empty.ensures ∙ c.if-not-is_empty.false)
