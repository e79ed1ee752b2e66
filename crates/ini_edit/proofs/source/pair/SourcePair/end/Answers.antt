use Rattle.std.proofs.Common.{◌≡◌, ◌∙◌, ap, chars, subst, sym}
use Rattle.std.proofs.lemmas.Str.{chars-nil}
use Rattle.ini_text.specs.Inside.LineReader.{past_note}
use Rattle.ini_text.specs.Parsing.Fronts.{IsRest, front_of}
use Rattle.ini_edit.specs.SourceEditsDelete.{own_lines}
use Rattle.ini_edit.specs.SourceLines.{after_line_end, quiet_lines_at_end}
use Rattle.ini_edit.proofs.PairEndLemmas.{gap_lone, gap_off, line_end_on, lines_lone, lines_off}
use Rattle.ini_edit.proofs.PairEndLemmas.{no_line_end_on, own_on}
use Rattle.ini_edit.proofs.SourceLineLemmas.{after_line_end-rest, past_note-rest, quiet_lines_at_end-rest}
use Rattle.ini_edit.proofs.SourceLineLemmas.{rest_of_rest}
use Rattle.ini_edit.proofs.source.pair.SourcePair.end.Goals.{else-ends_line, then-ends_line}
use Rattle.ini_edit.proofs.source.pair.SourcePair.end.Goals as goal

pub front_before-own-requires : goal.front_before-own-requires
front_before-own-requires c =
    let lines = chars c.trailing_lines-trailing_lines.result.now in
    subst (IsRest lines) (sym c.quiet_lines_at_end-lines.ensures) (quiet_lines_at_end-rest c.args.read lines)

pub front_before-own-requires-2 : goal.front_before-own-requires-2
front_before-own-requires-2 c =
    let o = c.args.read in
    let gap = c.args.self.now.after in
    subst (λ t. IsRest t (chars c.after_line_end-rest.result.now)) (sym c.after-3.ensures)
    (subst (IsRest gap) (sym (c.after_line_end-rest.ensures
    ∙ ap after_line_end (c.past_note.ensures ∙ ap (past_note o) c.after-2.ensures)))
    (rest_of_rest gap (past_note o gap) (after_line_end (past_note o gap)) (past_note-rest o gap)
    (after_line_end-rest (past_note o gap))))

pub returns-then-is_multiline-clause-line_end : goal.returns-then-is_multiline-clause-line_end
returns-then-is_multiline-clause-line_end c =
    let o = c.args.read in
    let p = c.args.self.now in
    let on = sym c.is_multiline.ensures ∙ c.if-is_multiline.true in
    let own = chars c.front_before-own.result.now in
    let own_is : own ≡ own_lines o p =
    c.front_before-own.ensures
    ∙ ap (front_of (chars c.trailing_lines-trailing_lines.result.now)) c.quiet_lines_at_end-lines.ensures
    ∙ ap (λ t. front_of t (quiet_lines_at_end o t)) c.trailing_lines-trailing_lines.ensures
    ∙ sym (own_on o p on) in
    elim c.if-ends_line.branch [
      | then-ends_line w ↦
          ap (λ t. chars t.now) w.line_end-is ∙ w.line_end_at_end-line_end.ensures
          ∙ sym (line_end_on o p on own own_is (sym c.ends_line.ensures ∙ w.if-ends_line.true))
      | else-ends_line w ↦
          ap (λ t. chars t.now) w.line_end-is ∙ chars-nil
          ∙ sym (no_line_end_on o p on own own_is (sym c.ends_line.ensures ∙ w.if-ends_line.false))
    ]

pub returns-then-read-clause-lines : goal.returns-then-read-clause-lines
returns-then-read-clause-lines c =
    chars-nil ∙ sym (lines_lone c.args.read c.args.self.now
    (sym c.is_multiline.ensures ∙ c.if-is_multiline.false) c.if-read.true)

pub returns-then-read-clause-gap : goal.returns-then-read-clause-gap
returns-then-read-clause-gap c =
    c.after_line_end-rest.ensures
    ∙ ap after_line_end (c.past_note.ensures ∙ ap (past_note c.args.read) c.after-2.ensures)
    ∙ sym (gap_lone c.args.read c.args.self.now
    (sym c.is_multiline.ensures ∙ c.if-is_multiline.false) c.if-read.true)

pub returns-clause-lines : goal.returns-clause-lines
returns-clause-lines c =
    c.after_line_end-rest.ensures
    ∙ ap after_line_end (c.past_note.ensures ∙ ap (past_note c.args.read) c.after-2.ensures)
    ∙ sym (lines_off c.args.read c.args.self.now
    (sym c.is_multiline.ensures ∙ c.if-is_multiline.false) c.if-read.false)

pub returns-clause-gap : goal.returns-clause-gap
returns-clause-gap c =
    chars-nil ∙ sym (gap_off c.args.read c.args.self.now
    (sym c.is_multiline.ensures ∙ c.if-is_multiline.false) c.if-read.false)
