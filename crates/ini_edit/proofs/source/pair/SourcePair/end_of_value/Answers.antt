use Rattle.std.proofs.Common.{◌≡◌, ◌∙◌, ◌∷◌, ◌++◌, [], ap, ap₂, chars, sym, true}
use Rattle.std.proofs.lemmas.Bool.{and_right, cond-false, cond-true}
use Rattle.std.proofs.lemmas.Str.{chars-nil}
use Rattle.ini.specs.Texts.{Text}
use Rattle.ini_text.specs.Grammar.CharacterKinds.{line_feed}
use Rattle.ini_text.specs.Grammar.Positions.{last_or}
use Rattle.ini_text.specs.Inside.LineReader.{past_note}
use Rattle.ini_text.specs.Parsing.Fronts.{front_of}
use Rattle.ini_text.specs.Parsing.Items.{string_text}
use Rattle.ini_edit.specs.Inside.SourceEnds.{ends_of_value}
use Rattle.ini_edit.specs.SourceEditsDelete.{empty_comment, gap_after, to_line_feed}
use Rattle.ini_edit.specs.SourceLines.{after_line_end}
use Rattle.ini_edit.specs.Sources.{has_separator, is_multiline}
use Rattle.ini_edit.proofs.CharsLemmas.{chars-feed}
use Rattle.ini_edit.proofs.source.pair.SourcePair.end_of_value.Goals as goal

pub returns-then-not-read-clause-ends : goal.returns-then-not-read-clause-ends
returns-then-not-read-clause-ends c =
    let o = c.args.read in
    let p = c.args.self.now in
    let both : Text → Text → Text × Text = λ x y. (x, y) in
    ap₂ both (ap chars c.new.ensures.bytes ∙ chars-nil)
    (ap chars c.in_ok-from_str.ensures.ok ∙ c.past_note-rest.ensures ∙ ap (past_note o) c.after.ensures)
    ∙ sym (cond-false o.enabled_indented_mutiline_value _ _ c.if-not-read.true)

pub returns-clause-ends : goal.returns-clause-ends
returns-clause-ends c =
    let o = c.args.read in
    let p = c.args.self.now in
    let many = o.enabled_indented_mutiline_value in
    let on : many ≡ true = c.if-not-read.false in
    let both : Text → Text → Text × Text = λ x y. (x, y) in
    let left = past_note o p.after in
    let end = front_of left (after_line_end left) in
    let rest_is : chars c.past_note-rest.result.now ≡ left =
    c.past_note-rest.ensures ∙ ap (past_note o) c.after.ensures in
    let gap_is : chars c.after_line_end-gap.result.now ≡ after_line_end left =
    c.after_line_end-gap.ensures ∙ ap after_line_end rest_is in
    let end_is : chars c.front_before-end.result.now ≡ end =
    c.front_before-end.ensures ∙ ap₂ front_of rest_is gap_is in
    let lines_are : string_text c.push_text.new.out ≡ end ++ to_line_feed (last_or line_feed end) =
    c.in_ok-push_text.ensures.pushed
    ∙ ap₂ (λ x y. x ++ y) (ap chars c.in_ok-lines.ensures.ok ∙ end_is)
    (c.to_line_feed.ensures ∙ ap to_line_feed (c.last_or.ensures ∙ ap (last_or line_feed) end_is)) in
    let gap : gap_after o p ≡ after_line_end left =
    cond-false (is_multiline o p) _ _ (and_right many (has_separator p) c.requires) ∙ cond-true many _ _ on in
    let after_is : string_text c.in_ok-after_empty_comment.field-0
    ≡ empty_comment (line_feed ∷ []) ++ gap_after o p =
    c.in_ok-after_empty_comment.ensures.text
    ∙ ap₂ (λ e g. empty_comment e ++ g) chars-feed (gap_is ∙ sym gap) in
    ap₂ both lines_are after_is ∙ sym (cond-true many _ _ on)
    ∙ ap (λ b. ends_of_value o b p) (sym c.if-not-is_taken.false)
