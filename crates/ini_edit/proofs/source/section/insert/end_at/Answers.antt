use Rattle.std.proofs.Common.{◌≡◌, ◌∙◌, ◌&&◌, ◌++◌, false, ap, chars, eq-eqb, ne_eqb, not, sym}
use Rattle.std.proofs.lemmas.Bool.{and_from, and_left, and_right, cond-false, cond-true}
use Rattle.ini_text.specs.Grammar.CharacterKinds.{is_comment_mark, line_feed}
use Rattle.ini_text.specs.Grammar.Positions.{is_column_one, last_or}
use Rattle.ini_text.specs.Grammar.CharacterKinds.{begins}
use Rattle.ini.proofs.WritingLemmas.{chars-line_end}
use Rattle.ini_edit.proofs.CharsLemmas.{chars-return}
use Rattle.ini_edit.proofs.PutFirstLemmas.{begins_later, begins_sooner}
use Rattle.ini_edit.proofs.source.section.insert.end_at.Goals.{then-is_empty, else-is_empty}
use Rattle.ini_edit.proofs.source.section.insert.end_at.Goals.{else-is_comment-via-else-is_comment}
use Rattle.ini_edit.proofs.source.section.insert.end_at.Goals.{else-is_comment-via-then-is_comment+else-last_or-ne10}
use Rattle.ini_edit.proofs.source.section.insert.end_at.Goals as goal

pub returns-then-last_or-ne10 : goal.returns-then-last_or-ne10
returns-then-last_or-ne10 c =
    let lines = chars c.args.place.lines.now in
    let after = chars c.args.place.after.now in
    let before = chars c.args.place.before.now in
    let marked : begins is_comment_mark (lines ++ after) ≡ c.if-is_empty.is_comment =
    elim c.if-is_empty.branch [
      | then-is_empty w ↦
          begins_later is_comment_mark lines after (sym c.is_empty.ensures ∙ w.if-is_empty.true)
          ∙ sym w.begins_with_comment-is_comment.ensures ∙ sym w.is_comment-is
      | else-is_empty w ↦
          begins_sooner is_comment_mark lines after (sym c.is_empty.ensures ∙ w.if-is_empty.false)
          ∙ sym w.begins_with_comment-is_comment-else-is_empty.ensures ∙ sym w.is_comment-is
    ] in
    chars-return ∙ sym (cond-true _ _ _ (and_from (begins is_comment_mark (lines ++ after)) (not (is_column_one before))
    (marked ∙ c.if-is_comment.true)
    (ap not (ne_eqb (last_or line_feed before) line_feed
    (λ e. c.if-last_or-ne10.true (c.last_or.ensures ∙ e))))))

pub returns : goal.returns
returns c =
    let lines = chars c.args.place.lines.now in
    let after = chars c.args.place.after.now in
    let before = chars c.args.place.before.now in
    let marked : begins is_comment_mark (lines ++ after) ≡ c.if-is_empty.is_comment =
    elim c.if-is_empty.branch [
      | then-is_empty w ↦
          begins_later is_comment_mark lines after (sym c.is_empty.ensures ∙ w.if-is_empty.true)
          ∙ sym w.begins_with_comment-is_comment.ensures ∙ sym w.is_comment-is
      | else-is_empty w ↦
          begins_sooner is_comment_mark lines after (sym c.is_empty.ensures ∙ w.if-is_empty.false)
          ∙ sym w.begins_with_comment-is_comment-else-is_empty.ensures ∙ sym w.is_comment-is
    ] in
    let off : (begins is_comment_mark (lines ++ after) && not (is_column_one before)) ≡ false =
    elim c.else-is_comment.branch [
      | else-is_comment-via-then-is_comment+else-last_or-ne10 w ↦
          and_right (begins is_comment_mark (lines ++ after)) _
          (ap not (eq-eqb (last_or line_feed before) line_feed
          (sym w.last_or.ensures ∙ w.if-last_or-ne10.false)))
      | else-is_comment-via-else-is_comment w ↦ and_left _ _ (marked ∙ w.if-is_comment.false)
    ] in
    ap chars c.as_str.ensures ∙ chars-line_end c.args.end ∙ sym (cond-false _ _ _ off)
