use Rattle.std.proofs.Common.{◌∙◌, ap, sym}
use Rattle.std.proofs.lemmas.Bool.{cond-false, cond-true}
use Rattle.std.proofs.lemmas.Str.{chars-nil}
use Rattle.ini_text.specs.Grammar.CharacterKinds.{begins, is_comment_mark}
use Rattle.ini_edit.specs.SourceLines.{blanks_at_end}
use Rattle.ini_edit.proofs.source.section.SourceSection.blanks_before_note.Goals as goal

pub returns-then-begins_with_comment : goal.returns-then-begins_with_comment
returns-then-begins_with_comment c =
    c.blanks_at_end.ensures ∙ ap blanks_at_end c.header.ensures
    ∙ sym (cond-true (begins is_comment_mark c.args.self.now.after) _ _
    (ap (begins is_comment_mark) (sym c.after.ensures) ∙ sym c.begins_with_comment.ensures
    ∙ c.if-begins_with_comment.true))

pub returns : goal.returns
returns c =
    chars-nil ∙ sym (cond-false (begins is_comment_mark c.args.self.now.after) _ _
    (ap (begins is_comment_mark) (sym c.after.ensures) ∙ sym c.begins_with_comment.ensures
    ∙ c.if-begins_with_comment.false))
