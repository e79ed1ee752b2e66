use Rattle.std.proofs.Common.{◌∙◌, ap, chars, false, sym}
use Rattle.ini_edit.specs.SourceLines.{after_comments}
use Rattle.ini_edit.proofs.SourceLineWalkLemmas.{comment_passed, comment_shorter}
use Rattle.ini_edit.proofs.source.lines.is_comment_text.Goals as goal

pub lines-smaller : goal.lines-smaller
lines-smaller c =
    rw c.after_comment-rest.ensures (comment_shorter (chars c.lines.rest.now) (sym c.lines-test.ensures))

pub lines-preserved : goal.lines-preserved
lines-preserved c = (
  ap (after_comments false) c.after_comment-rest.ensures
      ∙ comment_passed (chars c.lines.rest.now) (sym c.lines-test.ensures) ∙ c.lines.invariant.0,
  c.after_comment-rest.utf8,
)
