use Rattle.std.proofs.lemmas.Bool.{both_ways}
use Rattle.ini_edit.specs.SourceEditsAt.{RefusesCommentAtIndex}
use Rattle.ini_edit.proofs.source.Source.set_comment_at.Goals as goal

pub returns-then-not-is_comment_text-clause-refused : goal.returns-then-not-is_comment_text-clause-refused
returns-then-not-is_comment_text-clause-refused c =
    RefusesCommentAtIndex.no_comment_at (λ is. both_ways c.is_comment_text.result
    c.if-not-is_comment_text.true (c.is_comment_text.ensures.1 is))
