use Rattle.std.proofs.lemmas.Bool.{both_ways}
use Rattle.std.proofs.lemmas.Result.{err_from_is_err_and}
use Rattle.ini_edit.specs.SourceEditsComments.{RefusesComment}
use Rattle.ini_edit.proofs.SourceIndexLemmas.{commented_first, pair_indexed, refused_first}
use Rattle.ini_edit.proofs.source.Source.set_comment.Goals as goal

pub returns-then-not-is_comment_text-clause-refused : goal.returns-then-not-is_comment_text-clause-refused
returns-then-not-is_comment_text-clause-refused c =
    RefusesComment.no_comment (λ is. both_ways c.is_comment_text.result c.if-not-is_comment_text.true
    (c.is_comment_text.ensures.1 is))

pub put_comment-requires-clause-there : goal.put_comment-requires-clause-there
put_comment-requires-clause-there c = pair_indexed c.in-Some.ensures

pub returns-in_err-put_comment-clause-refused : goal.returns-in_err-put_comment-clause-refused
returns-in_err-put_comment-clause-refused c =
    let p = err_from_is_err_and c.from_residual.result c.from_residual.ensures.1 in
    rw (p.1, p.2) (refused_first c.in-Some.ensures c.in_err-put_comment.ensures.refused)

pub returns-clause-set : goal.returns-clause-set
returns-clause-set c = commented_first c.in-Some.ensures c.in_ok-put_comment.ensures.put
