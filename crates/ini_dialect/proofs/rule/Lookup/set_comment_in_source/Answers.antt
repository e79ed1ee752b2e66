use Rattle.std.proofs.Common.{chars}
use Rattle.std.proofs.lemmas.Result.{IfErr-weaker, IfOk-weaker}
use Rattle.ini.specs.Texts.{str_name}
use Rattle.ini_dialect.specs.CommentEdits.{RefusesCommentUnder}
use Rattle.ini_dialect.proofs.CommentEditLemmas.{sets_comment}
use Rattle.ini_dialect.proofs.rule.Lookup.set_comment_in_source.Goals as goal

pub returns-clause-set : goal.returns-clause-set
returns-clause-set c =
    IfOk-weaker c.set_comment_at.result _ _
    (λ found set. sets_comment c.args.self (str_name c.args.name) (chars c.args.key.now) c.args.write.now
    c.args.source.now c.set_comment_at.new.self (chars c.args.comment.now) {at = c.in-Some.at} found
    c.in-Some.ensures.found set)
    c.set_comment_at.ensures.set

pub returns-clause-refused : goal.returns-clause-refused
returns-clause-refused c =
    IfErr-weaker c.set_comment_at.result _ _
    (λ e refused. RefusesCommentUnder.above_it c.in-Some.ensures.found refused)
    c.set_comment_at.ensures.refused
