use Rattle.std.proofs.Common.{chars}
use Rattle.std.proofs.lemmas.Result.{IfErr-weaker, IfOk-weaker}
use Rattle.ini.specs.Texts.{str_name}
use Rattle.ini_dialect.specs.KeyEdits.{RefusesToCommentOutUnder}
use Rattle.ini_dialect.proofs.KeyEditLemmas.{comments_there}
use Rattle.ini_dialect.proofs.rule.Lookup.comment_out_in_source.Goals as goal

pub returns-clause-commented : goal.returns-clause-commented
returns-clause-commented c =
    IfOk-weaker c.comment_out_at.result _ _
    (λ found commented. comments_there c.args.self (str_name c.args.name) (chars c.args.key.now)
    c.args.source.now c.comment_out_at.new.self {at = c.in-Some.at} found c.in-Some.ensures.found commented)
    c.comment_out_at.ensures.commented

pub returns-clause-refused : goal.returns-clause-refused
returns-clause-refused c =
    IfErr-weaker c.comment_out_at.result _ _
    (λ e refused. RefusesToCommentOutUnder.there c.in-Some.ensures.found refused)
    c.comment_out_at.ensures.refused
