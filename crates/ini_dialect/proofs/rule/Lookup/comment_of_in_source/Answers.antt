use Rattle.std.proofs.Common.{chars}
use Rattle.ini.specs.Texts.{str_name, str_text}
use Rattle.ini_dialect.proofs.CommentEditLemmas.{stands_somewhere}
use Rattle.ini_dialect.proofs.rule.Lookup.comment_of_in_source.Goals as goal

pub returns-clause-none : goal.returns-clause-none
returns-clause-none c =
    stands_somewhere c.args.self (str_name c.args.name) (chars c.args.key.now) str_text c.args.source.now
    c.in_ok-at.ensures.found _ c.comment_at.result c.comment_at.ensures
