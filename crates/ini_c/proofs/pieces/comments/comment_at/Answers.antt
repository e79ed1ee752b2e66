use Rattle.std.proofs.Common.{rules, chars}
use Rattle.ini_c.specs.LookUps.{name_if}
use Rattle.ini_c.specs.Texts.{comments_in}
use Rattle.ini_c.proofs.LookUpLemmas.{utf8_found}
use Rattle.ini_c.proofs.pieces.comments.comment_at.Goals as goal

pub returns-in-Some-comment_of-clause-bytes : goal.returns-in-Some-comment_of-clause-bytes
returns-in-Some-comment_of-clause-bytes c =
    utf8_found (comments_in (name_if c.args.named c.args.section.now)
    (chars c.args.key.now) c.args.source.now)
    c.in-Some-comment_of.comment.now (search rules) (search rules)
