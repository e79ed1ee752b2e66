use Rattle.std.proofs.Common.{◌∙◌, ◌++◌, ap, chars}
use Rattle.ini_edit.proofs.CharsLemmas.{chars-semicolon}
use Rattle.ini_edit.proofs.source.pair.ends.after_empty_comment.Goals as goal

pub returns-clause-text : goal.returns-clause-text
returns-clause-text c =
    c.in_ok-push_text-2.ensures.pushed
    ∙ ap (λ t. t ++ chars c.args.gap.now) (c.in_ok-push_text.ensures.pushed
    ∙ ap (λ t. t ++ chars c.args.line_end.now) (ap chars c.in_ok-text.ensures.ok ∙ chars-semicolon))
