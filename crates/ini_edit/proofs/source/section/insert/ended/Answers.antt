use Rattle.std.proofs.Common.{◌∙◌, ◌++◌, ap, chars}
use Rattle.ini_edit.proofs.source.section.insert.ended.Goals as goal

pub returns-clause-text : goal.returns-clause-text
returns-clause-text c =
    c.in_ok-push_text.ensures.pushed
    ∙ ap (λ t. t ++ chars c.args.lines.now)
    (ap chars c.in_ok-text.ensures.ok)
