use Rattle.std.proofs.Common.{◌∙◌, ◌∷◌, ◌++◌, [], ap}
use Rattle.ini_check.proofs.NoteLemmas.{warning_at}
use Rattle.ini_check.proofs.note.push.Goals as goal

pub returns-clause-warned : goal.returns-clause-warned
returns-clause-warned c b s begins ends =
    c.in_ok-push.ensures.items
    ∙ ap (λ w. c.args.warnings.now.items ++ w ∷ [])
    (warning_at b s c.args.begins c.args.ends c.args.trap begins ends)
