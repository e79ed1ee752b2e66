use Rattle.std.proofs.Common.{◌∙◌, ◌∷◌, ◌++◌, [], ap, sym}
use Rattle.ini_check.specs.Warnings.{warned_of}
use Rattle.ini_check.proofs.note.warn_character.Goals as goal

pub returns-clause-warned : goal.returns-clause-warned
returns-clause-warned c b at =
    c.in_ok-push.ensures.warned b (c.args.c ∷ []) at (c.after.ensures.at b at)
    ∙ ap (λ t. c.args.warnings.now.items ++ warned_of b (c.args.c ∷ []) t) (sym c.in-Some.is)
