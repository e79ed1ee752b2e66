use Rattle.std.proofs.Common.{eq-eqb, refl}
use Rattle.std.proofs.lemmas.Bool.{ne_eqb}
use Rattle.ini_check.proofs.PositionLemmas.{line_at, other_at}
use Rattle.ini_check.proofs.position.Position.after.Goals as goal

pub returns-then-c-eq10-clause-at : goal.returns-then-c-eq10-clause-at
returns-then-c-eq10-clause-at c b at =
    line_at b c.args.c c.args.self _ (eq-eqb c.args.c 10 c.if-c-eq10.true) refl refl at

pub returns-else-c-eq10-clause-at : goal.returns-else-c-eq10-clause-at
returns-else-c-eq10-clause-at c b at =
    other_at b c.args.c c.args.self _ (ne_eqb c.args.c 10 c.if-c-eq10.false) refl refl at
