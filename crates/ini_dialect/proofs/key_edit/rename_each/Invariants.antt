use Rattle.std.proofs.Common.{chars}
use Rattle.ini_dialect.proofs.KeyEditLemmas.{KeysSoFar}
use Rattle.ini_dialect.proofs.key_edit.rename_each.Given as goal

abbrev pub invariant-loop-at : goal.invariant-loop-at
invariant-loop-at l =
    KeysSoFar l.policy (chars l.key) l.numbers l.fn.source l.source l.at-index
