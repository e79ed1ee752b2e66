use Rattle.ini_dialect.proofs.ListEditLemmas.{OutSoFar}
use Rattle.ini_dialect.proofs.list_edit.take_out_from.Given as goal

abbrev pub invariant-numbers : goal.invariant-numbers
invariant-numbers l = OutSoFar l.fn.numbers l.first l.fn.source l.source l.left

-- so many are left
abbrev pub decreases-numbers : goal.decreases-numbers
decreases-numbers l = l.left
