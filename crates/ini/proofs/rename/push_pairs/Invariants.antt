use Rattle.std.proofs.Common.{◌≡◌, ◌++◌}
use Rattle.ini.proofs.rename.push_pairs.Given as goal

abbrev pub invariant-loop-key : goal.invariant-loop-key
invariant-loop-key l = l.copy ++ l.key-iterator ≡ l.fn.copy ++ l.fn.pairs
