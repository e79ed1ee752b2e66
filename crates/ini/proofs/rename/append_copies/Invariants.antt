use Rattle.std.proofs.Common.{◌≡◌, ◌++◌}
use Rattle.ini.proofs.rename.append_copies.Given as goal

abbrev pub invariant-loop-name : goal.invariant-loop-name
invariant-loop-name l = l.copy ++ l.name-iterator ≡ l.fn.copy ++ l.fn.sections
