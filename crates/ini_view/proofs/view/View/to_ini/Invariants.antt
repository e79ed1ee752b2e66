use Rattle.std.proofs.Common.{◌≡◌, ◌++◌}
use Rattle.ini_view.proofs.view.View.to_ini.Given as goal

abbrev pub invariant-loop-name : goal.invariant-loop-name
invariant-loop-name l = l.document ++ l.name-iterator ≡ l.fn.self
