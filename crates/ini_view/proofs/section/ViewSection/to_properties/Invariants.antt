use Rattle.std.proofs.Common.{◌≡◌, ◌++◌}
use Rattle.ini_view.proofs.section.ViewSection.to_properties.Given as goal

abbrev pub invariant-loop-key : goal.invariant-loop-key
invariant-loop-key l = l.pairs ++ l.key-iterator ≡ l.fn.self
