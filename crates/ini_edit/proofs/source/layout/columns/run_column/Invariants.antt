use Rattle.std.proofs.Common.{◌≡◌, drop, max}
use Rattle.ini_edit.specs.Inside.SourceLayouts.{rules_of}
use Rattle.ini_edit.specs.SourceLayout.{run_column}
use Rattle.ini_edit.proofs.source.layout.columns.run_column.Given as goal

abbrev pub invariant-loop-pair : goal.invariant-loop-pair
invariant-loop-pair l =
    max l.column (run_column (rules_of l.fn.rules) (drop l.pair-index l.pairs))
    ≡ run_column (rules_of l.fn.rules) l.pairs
