use Rattle.std.proofs.Common.{◌≡◌, ◌++◌}
use Rattle.ini_file.specs.LayerOrigins.{lines_with_places}
use Rattle.ini_file.proofs.layer_origins.lines_of.Given as goal

-- what is written, and what is left to be
abbrev pub invariant-loop-name : goal.invariant-loop-name
invariant-loop-name l = l.lines.items ++ lines_with_places l.rule l.null l.places l.name-iterator
    ≡ lines_with_places l.rule l.null l.places l.document
