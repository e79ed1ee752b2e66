use Rattle.std.proofs.Common.{◌≡◌, ◌++◌, flat_map}
use Rattle.ini_edit.specs.SourceElements.{elements_in}
use Rattle.ini_file.specs.Origins.{origin}
use Rattle.ini_file.proofs.origins.origins_of.Given as goal

-- what is written, and what is left to be
abbrev pub invariant-loop-element : goal.invariant-loop-element
invariant-loop-element l = l.lines.items ++ flat_map (origin l.null l.file) l.element-iterator
    ≡ flat_map (origin l.null l.file) (elements_in l.source)
