use Rattle.std.proofs.Common.{◌≡◌, ◌++◌, drop, map}
use Rattle.ini_edit.specs.Sources.{given_pair}
use Rattle.ini_layers.proofs.documents.push_section.Given as goal

-- with what is left it is the whole
abbrev pub invariant-loop-pair : goal.invariant-loop-pair
invariant-loop-pair l =
    l.pairs ++ map given_pair (drop l.pair-index l.pair-items) ≡ map given_pair l.section.pairs
