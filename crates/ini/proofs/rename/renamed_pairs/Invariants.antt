use Rattle.std.proofs.Common.{◌≡◌, ◌++◌, chars, length}
use Rattle.ini.specs.Edits.{key_renamed}
use Rattle.ini.proofs.rename.renamed_pairs.Given as goal

-- with what is left it is the whole
abbrev pub invariant-pairs : goal.invariant-pairs
invariant-pairs l = l.copy ++ key_renamed (chars l.key) (chars l.other) l.left
    ≡ key_renamed (chars l.key) (chars l.other) l.pairs

abbrev pub decreases-pairs : goal.decreases-pairs
decreases-pairs l = length l.left
