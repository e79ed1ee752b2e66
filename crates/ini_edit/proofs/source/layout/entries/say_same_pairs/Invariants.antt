use Rattle.std.proofs.Common.{◌≡◌, drop}
use Rattle.ini_edit.specs.Inside.SourceLayouts.{all_same, says_same_pair}
use Rattle.ini_edit.proofs.source.layout.entries.say_same_pairs.Given as goal

abbrev pub invariant-loop-i : goal.invariant-loop-i
invariant-loop-i l =
    all_same says_same_pair (drop l.i l.pairs) (drop l.i l.fn.others)
    ≡ all_same says_same_pair l.pairs l.fn.others
