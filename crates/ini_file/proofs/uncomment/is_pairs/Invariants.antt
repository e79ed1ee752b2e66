use Rattle.std.proofs.Common.{◌≡◌, drop, map}
use Rattle.ini.specs.Equality.{is_pairs}
use Rattle.ini_edit.specs.Sources.{given_pair}
use Rattle.ini_file.proofs.uncomment.is_pairs.Given as goal

abbrev pub invariant-loop-i : goal.invariant-loop-i
invariant-loop-i l =
    is_pairs (map given_pair (drop l.i l.pairs)) (map given_pair (drop l.i l.fn.others))
    ≡ is_pairs (map given_pair l.pairs) (map given_pair l.fn.others)
