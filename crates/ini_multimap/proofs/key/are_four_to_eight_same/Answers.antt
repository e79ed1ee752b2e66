use Rattle.std.proofs.Common.{◌*◌, ◌≤◌, length, arith}
use Rattle.std.proofs.lemmas.Bool.Decides.{same_from_decides}
use Rattle.std.proofs.lemmas.Slice.Eq.{bytes_eq-Decides}
use Rattle.ini_multimap.proofs.SameLemmas.{ends_decide}
use Rattle.ini_multimap.proofs.key.are_four_to_eight_same.Goals as goal

pub returns : goal.returns
returns c =
    let one = c.args.one.now in
    let other = c.args.other.now in
    let few : length one ≤ 2 * 4 = omega (arith, c.requires.eight) in
    same_from_decides _ _ (ends_decide 4 one other c.requires.long c.requires.four few (omega arith))
    (bytes_eq-Decides one other)
