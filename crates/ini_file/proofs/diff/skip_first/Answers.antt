use Rattle.std.proofs.Common.{arith}
use Rattle.ini_file.proofs.ShareLemmas.{ShareFirst-more, same_line}
use Rattle.ini_file.proofs.diff.skip_first.Goals as goal

pub lines-preserved : goal.lines-preserved
lines-preserved c =
    let same = same_line c.in-Some-Some.one.now c.in-Some-Some.other.now _ c.ne.ensures c.if-ne.false in
    let one = c.in-Some-Some.ensures in
    let other = c.in-Some-Some.ensures' in
    (ShareFirst-more c.lines.invariant.0 one other same, omega (arith, one.shorter, c.lines.invariant.1))
