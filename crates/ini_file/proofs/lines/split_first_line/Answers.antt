use Rattle.std.proofs.Common.{◌<◌, arith, length}
use Rattle.std.proofs.lemmas.Bool.Decides.{nat_tests}
use Rattle.ini_file.proofs.SplitLemmas.{IsFirstLine-at, IsFirstLine-whole}
use Rattle.ini_file.proofs.lines.split_first_line.Goals as goal

pub returns-then-byte-eq-LINE_FEED : goal.returns-then-byte-eq-LINE_FEED
returns-then-byte-eq-LINE_FEED c =
    IsFirstLine-at _ _ _ c.loop-at.at c.loop-at-test.true c.if-byte-eq-LINE_FEED.true c.loop-at.invariant
    c.split_at.ensures.front c.split_at.ensures.back

pub returns : goal.returns
returns c =
    let some : 0 < length c.args.bytes.now = grind (arith, nat_tests) in
    IsFirstLine-whole _ _ _ c.loop-at.at some c.loop-at-test.false c.loop-at.invariant
    c.split_at-2.ensures.front c.split_at-2.ensures.back
