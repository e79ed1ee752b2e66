use Rattle.ini_file.proofs.ShareLemmas.{IsDiffBetween-hunk}
use Rattle.ini_file.proofs.diff.change.Goals as goal

pub returns-clause-diff : goal.returns-clause-diff
returns-clause-diff c =
    let first = c.skip_first-first.ensures in
    let last = c.skip_last.ensures in
    IsDiffBetween-hunk first.shared first.longest last.shared last.longest c.in_ok-diff.ensures.hunk
