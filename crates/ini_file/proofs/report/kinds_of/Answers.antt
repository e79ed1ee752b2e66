use Rattle.std.proofs.Common.{append_assoc}
use Rattle.ini_file.proofs.report.kinds_of.Goals as goal

pub returns : goal.returns
returns c =
    let h0 = rw c.name-kind.ensures at c.in_ok-format.ensures.ok in
    let h1 = rw c.message-words.ensures at h0 in
    let h2 = rw c.name-level.ensures at h1 in
    let h3 = rw c.level.ensures at h2 in
    simp append_assoc h3
