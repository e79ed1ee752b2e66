use Rattle.std.proofs.Common.{append_assoc}
use Rattle.ini_file.proofs.report.fields_of.Goals as goal

pub returns : goal.returns
returns c =
    let h0 = rw c.name-kind.ensures at c.in_ok-format.ensures.ok in
    let h1 = rw c.message-words.ensures at h0 in
    simp append_assoc h1
