use Rattle.std.proofs.Common.{append_assoc}
use Rattle.ini_file.proofs.report.line_of.Goals as goal

pub returns : goal.returns
returns c =
    let h0 = rw c.message-words.ensures at c.in_ok-format.ensures.ok in
    simp append_assoc h0
