use Rattle.std.proofs.Common.{[]}
use Rattle.std.proofs.KnownBytes.{Consumes-all}
use Rattle.ini_tool.proofs.reading.read_all.Goals as goal

pub returns-clause-bytes : goal.returns-clause-bytes
returns-clause-bytes g c =
    let done = c.in_ok-read_after.ensures in
    Consumes-all _ _ _ [] _ done.read.consumed done.end (rw c.new-bytes.ensures.items at done.read.bytes)
