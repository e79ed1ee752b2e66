use Rattle.std.proofs.Common.{arith}
use Rattle.ini_text.proofs.StringLemmas.LaneLemmas.{placed}
use Rattle.ini_text.proofs.write.buffer.marked.place_half.Goals as goal

pub returns-clause-placed : goal.returns-clause-placed
returns-clause-placed c =
    λ n few. placed c.args.len n c.args.bytes.now c.args.half (omega arith) (omega arith)
