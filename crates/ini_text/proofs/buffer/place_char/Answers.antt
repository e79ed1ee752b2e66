use Rattle.std.proofs.Common.{arith, take}
use Rattle.ini_text.proofs.StringLemmas.BlockLemmas.{two_bytes}
use Rattle.ini_text.proofs.buffer.place_char.Goals as goal

pub returns-then-code-lt2048-clause-placed : goal.returns-then-code-lt2048-clause-placed
returns-then-code-lt2048-clause-placed c =
    two_bytes (take c.args.len c.args.bytes.now) _ _ c.args.c c.place-then-code-lt2048.ensures.placed
    (omega arith) (omega arith) (omega arith) (omega arith)
