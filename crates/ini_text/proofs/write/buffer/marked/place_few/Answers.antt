use Rattle.std.proofs.Common.{◌-◌, arith, length}
use Rattle.ini_text.proofs.WriteLemmas.BufferLemmas.{placed_few}
use Rattle.ini_text.proofs.write.buffer.marked.place_few.Goals as goal

pub returns : goal.returns
returns c =
    let back = length c.args.few.now - 8 in
    placed_few c.args.len back c.args.bytes.now c.args.few.now c.place_half.new.bytes
    c.place_half-2.new.bytes (omega arith) (omega arith)
    (c.place_half.ensures.placed back (omega arith)) (c.place_half-2.ensures.placed 8 (omega arith))
