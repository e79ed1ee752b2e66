use Rattle.std.proofs.lemmas.Result.{err_from_is_err_and}
use Rattle.ini_text.proofs.WriteLemmas.SendLemmas.{SendsBytes-cut, SendsBytes-direct, SendsBytes-then}
use Rattle.ini_text.proofs.write.gather.Gatherer.write_large.Goals as goal

pub returns-in_err-flush : goal.returns-in_err-flush
returns-in_err-flush g c =
    let p = err_from_is_err_and c.from_residual.result c.from_residual.ensures.1 in
    rw (p.1, p.2) (SendsBytes-cut _ c.in_err-flush.ensures.sends.bytes)

pub returns : goal.returns
returns g c =
    SendsBytes-then c.requires c.in_ok-flush.ensures.sends.bytes
    (SendsBytes-direct c.in_ok-flush.ensures.empty c.write_bytes.ensures.written)
