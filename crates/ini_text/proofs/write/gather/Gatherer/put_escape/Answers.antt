use Rattle.std.proofs.lemmas.Result.{err_from_is_err_and}
use Rattle.ini_text.proofs.WriteLemmas.SendLemmas.{SendsBytes-cut, SendsBytes-unsent}
use Rattle.ini_text.proofs.write.gather.Gatherer.put_escape.Goals as goal

pub returns-then-has_room : goal.returns-then-has_room
returns-then-has_room g c = SendsBytes-unsent c.requires c.push_escape.ensures

pub returns-in_err-flush : goal.returns-in_err-flush
returns-in_err-flush g c =
    let p = err_from_is_err_and c.from_residual.result c.from_residual.ensures.1 in
    rw (p.1, p.2) (SendsBytes-cut _ c.in_err-flush.ensures.sends.bytes)
