use Rattle.std.proofs.lemmas.Result.{err_from_is_err_and}
use Rattle.ini_text.proofs.WriteLemmas.SendLemmas.{Sends-cut, Sends-then}
use Rattle.ini_edit.proofs.source.sending.put_both.Goals as goal

pub returns-in_err-put : goal.returns-in_err-put
returns-in_err-put g c =
    let p = err_from_is_err_and c.from_residual.result c.from_residual.ensures.1 in
    rw (p.1, p.2) (Sends-cut _ c.in_err-put.ensures)

pub returns : goal.returns
returns g c = Sends-then c.requires c.in_ok-put.ensures c.put-2.ensures
