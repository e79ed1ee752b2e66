use Rattle.std.proofs.lemmas.Result.{err_from_is_err_and}
use Rattle.ini_text.proofs.WriteLemmas.SendLemmas.{Sends-cut, Sends-then}
use Rattle.ini_words.proofs.lines.parts.put_part.Goals as goal

pub returns-in_err-put_text : goal.returns-in_err-put_text
returns-in_err-put_text g c =
    let p = err_from_is_err_and c.from_residual.result c.from_residual.ensures.1 in
    rw (p.1, p.2) (Sends-cut _ c.in_err-put_text.ensures)

pub returns : goal.returns
returns g c = Sends-then c.requires c.in_ok-put_text.ensures c.put.ensures
