use Rattle.std.proofs.lemmas.Result.{err_from_is_err_and}
use Rattle.ini_text.proofs.WriteLemmas.SendLemmas.{Sends-flushed, Sends-refused}
use Rattle.ini_words.proofs.lines.write_entry.Goals as goal

pub returns-in_err-put_entry : goal.returns-in_err-put_entry
returns-in_err-put_entry g c =
    let p = err_from_is_err_and c.from_residual.result c.from_residual.ensures.1 in
    rw (p.1, p.2) (Sends-refused c.new-lines.ensures c.in_err-put_entry.ensures)

pub returns : goal.returns
returns g c =
    Sends-flushed c.requires c.new-lines.ensures
    c.in_ok-put_entry.ensures c.flush.ensures.sends c.flush.ensures.empty
