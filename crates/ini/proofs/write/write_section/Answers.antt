use Rattle.std.proofs.lemmas.Result.{err_from_is_err_and}
use Rattle.ini_text.proofs.WriteLemmas.SendLemmas.{Sends-cut, Sends-then}
use Rattle.ini.proofs.write.write_section.Goals as goal

pub returns-in_err-write_gap : goal.returns-in_err-write_gap
returns-in_err-write_gap g c =
    let p = err_from_is_err_and c.from_residual.result c.from_residual.ensures.1 in
    rw (p.1, p.2) (Sends-cut _ (Sends-cut _ c.in_err-write_gap.ensures))

pub returns-in_err-write_name : goal.returns-in_err-write_name
returns-in_err-write_name g c =
    let p =
    err_from_is_err_and c.from_residual-in_err-write_name.result
    c.from_residual-in_err-write_name.ensures.1 in
    rw (p.1, p.2)
    (Sends-cut _ (Sends-then c.requires c.in_ok-write_gap.ensures c.in_err-write_name.ensures))

pub returns : goal.returns
returns g c =
    Sends-then c.requires (Sends-then c.requires c.in_ok-write_gap.ensures c.in_ok-write_name.ensures)
    c.write_pairs.ensures
