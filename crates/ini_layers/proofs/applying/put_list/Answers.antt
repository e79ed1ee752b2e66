use Rattle.std.proofs.lemmas.Result.{err_from_is_err_and}
use Rattle.ini_dialect.specs.ListEdits.{RefusesToSetAll}
use Rattle.ini_layers.proofs.applying.put_list.Goals as goal

pub returns-in_err-values-clause-refused : goal.returns-in_err-values-clause-refused
returns-in_err-values-clause-refused c =
    let p = err_from_is_err_and c.from_residual.result c.from_residual.ensures.1 in
    rw (p.1, p.2) (RefusesToSetAll.no_memory tt)

pub returns-in_err-values-2-clause-refused : goal.returns-in_err-values-2-clause-refused
returns-in_err-values-2-clause-refused c =
    let r = c.from_residual-in_err-values-2 in
    let p = err_from_is_err_and r.result r.ensures.1 in
    rw (p.1, p.2) (RefusesToSetAll.no_memory tt)
