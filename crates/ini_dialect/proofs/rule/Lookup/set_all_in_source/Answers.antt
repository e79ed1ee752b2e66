use Rattle.std.proofs.lemmas.Result.{err_from_is_err_and}
use Rattle.ini_dialect.specs.ListEdits.{RefusesToSetAll}
use Rattle.ini_dialect.proofs.rule.Lookup.set_all_in_source.Goals as goal

pub returns-in_err-edited-clause-refused : goal.returns-in_err-edited-clause-refused
returns-in_err-edited-clause-refused c =
    let p = err_from_is_err_and c.from_residual.result c.from_residual.ensures.1 in
    rw (p.1, p.2, c.in_err-edited.ensures.only) (RefusesToSetAll.no_memory tt)
