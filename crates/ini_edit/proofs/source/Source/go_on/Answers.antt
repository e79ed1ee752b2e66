use Rattle.std.proofs.lemmas.Result.{err_from_is_err_and}
use Rattle.ini_edit.specs.Editings.{editing_of}
use Rattle.ini_edit.proofs.SourceListLemmas.{edit_memory}
use Rattle.ini_edit.proofs.source.Source.go_on.Goals as goal

pub returns-in_err-map_err-clause-refused : goal.returns-in_err-map_err-clause-refused
returns-in_err-map_err-clause-refused c =
    let r = c.from_residual-in_err-map_err in
    let p = err_from_is_err_and r.result r.ensures.1 in
    rw (p.1, p.2) (edit_memory c.args.write.now c.args.later (editing_of c.args.edit) c.args.self.now)
