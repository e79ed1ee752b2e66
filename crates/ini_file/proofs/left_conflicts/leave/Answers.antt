use Rattle.std.proofs.lemmas.Result.{err_from_is_err_and}
use Rattle.ini_layers.specs.Merging.{setting_conflict}
use Rattle.ini_file.specs.LeftConflicts.{RefusesToLeave}
use Rattle.ini_file.proofs.LeftLemmas.{all_left, ours_refused, theirs_refused}
use Rattle.ini_file.proofs.left_conflicts.leave.Goals as goal

pub returns-clause-left : goal.returns-clause-left
returns-clause-left c =
    all_left c.args.which c.args.rule c.args.write.now (setting_conflict c.args.conflict) c.args.source.now
    c.make_ours.new.source c.put_above.new.source c.put_above-2.new.source c.in_ok-make_ours.ensures.made
    c.in_ok-put_above.ensures.put c.in_ok-put_above-2.ensures.put

pub returns-in_err-make_ours-clause-refused : goal.returns-in_err-make_ours-clause-refused
returns-in_err-make_ours-clause-refused c =
    let e = err_from_is_err_and c.from_residual.result c.from_residual.ensures.1 in
    rw (e.1, e.2) (RefusesToLeave.value c.in_err-make_ours.ensures.refused)

pub returns-in_err-put_above-clause-refused : goal.returns-in_err-put_above-clause-refused
returns-in_err-put_above-clause-refused c =
    let r = c.from_residual-in_err-put_above in
    let e = err_from_is_err_and r.result r.ensures.1 in
    rw (e.1, e.2) (ours_refused c.args.which c.args.rule c.args.write.now (setting_conflict c.args.conflict)
    c.args.source.now
    c.make_ours.new.source c.in_ok-make_ours.ensures.made c.in_err-put_above.ensures.refused)

pub returns-in_err-put_above-2-clause-refused : goal.returns-in_err-put_above-2-clause-refused
returns-in_err-put_above-2-clause-refused c =
    let r = c.from_residual-in_err-put_above-2 in
    let e = err_from_is_err_and r.result r.ensures.1 in
    rw (e.1, e.2) (theirs_refused c.args.which c.args.rule c.args.write.now (setting_conflict c.args.conflict)
    c.args.source.now
    c.make_ours.new.source c.put_above.new.source c.in_ok-make_ours.ensures.made
    c.in_ok-put_above.ensures.put c.in_err-put_above-2.ensures.refused)
