use Rattle.std.proofs.Common.{◌∙◌, suc, take, drop}
use Rattle.std.proofs.lemmas.Result.{err_from_is_err_and}
use Rattle.ini.proofs.SplitLemmas.{split_at}
use Rattle.ini.proofs.edits.apply.Goals as goal

pub returns-in_err-make-clause-cut_short : goal.returns-in_err-make-clause-cut_short
returns-in_err-make-clause-cut_short c =
    let p = err_from_is_err_and c.from_residual.result c.from_residual.ensures.1 in
    rw (p.1) (record {
      made = take c.edits.edit-index c.args.edits.now;
      refused = c.edit-item.result;
      later = drop (suc c.edits.edit-index) c.args.edits.now;
      split =
          split_at c.args.edits.now c.edits.edit-index c.edit-item.result c.edits-test.true c.edit-item.is;
      grows = c.in_err-make.ensures.grows;
      document = c.in_err-make.ensures.unchanged ∙ c.edits.invariant;
    })
