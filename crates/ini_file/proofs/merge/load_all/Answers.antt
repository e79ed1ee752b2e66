use Rattle.std.proofs.Common.{subst}
use Rattle.ini_file.specs.Merges.{AreLoaded, Loads, RefusesFile}
use Rattle.ini_file.proofs.MergeLemmas.{one_more_loaded, one_refused}
use Rattle.ini_file.proofs.merge.load_all.Goals as goal

pub loop-index-init : goal.loop-index-init
loop-index-init c = rw c.new-documents.ensures AreLoaded.none

pub loop-index-preserved : goal.loop-index-preserved
loop-index-preserved c =
    let l = c.in_default.ensures.loaded in
    one_more_loaded c.args.read c.args.files.now c.loop-index.index c.index-files-index.result
    c.loop-index-test.true c.index-files-index.is c.loop-index.invariant l.0
    (subst (λ bytes. Loads c.args.read bytes l.0) c.as_slice.ensures.value l.1) l.2

pub returns-in-Err-clause-refused : goal.returns-in-Err-clause-refused
returns-in-Err-clause-refused c =
    one_refused c.args.read c.args.files.now c.loop-index.index c.index-files-index.result
    c.loop-index-test.true c.index-files-index.is c.loop-index.invariant c.in-Err.refusal
    (subst (λ bytes. RefusesFile c.args.read bytes c.in-Err.refusal) c.as_slice.ensures.value
    c.in-Err.ensures.refused)
