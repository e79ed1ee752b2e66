use Rattle.std.proofs.Common.{◌∙◌, chars}
use Rattle.std.proofs.lemmas.Result.{err_from_is_err_and}
use Rattle.ini.specs.Texts.{str_name}
use Rattle.ini_dialect.specs.SourceLookups.{IsPutUnder, RefusesToPutUnder}
use Rattle.ini_dialect.proofs.PutUnderLemmas.{new_document, puts_new, refuses_new}
use Rattle.ini_dialect.proofs.rule.Lookup.set_in_source.Goals as goal

pub returns-in_err-set_existing_in_source-clause-refused
    : goal.returns-in_err-set_existing_in_source-clause-refused
returns-in_err-set_existing_in_source-clause-refused c =
    let p = err_from_is_err_and c.from_residual.result c.from_residual.ensures.1 in
    rw (p.1, p.2) (RefusesToPutUnder.in_place c.in_err-set_existing_in_source.ensures.refused)

pub returns-then-branch-clause-set : goal.returns-then-branch-clause-set
returns-then-branch-clause-set c =
    IsPutUnder.in_place (rw c.if-branch.true at c.in_ok-set_existing_in_source.ensures.set)

pub returns-then-branch-clause-document : goal.returns-then-branch-clause-document
returns-then-branch-clause-document c =
    (rw c.if-branch.true at c.in_ok-set_existing_in_source.ensures.set).document

pub returns-clause-set : goal.returns-clause-set
returns-clause-set c =
    let was = rw c.if-branch.false at c.in_ok-set_existing_in_source.ensures.set in
    puts_new c.args.self (str_name c.args.name) (chars c.args.key.now) c.args.write.now
    (chars c.args.value.now) c.args.source.now c.set_existing_in_source.new.source was
    c.in_ok-add_in_source.ensures.added

pub returns-clause-document : goal.returns-clause-document
returns-clause-document c =
    let was = rw c.if-branch.false at c.in_ok-set_existing_in_source.ensures.set in
    new_document c.args.self (str_name c.args.name) (chars c.args.key.now) c.args.write.now
    (chars c.args.value.now) c.args.source.now c.set_existing_in_source.new.source was
    c.in_ok-add_in_source.ensures.added

pub returns-in_err-add_in_source-clause-refused : goal.returns-in_err-add_in_source-clause-refused
returns-in_err-add_in_source-clause-refused c =
    let was = rw c.if-branch.false at c.in_ok-set_existing_in_source.ensures.set in
    let r = c.from_residual-in_err-add_in_source in
    let p = err_from_is_err_and r.result r.ensures.1 in
    rw (p.1, p.2)
    (refuses_new c.args.self (str_name c.args.name) (chars c.args.key.now) c.args.write.now
    (chars c.args.value.now) c.args.source.now c.set_existing_in_source.new.source was
    c.in_err-add_in_source.ensures.refused)

pub returns-in_err-add_in_source-clause-unchanged : goal.returns-in_err-add_in_source-clause-unchanged
returns-in_err-add_in_source-clause-unchanged c =
    let was = rw c.if-branch.false at c.in_ok-set_existing_in_source.ensures.set in
    let r = c.from_residual-in_err-add_in_source in
    let p = err_from_is_err_and r.result r.ensures.1 in
    rw p.1 (c.in_err-add_in_source.ensures.unchanged ∙ was.0)
