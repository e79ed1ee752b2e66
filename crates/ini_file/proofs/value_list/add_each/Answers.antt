use Rattle.std.proofs.Common.{chars, subst}
use Rattle.std.proofs.lemmas.Result.{err_from_is_err_and}
use Rattle.ini.specs.Texts.{str_name}
use Rattle.ini_dialect.specs.SourceLookups.{IsAddedUnder, RefusesUnder}
use Rattle.ini_file.specs.ValueLists.{AreAddedUnder}
use Rattle.ini_file.proofs.ValueListLemmas.{one_more_added, one_not_added}
use Rattle.ini_file.proofs.value_list.add_each.Goals as goal

pub loop-value-init : goal.loop-value-init
loop-value-init c = AreAddedUnder.none_added

pub loop-value-preserved : goal.loop-value-preserved
loop-value-preserved c =
    let rule = c.args.rule in
    let w = c.args.write.now in
    let name = str_name c.args.name in
    let key = chars c.args.key.now in
    one_more_added rule w name key c.args.values.now c.loop-value.value-index c.value-item.result
    c.loop-value-test.true c.value-item.is c.loop-value.invariant
    (subst (λ t. IsAddedUnder rule name key c.loop-value.source.option w c.loop-value.source
    c.add_in_source.new.source (chars t)) c.as_str.ensures.value c.in_ok-add_in_source.ensures.added)

pub returns-in_err-add_in_source-clause-refused : goal.returns-in_err-add_in_source-clause-refused
returns-in_err-add_in_source-clause-refused c =
    let p = err_from_is_err_and c.from_residual.result c.from_residual.ensures.1 in
    let e = c.in_err-add_in_source.field-0.0 in
    rw (p.1, p.2)
    (one_not_added c.args.rule c.args.write.now (str_name c.args.name) (chars c.args.key.now)
    c.args.values.now c.loop-value.value-index c.value-item.result c.loop-value-test.true c.value-item.is
    c.loop-value.invariant e
    (subst (λ t. RefusesUnder c.args.rule (str_name c.args.name) (chars c.args.key.now)
    c.loop-value.source.option c.args.write.now c.loop-value.source (chars t) e) c.as_str.ensures.value
    c.in_err-add_in_source.ensures.refused))
