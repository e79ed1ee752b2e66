use Rattle.std.proofs.Common.{Err, arith, get_or, map}
use Rattle.std.proofs.lemmas.List.{drop_more, length-map}
use Rattle.std.proofs.lemmas.Result.{err_from_is_err_and}
use Rattle.ini.specs.Texts.{str_text}
use Rattle.ini_dialect.specs.declared.source.PairNumber.{PairNumber}
use Rattle.ini_dialect.proofs.ListEditLemmas.{put_done_numbers, put_done_values, set_done_numbers}
use Rattle.ini_dialect.proofs.ListEditLemmas.{set_done_values, set_more, value_next, value_refused}
use Rattle.ini_dialect.proofs.PutUnderLemmas.{refuses_so}
use Rattle.ini_dialect.proofs.list_edit.set_values.Goals as goal

pub loop-index-preserved : goal.loop-index-preserved
loop-index-preserved c =
    let d : PairNumber = record { section = 0; pair = 0 } in
    set_more c.args.policy c.args.numbers.now (map str_text c.args.values.now) c.loop-index.invariant
    (get_or c.args.numbers.now c.loop-index.index d) _ c.in_ok-set_at.field-0
    (drop_more c.args.numbers.now c.loop-index.index d (omega (arith, c.if-numbers-index.false)))
    (value_next str_text c.args.values.now c.loop-index.index _ c.loop-index-test.true)
    c.in_ok-set_at.ensures.set

pub returns-in_err-set_at-clause-refused : goal.returns-in_err-set_at-clause-refused
returns-in_err-set_at-clause-refused c =
    let p = err_from_is_err_and c.from_residual.result c.from_residual.ensures.1 in
    let e = c.in_err-set_at in
    let refused = refuses_so c.loop-index.source.option c.args.policy _ (Err _) e.ensures.value
    e.ensures.only in
    rw (p.1, p.2)
    (value_refused str_text c.args.values.now c.loop-index.index _ c.loop-index-test.true
    (rw c.loop-index.invariant.option at refused))

pub returns-clause-set : goal.returns-clause-set
returns-clause-set c =
    set_done_values c.args.policy c.args.numbers.now (map str_text c.args.values.now) c.loop-index.invariant
    (omega (arith, length-map c.args.values.now str_text, c.loop-index-test.false))

pub returns-clause-document : goal.returns-clause-document
returns-clause-document c =
    put_done_values c.args.policy c.args.numbers.now (map str_text c.args.values.now) c.loop-index.invariant
    (omega (arith, length-map c.args.values.now str_text, c.loop-index-test.false))

pub returns-then-numbers-index-clause-set : goal.returns-then-numbers-index-clause-set
returns-then-numbers-index-clause-set c =
    set_done_numbers c.args.policy c.args.numbers.now (map str_text c.args.values.now) c.loop-index.invariant
    (omega (arith, c.if-numbers-index.true))

pub returns-then-numbers-index-clause-document : goal.returns-then-numbers-index-clause-document
returns-then-numbers-index-clause-document c =
    put_done_numbers c.args.policy c.args.numbers.now (map str_text c.args.values.now) c.loop-index.invariant
    (omega (arith, c.if-numbers-index.true))
