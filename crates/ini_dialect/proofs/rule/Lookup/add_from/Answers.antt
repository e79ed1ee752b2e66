use Rattle.std.proofs.Common.{arith, chars, map}
use Rattle.std.proofs.lemmas.List.{length-map}
use Rattle.std.proofs.lemmas.Result.{err_from_is_err_and}
use Rattle.ini.specs.Texts.{str_name, str_text}
use Rattle.ini_dialect.proofs.ListEditLemmas.{added_document, added_done, added_more, added_start}
use Rattle.ini_dialect.proofs.ListEditLemmas.{adding_refused, value_next}
use Rattle.ini_dialect.proofs.rule.Lookup.add_from.Goals as goal

pub loop-index-init : goal.loop-index-init
loop-index-init c =
    added_start c.args.self (str_name c.args.name) (chars c.args.key.now) c.args.write.now
    (map str_text c.args.values.now) c.args.first c.args.source.now

pub loop-index-preserved : goal.loop-index-preserved
loop-index-preserved c =
    added_more c.args.self (str_name c.args.name) (chars c.args.key.now) c.args.write.now
    (map str_text c.args.values.now) c.args.first c.loop-index.invariant _
    (value_next str_text c.args.values.now c.loop-index.index _ c.loop-index-test.true)
    c.in_ok-add_in_source.ensures.added

pub returns-in_err-add_in_source-clause-refused : goal.returns-in_err-add_in_source-clause-refused
returns-in_err-add_in_source-clause-refused c =
    let p = err_from_is_err_and c.from_residual.result c.from_residual.ensures.1 in
    rw (p.1, p.2)
    (adding_refused c.args.self (str_name c.args.name) (chars c.args.key.now) c.args.write.now
    (map str_text c.args.values.now) c.args.first c.loop-index.invariant _
    (value_next str_text c.args.values.now c.loop-index.index _ c.loop-index-test.true)
    c.in_err-add_in_source.ensures.refused)

pub returns-clause-added : goal.returns-clause-added
returns-clause-added c =
    added_done c.args.self (str_name c.args.name) (chars c.args.key.now) c.args.write.now
    (map str_text c.args.values.now) c.args.first c.loop-index.invariant
    (omega (arith, length-map c.args.values.now str_text, c.loop-index-test.false))

pub returns-clause-document : goal.returns-clause-document
returns-clause-document c =
    added_document c.args.self (str_name c.args.name) (chars c.args.key.now) c.args.write.now
    (map str_text c.args.values.now) c.args.first c.loop-index.invariant
    (omega (arith, length-map c.args.values.now str_text, c.loop-index-test.false))
