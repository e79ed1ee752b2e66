use Rattle.std.proofs.Common.{arith, refl}
use Rattle.ini_dialect.specs.declared.source.PairNumber.{PairNumber}
use Rattle.ini_dialect.proofs.ListEditLemmas.{out_document, out_done, out_more, out_start}
use Rattle.ini_dialect.proofs.list_edit.take_out_from.Goals as goal

pub numbers-init : goal.numbers-init
numbers-init c = out_start c.args.numbers.now c.args.first c.args.source.now _ refl

pub numbers-preserved : goal.numbers-preserved
numbers-preserved c =
    let more = c.numbers-test.true in
    out_more c.args.numbers.now c.args.first c.numbers.invariant (record { section = 0; pair = 0 }) _
    c.in_ok-delete_at.field-0 more (omega (arith, more)) c.in_ok-delete_at.ensures.found
    c.in_ok-delete_at.ensures.deleted c.in_ok-delete_at.ensures.document

pub returns-clause-out : goal.returns-clause-out
returns-clause-out c =
    out_done c.args.numbers.now c.args.first c.numbers.invariant c.numbers-test.false

pub returns-clause-document : goal.returns-clause-document
returns-clause-document c =
    out_document c.args.numbers.now c.args.first c.numbers.invariant c.numbers-test.false
