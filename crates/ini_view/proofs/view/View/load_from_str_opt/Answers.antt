use Rattle.std.proofs.Common.{◌∷◌, [], None, Ok, ap, arith, chars, refl, subst, sym}
use Rattle.std.proofs.lemmas.Result.{err_from_is_err_and}
use Rattle.ini.proofs.ReadingLemmas.{IsStopOf-first, Loaded, Loaded-starts}
use Rattle.ini_view.proofs.ReadLemmas.{ends, goes_on, one_more, stops}
use Rattle.ini_view.proofs.LoadLemmas.{general, is_document}
use Rattle.ini_view.proofs.view.View.load_from_str_opt.Goals as goal

pub items-init : goal.items-init
items-init c =
    let new = c.new-parser.ensures in
    subst (Loaded c.args.opt (chars c.args.text.now) [] c.new-parser.result ((None, []) ∷ []))
    (sym c.new-loading.ensures)
    (Loaded-starts (chars c.args.text.now) refl
    (record { option = new.option; text = new.text; refusal = new.refusal }) new.front (omega arith))

pub items-preserved : goal.items-preserved
items-preserved c =
    let next = c.in_ok-item.ensures in
    let reading = c.items.invariant.reading in
    let is = ap Ok c.in-Some.is in
    let on =
    goes_on reading c.next_borrowed.new.self _ next.item next.option next.text
    next.refusal is in
    one_more reading c.next_borrowed.new.self _ next.item c.items.invariant on is
    c.in_ok-push_item.ensures.pushed

pub returns-in_err-item-clause-fault : goal.returns-in_err-item-clause-fault
returns-in_err-item-clause-fault c =
    let p = err_from_is_err_and c.from_residual.result c.from_residual.ensures.1 in
    rw (p.1, p.2)
    (IsStopOf-first c.args.opt (chars c.args.text.now) _ refl
    (stops c.items.invariant.reading c.next_borrowed.new.self _
    c.in_err-item.ensures.item c.items.invariant refl))

pub returns-clause-document : goal.returns-clause-document
returns-clause-document c =
    is_document c.finish.result
    (ends c.items.invariant.reading c.next_borrowed.new.self _
    c.in_ok-item.ensures.item c.items.invariant (ap Ok c.in_default.is)) c.finish.ensures.same

pub returns-clause-general : goal.returns-clause-general
returns-clause-general c =
    general c.finish.result
    (ends c.items.invariant.reading c.next_borrowed.new.self _
    c.in_ok-item.ensures.item c.items.invariant (ap Ok c.in_default.is)) c.finish.ensures.same
