use Rattle.std.proofs.Common.{ap, chars, refl, subst}
use Rattle.std.proofs.lemmas.Result.{err_from_is_err_and}
use Rattle.ini_edit.specs.LaidOut.{RefusesLayout}
use Rattle.ini_edit.specs.WholeTexts.{IsRefusalOf}
use Rattle.ini_file.specs.Formats.{IsInOrder}
use Rattle.ini_file.proofs.FormatLemmas.{laid_as, layout_refused, sorted_as, sorting_refused, told}
use Rattle.ini_file.proofs.format.in_order.Goals as goal

pub returns-in_default-clause-made : goal.returns-in_default-clause-made
returns-in_default-clause-made c = rw c.in_default.is (IsInOrder.laid c.in_ok-laid.ensures.laid)

pub returns-in-Some-loss-clause-made : goal.returns-in-Some-loss-clause-made
returns-in-Some-loss-clause-made c =
    let new = c.in_ok-as_it_is.ensures in
    told c.in-Some.is new.loss new.text
    (IsInOrder.left (laid_as c.in-Some-loss.is refl c.in_ok-laid.ensures.laid))

pub returns-in_err-sorted-clause-refused : goal.returns-in_err-sorted-clause-refused
returns-in_err-sorted-clause-refused c =
    let refused = c.in_err-sorted.field-0.0 in
    let p =
    err_from_is_err_and c.from_residual-in_err-sorted.result c.from_residual-in_err-sorted.ensures.1 in
    rw (p.1, p.2) (sorting_refused c.args.layout.now (chars c.args.text.now)
    c.in_ok-laid.ensures.same.is.document refused
    (subst (λ x. IsRefusalOf c.args.reading x refused) (ap chars c.as_str.ensures.value)
    c.in_err-sorted.ensures.refused))

pub returns-in-Some-loss-2-clause-made : goal.returns-in-Some-loss-2-clause-made
returns-in-Some-loss-2-clause-made c =
    let new = c.in_ok-as_it_is-2.ensures in
    told c.in-Some.is new.loss new.text
    (IsInOrder.unsorted (laid_as c.in_default-loss.is refl c.in_ok-laid.ensures.laid)
    (sorted_as c.in-Some-loss-2.is (ap chars c.as_str.ensures.value) c.in_ok-sorted.ensures.sorted))

pub returns-in_err-again-clause-refused : goal.returns-in_err-again-clause-refused
returns-in_err-again-clause-refused c =
    let refused = c.in_err-again.field-0.0 in
    let p = err_from_is_err_and c.from_residual-in_err-again.result c.from_residual-in_err-again.ensures.1 in
    rw (p.1, p.2) (layout_refused c.args.layout.now (chars c.args.text.now)
    c.in_ok-sorted.ensures.keeps.is.document refused
    (subst (λ x. RefusesLayout c.args.reading c.args.layout.now x refused) (ap chars c.as_str-2.ensures.value)
    c.in_err-again.ensures.refused))

pub returns-in-Some-loss-3-clause-made : goal.returns-in-Some-loss-3-clause-made
returns-in-Some-loss-3-clause-made c =
    let new = c.in_ok-as_it_is-in-Some-loss-3.ensures in
    told c.in-Some.is new.loss new.text
    (IsInOrder.unsteady (laid_as c.in_default-loss.is refl c.in_ok-laid.ensures.laid)
    (sorted_as c.in_default-loss-2.is (ap chars c.as_str.ensures.value) c.in_ok-sorted.ensures.sorted)
    (laid_as c.in-Some-loss-3.is (ap chars c.as_str-2.ensures.value) c.in_ok-again.ensures.laid))

pub returns-clause-made : goal.returns-clause-made
returns-clause-made c =
    rw (c.in-Some.is, c.in-None.is)
    (IsInOrder.sorted (laid_as c.in_default-loss.is refl c.in_ok-laid.ensures.laid)
    (sorted_as c.in_default-loss-2.is (ap chars c.as_str.ensures.value) c.in_ok-sorted.ensures.sorted)
    (laid_as c.in-None.is (ap chars c.as_str-2.ensures.value) c.in_ok-again.ensures.laid))
