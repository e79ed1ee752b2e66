use Rattle.std.proofs.Common.{◌∙◌, ap, chars, map, subst}
use Rattle.std.proofs.lemmas.Result.{err_from_is_err_and}
use Rattle.ini_edit.specs.Inside.Sortings.{section_unit_of}
use Rattle.ini_edit.specs.Sorting.{Misses, Says, units_text}
use Rattle.ini_edit.proofs.SortedTextLemmas.{left_keeps, left_is, sorted_keeps, sorted_is}
use Rattle.ini_edit.proofs.WholeTextLemmas.{read_in_pieces}
use Rattle.ini_edit.proofs.WholeTextRefusalLemmas.{refusal_of}
use Rattle.ini_edit.proofs.source.layout.sort.sort_text.Goals as goal

pub returns-clause-sorted : goal.returns-clause-sorted
returns-clause-sorted c =
    let read = c.in_ok-source.ensures in
    let text =
    c.in_ok-sorted.ensures.text ∙ ap (λ l. units_text (map section_unit_of l)) c.as_slice.ensures.value in
    let says = subst (λ l. Says c.args.read (chars c.as_str.result.now) (map section_unit_of l))
    c.as_slice-2.ensures.value (rw c.in-None.is at c.in_ok-loss.ensures.found) in
    sorted_is (read_in_pieces read.option read.text read.placed read.document)
    c.in_ok-units.ensures.ordered text
    (subst (λ b. Says c.args.read (chars b) (map section_unit_of c.in_ok-units.units.items))
    c.as_str.ensures.value says)

pub returns-clause-keeps : goal.returns-clause-keeps
returns-clause-keeps c =
    let read = c.in_ok-source.ensures in
    let text =
    c.in_ok-sorted.ensures.text ∙ ap (λ l. units_text (map section_unit_of l)) c.as_slice.ensures.value in
    let says = subst (λ l. Says c.args.read (chars c.as_str.result.now) (map section_unit_of l))
    c.as_slice-2.ensures.value (rw c.in-None.is at c.in_ok-loss.ensures.found) in
    sorted_keeps (read_in_pieces read.option read.text read.placed read.document)
    c.in_ok-units.ensures.ordered text
    (subst (λ b. Says c.args.read (chars b) (map section_unit_of c.in_ok-units.units.items))
    c.as_str.ensures.value says)

pub returns-in-Some-clause-sorted : goal.returns-in-Some-clause-sorted
returns-in-Some-clause-sorted c =
    let read = c.in_ok-source.ensures in
    let lost = c.in-Some.lost in
    let text =
    c.in_ok-sorted.ensures.text ∙ ap (λ l. units_text (map section_unit_of l)) c.as_slice.ensures.value in
    let misses = subst (λ l. Misses c.args.read (chars c.as_str.result.now) (map section_unit_of l) lost)
    c.as_slice-2.ensures.value (rw c.in-Some.is at c.in_ok-loss.ensures.found) in
    left_is (read_in_pieces read.option read.text read.placed read.document)
    c.in_ok-units.ensures.ordered text
    (subst (λ b. Misses c.args.read (chars b) (map section_unit_of c.in_ok-units.units.items) lost)
    c.as_str.ensures.value misses)
    (c.in_ok-text-in-Some.ensures.text ∙ read.text)

pub returns-in-Some-clause-keeps : goal.returns-in-Some-clause-keeps
returns-in-Some-clause-keeps c =
    let read = c.in_ok-source.ensures in
    left_keeps (read_in_pieces read.option read.text read.placed read.document)
    (c.in_ok-text-in-Some.ensures.text ∙ read.text)

pub returns-in_err-source-clause-refused : goal.returns-in_err-source-clause-refused
returns-in_err-source-clause-refused c =
    let e = err_from_is_err_and c.from_residual.result c.from_residual.ensures.1 in
    let refused = c.in_err-source.ensures in
    rw (e.1, e.2) (refusal_of _ _ c.in_err-source.field-0.0 refused.only refused.fault)
