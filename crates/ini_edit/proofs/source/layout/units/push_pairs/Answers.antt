use Rattle.std.proofs.Common.{◌∙◌, ◌++◌, ap, append_assoc, sym, take}
use Rattle.std.proofs.lemmas.List.{take_all}
use Rattle.ini_text.specs.Parsing.Items.{string_text}
use Rattle.ini_edit.specs.Inside.Sortings.{pair_unit_of}
use Rattle.ini_edit.specs.Sorting.{pair_unit_text}
use Rattle.ini_edit.specs.Sources.{joined}
use Rattle.ini_edit.proofs.InPlaceLemmas.{joined-more}
use Rattle.ini_edit.proofs.SortedTextLemmas.{joined_mapped}
use Rattle.ini_edit.proofs.source.layout.units.push_pairs.Goals as goal

pub loop-unit-preserved : goal.loop-unit-preserved
loop-unit-preserved c =
    let front = string_text c.args.out.now in
    let i = c.loop-unit.unit-index in
    let items = c.args.units.now in
    let text = pair_unit_text (pair_unit_of c.unit-item.result) in
    c.in_ok-push_pair.ensures.pushed ∙ ap (λ t. t ++ text) c.loop-unit.invariant
    ∙ append_assoc front (joined (λ u. pair_unit_text (pair_unit_of u)) (take i items)) text
    ∙ ap (λ t. front ++ t)
    (sym (joined-more (λ u. pair_unit_text (pair_unit_of u)) items i c.unit-item.result c.loop-unit-test.true
    c.unit-item.is))

pub returns-clause-pushed : goal.returns-clause-pushed
returns-clause-pushed c =
    let front = string_text c.args.out.now in
    let items = c.args.units.now in
    c.loop-unit.invariant
    ∙ ap (λ l. front ++ joined (λ u. pair_unit_text (pair_unit_of u)) l)
    (take_all c.loop-unit.unit-index items c.loop-unit-test.false)
    ∙ ap (λ t. front ++ t) (sym (joined_mapped pair_unit_text pair_unit_of items))
