use Rattle.std.proofs.Common.{◌∙◌, ◌++◌, ap, chars, sym}
use Rattle.std.proofs.lemmas.List.{take_all}
use Rattle.std.proofs.lemmas.Str.{chars-nil}
use Rattle.ini_edit.specs.Inside.Sortings.{section_unit_of}
use Rattle.ini_edit.specs.Sorting.{section_unit_text}
use Rattle.ini_edit.specs.Sources.{joined}
use Rattle.ini_edit.proofs.InPlaceLemmas.{joined-more}
use Rattle.ini_edit.proofs.SortedTextLemmas.{joined_mapped}
use Rattle.ini_edit.proofs.source.layout.units.units_text.Goals as goal

pub loop-unit-init : goal.loop-unit-init
loop-unit-init c = ap chars c.new-out.ensures.bytes ∙ chars-nil

pub loop-unit-preserved : goal.loop-unit-preserved
loop-unit-preserved c =
    let text = section_unit_text (section_unit_of c.unit-item.result) in
    c.in_ok-push_section.ensures.pushed ∙ ap (λ t. t ++ text) c.loop-unit.invariant
    ∙ sym (joined-more (λ u. section_unit_text (section_unit_of u)) c.args.units.now c.loop-unit.unit-index
    c.unit-item.result c.loop-unit-test.true c.unit-item.is)

pub returns-clause-text : goal.returns-clause-text
returns-clause-text c =
    let items = c.args.units.now in
    c.loop-unit.invariant
    ∙ ap (joined (λ u. section_unit_text (section_unit_of u)))
    (take_all c.loop-unit.unit-index items c.loop-unit-test.false)
    ∙ sym (joined_mapped section_unit_text section_unit_of items)
