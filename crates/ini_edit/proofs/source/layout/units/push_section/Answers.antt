use Rattle.std.proofs.Common.{◌∙◌, ◌++◌, ap, append_assoc, chars, map}
use Rattle.std.proofs.lemmas.Result.{on_ok_weaker}
use Rattle.ini_text.specs.Parsing.Items.{string_text}
use Rattle.ini_edit.specs.Inside.Sortings.{pair_unit_of}
use Rattle.ini_edit.specs.Sorting.{pair_unit_text}
use Rattle.ini_edit.specs.Sources.{joined}
use Rattle.ini_edit.proofs.UnitLemmas.{put_together}
use Rattle.ini_edit.proofs.source.layout.units.push_section.Goals as goal

pub returns-clause-pushed : goal.returns-clause-pushed
returns-clause-pushed c =
    let out = string_text c.args.out.now in
    let u = c.args.unit.now in
    let pairs = joined pair_unit_text (map pair_unit_of u.pairs.items) in
    on_ok_weaker c.push_pairs.result
    (λ pushed. put_together (chars u.above.now) u.section.now.header (chars u.rest.now ++ pairs) out
    c.in_ok-push_text.ensures.pushed
    (c.in_ok-push_text-2.ensures.pushed ∙ ap (λ t. string_text c.push_text.new.out ++ t) c.header.ensures)
    (pushed ∙ ap (λ l. string_text c.push_text-3.new.out ++ joined pair_unit_text (map pair_unit_of l))
    c.as_slice.ensures.value ∙ ap (λ t. t ++ pairs) c.in_ok-push_text-3.ensures.pushed
    ∙ append_assoc (string_text c.push_text-2.new.out) (chars u.rest.now) pairs))
    c.push_pairs.ensures.pushed
