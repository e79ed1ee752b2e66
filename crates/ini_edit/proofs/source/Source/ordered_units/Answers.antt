use Rattle.std.proofs.Common.{[], map, subst}
use Rattle.ini_text.specs.Grammar.CharacterKinds.{line_feed}
use Rattle.ini_edit.specs.Inside.Sortings.{section_unit_of}
use Rattle.ini_edit.specs.Sorting.{IsSortedIf, KeysSorted, section_units, unit_name, units_in}
use Rattle.ini_edit.proofs.source.Source.ordered_units.Goals as goal

pub returns-clause-ordered : goal.returns-clause-ordered
returns-clause-ordered c =
    let sorts = c.sorts_keys.result in
    let by_key = map section_unit_of c.in_ok-units.units.items in
    let sorted = map section_unit_of c.sort_sections.new.units.items in
    record {
      by_key = by_key;
      keys = subst (λ b. KeysSorted b (units_in c.args.self.now) by_key) c.sorts_keys.ensures
          (subst (λ ss. KeysSorted sorts (section_units line_feed [] ss) by_key) c.sections.ensures
          c.in_ok-units.ensures.units);
      sections = subst (λ b. IsSortedIf b unit_name by_key sorted) c.sorts_sections.ensures
          c.in_ok-sort_sections.ensures;
    }
