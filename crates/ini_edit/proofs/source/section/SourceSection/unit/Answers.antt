use Rattle.std.proofs.Common.{◌≡◌, ◌∙◌, ap, ap₂, chars, map, subst, sym}
use Rattle.ini.specs.Texts.{Text}
use Rattle.ini_text.specs.Parsing.Fronts.{IsRest, front_of}
use Rattle.ini_edit.specs.Inside.Sortings.{pair_unit_of}
use Rattle.ini_edit.specs.Sorting.{IsSortedIf, SectionUnit, first_above, pair_units, unit_key}
use Rattle.ini_edit.proofs.source.section.SourceSection.unit.Goals as goal

pub front_before-requires : goal.front_before-requires
front_before-requires c =
    subst (λ a. IsRest a (chars c.first_above-first.result.now)) (sym c.after.ensures)
    c.first_above-first.ensures.is_rest

pub returns-clause-unit : goal.returns-clause-unit
returns-clause-unit c =
    let s = c.args.self.now in
    let pairs = map pair_unit_of c.sort_pairs.new.units.items in
    let made : Text → SectionUnit = λ rest.
    record { above = chars c.args.above.now; section = s; rest = rest; pairs = pairs } in
    let rest : chars c.front_before.result.now
    ≡ front_of s.after (first_above c.args.front c.args.is_last s) =
    c.front_before.ensures ∙ ap₂ front_of c.after.ensures c.first_above-first.ensures.above in
    record {
      pairs = subst (λ l. IsSortedIf c.args.sorts_keys unit_key l pairs)
          (c.in_ok-pairs.ensures.units
          ∙ ap₂ (pair_units c.args.is_last) c.first_above-first.ensures.above c.pairs.ensures)
          c.in_ok-sort_pairs.ensures;
      stays = ap made rest;
    }
