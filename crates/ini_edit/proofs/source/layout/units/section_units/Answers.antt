use Rattle.std.proofs.Common.{[], ◌∷◌, ◌++◌, ◌∙◌, ap, chars, map, rules, subst, sym}
use Rattle.std.proofs.lemmas.List.{map-append}
use Rattle.std.proofs.lemmas.Str.{chars-nil}
use Rattle.ini_text.specs.Grammar.CharacterKinds.{line_feed}
use Rattle.ini_edit.specs.Inside.Sortings.{section_unit_of}
use Rattle.ini_edit.specs.Sorting.{KeysSorted, section_units}
use Rattle.ini_edit.proofs.LayoutLemmas.{is_last}
use Rattle.ini_edit.proofs.UnitStepLemmas.{units_end, units_step}
use Rattle.ini_edit.proofs.source.layout.units.section_units.Goals as goal

pub loop-i-init : goal.loop-i-init
loop-i-init c =
    let sorts = c.args.sorts_keys in
    let items = c.args.sections.now in
    record {
      above = search rules;
      fit = λ us h.
          subst (λ l. KeysSorted sorts (section_units line_feed [] items) (map section_unit_of l ++ us))
          (sym c.new-units.ensures.items)
          (subst (λ a. KeysSorted sorts (section_units line_feed a items) us) chars-nil h);
    }

pub loop-i-preserved : goal.loop-i-preserved
loop-i-preserved c =
    let items = c.args.sections.now in
    record {
      above = search rules;
      fit = units_step c.args.sorts_keys (section_units line_feed [] items) c.loop-i.front
          (chars c.loop-i.above.now) (map section_unit_of c.loop-i.units.items) items c.loop-i.i
          c.index-sections-i.result c.loop-i-test.true c.index-sections-i.is c.loop-i.invariant.fit
          (is_last items c.loop-i.i c.index-sections-i.result c.loop-i-test.true) c.in_ok-unit.ensures.unit
          (ap (map section_unit_of) c.in_ok-push.ensures.items
          ∙ map-append section_unit_of c.loop-i.units.items (c.in_ok-unit.unit ∷ []))
          c.above_header-above.ensures c.last_char-front.ensures;
    }

pub returns-clause-units : goal.returns-clause-units
returns-clause-units c =
    let items = c.args.sections.now in
    units_end c.args.sorts_keys (section_units line_feed [] items) c.loop-i.front (chars c.loop-i.above.now)
    (map section_unit_of c.loop-i.units.items) items c.loop-i.i c.loop-i-test.false c.loop-i.invariant.fit
