use Rattle.std.proofs.Common.{◌≡◌, ◌+◌, ◌++◌, ◌∙◌, ◌&&◌, ap, chars, length, map, nat_eq, rules, subst, sym}
use Rattle.std.proofs.lemmas.List.{map-append}
use Rattle.ini_text.specs.Parsing.Fronts.{IsRest, front_of}
use Rattle.ini_edit.specs.Inside.Sortings.{pair_unit_of}
use Rattle.ini_edit.specs.Sorting.{pair_units}
use Rattle.ini_edit.proofs.LayoutLemmas.{is_last}
use Rattle.ini_edit.proofs.UnitLemmas.{pair_units_end, pair_units_step}
use Rattle.ini_edit.proofs.source.layout.units.pair_units.Goals as goal
use Rattle.ini_edit.proofs.source.layout.units.pair_units.Goals.{else-is_last, then-is_last}

pub loop-i-init : goal.loop-i-init
loop-i-init c = record {
  above = search rules;
  so_far = ap
      (λ l. map pair_unit_of l ++ pair_units c.args.is_last (chars c.args.first.now) c.args.pairs.now)
      c.new-units.ensures.items;
}

pub front_before-rest-requires : goal.front_before-rest-requires
front_before-rest-requires c =
    subst (λ a. IsRest a (chars c.above_after-next.result.now)) (sym c.after.ensures)
    c.above_after-next.ensures.is_rest

pub loop-i-preserved : goal.loop-i-preserved
loop-i-preserved c =
    let items = c.args.pairs.now in
    let p = c.index-pairs-i.result in
    let above = chars c.loop-i.above.now in
    let next = chars c.above_after-next.result.now in
    let at_end = nat_eq (c.loop-i.i + 1) (length items) in
    let ends : c.if-is_last.is_end ≡ (c.args.is_last && at_end) = elim c.if-is_last.branch [
      | then-is_last w ↦ w.is_end-is ∙ sym (ap (λ b. b && at_end) w.if-is_last.true)
      | else-is_last w ↦ w.is_end-is ∙ w.if-is_last.false ∙ sym (ap (λ b. b && at_end) w.if-is_last.false)
    ] in
    record {
      above = search rules;
      so_far = pair_units_step c.args.is_last above (map pair_unit_of c.loop-i.units.items) items
          c.loop-i.i p c.loop-i-test.true c.index-pairs-i.is c.loop-i.invariant.so_far
          (ends ∙ ap (λ b. c.args.is_last && b) (is_last items c.loop-i.i p c.loop-i-test.true))
          c.above_after-next.ensures.above
          (ap (λ r. record { above = above; pair = p; rest = r })
          (c.front_before-rest.ensures ∙ ap (λ a. front_of a next) c.after.ensures))
          (ap (map pair_unit_of) c.in_ok-push.ensures.items
          ∙ map-append pair_unit_of c.loop-i.units.items _);
    }

pub returns-clause-units : goal.returns-clause-units
returns-clause-units c =
    pair_units_end c.args.is_last (chars c.loop-i.above.now) c.args.pairs.now c.loop-i.i c.loop-i-test.false
    c.loop-i.invariant.so_far
