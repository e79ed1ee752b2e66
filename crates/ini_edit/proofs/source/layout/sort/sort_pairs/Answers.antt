use Rattle.std.proofs.Common.{map, rules, subst, sym}
use Rattle.std.specs.Result.{OnOk}
use Rattle.std.proofs.lemmas.Fn.{always_returns_same}
use Rattle.std.proofs.lemmas.Result.{on_ok_weaker}
use Rattle.ini_edit.specs.Inside.Sortings.{pair_unit_of}
use Rattle.ini_edit.specs.Sorting.{IsSortedIf, unit_key}
use Rattle.ini_edit.proofs.SortedLemmas.{less, less_ranks, sorted_parts}
use Rattle.ini_edit.proofs.source.layout.sort.sort_pairs.Goals as goal

pub returns : goal.returns
returns c =
    let test = less (λ u. unit_key (pair_unit_of u)) in
    let ranks = less_ranks (λ u. unit_key (pair_unit_of u)) in
    subst (λ b. OnOk c.sort_by.result (IsSortedIf b unit_key (map pair_unit_of c.args.units.now.items)
    (map pair_unit_of c.sort_by.new.self.items))) (sym c.if-not-sorts.false)
    (on_ok_weaker c.sort_by.result
    (λ sorted. sorted_parts pair_unit_of unit_key _ _ c.sort_by.ensures.permutation
    (sorted test ranks (always_returns_same _ _ _ (λ a r f k. search rules)))
    (c.sort_by.ensures.stable test ranks (always_returns_same _ _ _ (λ a r f k. search rules))))
    c.sort_by.ensures.sorted)
