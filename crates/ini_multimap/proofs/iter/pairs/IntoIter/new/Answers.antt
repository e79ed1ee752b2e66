use Rattle.std.proofs.Common.{sym, ◌∙◌, ap, length}
use Rattle.ini_multimap.specs.Slots.{pairs_in}
use Rattle.ini_multimap.proofs.iter.pairs.IntoIter.new.Goals as goal

pub invariant_of-result : goal.invariant_of-result
invariant_of-result g c = (
  ap length c.into_iter-2.ensures.rest ∙ c.requires ∙ sym (ap length c.into_iter.ensures.rest),
  c.count_pairs-left.ensures
      ∙ (λ j. length (pairs_in (c.as_slice.ensures.value j) (c.as_slice-2.ensures.value j)))
      ∙ sym (λ j. length (pairs_in (c.into_iter.ensures.rest j) (c.into_iter-2.ensures.rest j))),
)
