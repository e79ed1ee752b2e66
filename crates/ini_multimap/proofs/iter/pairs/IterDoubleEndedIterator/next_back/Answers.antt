use Rattle.std.proofs.Common.{◌≡◌, [], sym, ◌∙◌, ap, length, arith, rules}
use Rattle.std.proofs.lemmas.List.{length-append}
use Rattle.ini_multimap.specs.Slots.{with_cell}
use Rattle.ini_multimap.proofs.EndLemmas.{rest_long, last_cell, last_none}
use Rattle.ini_multimap.proofs.iter.pairs.IterDoubleEndedIterator.next_back.Goals as goal
use Rattle.ini_multimap.proofs.iter.pairs.IterDoubleEndedIterator.next_back.Goals.{in_default-via-in-None-1}
use Rattle.ini_multimap.proofs.iter.pairs.IterDoubleEndedIterator.next_back.Goals.{in_default-via-in-Some-key+in-None-1}

pub returns-in-Some-clause-steps : goal.returns-in-Some-clause-steps
returns-in-Some-clause-steps g c = sym c.loop-key.invariant.left
    ∙ last_cell _ _ _ _ _ _ c.in-Some.ensures.cases.0 c.in-Some-split_last.ensures.cases.0
    c.loop-key.invariant.long _ (λ j. with_cell (c.in-Some-key.is j) (c.in-Some-value.is j) [])

pub returns-in-Some-clause-goes : goal.returns-in-Some-clause-goes
returns-in-Some-clause-goes g c =
    let steps = returns-in-Some-clause-steps g c in
    record {
      on = λ finite.
          (tt, finite, omega (arith, simp length-append at (ap length steps)));
      keeps = tt;
      rests = λ _. tt;
    }

pub loop-key-preserved : goal.loop-key-preserved
loop-key-preserved g c =
    let hole : with_cell c.in-Some.key.now c.in-Some-split_last.value.now [] ≡ [] = elim c.in_default.branch [
      | in_default-via-in-None-1 w ↦ search rules
      | in_default-via-in-Some-key+in-None-1 w ↦ search rules
    ] in
    record {
      left = sym (last_none _ _ _ _ _ _ c.in-Some.ensures.cases.0 c.in-Some-split_last.ensures.cases.0
          c.loop-key.invariant.long hole) ∙ c.loop-key.invariant.left;
      long =
          rest_long _ _ _ _ _ _ c.in-Some.ensures.cases.0 c.in-Some-split_last.ensures.cases.0
          c.loop-key.invariant.long;
    }
