use Rattle.std.proofs.Common.{◌≡◌, [], sym, ◌∙◌, ap, length, arith, rules}
use Rattle.std.proofs.lemmas.List.{length-append}
use Rattle.ini_multimap.specs.Slots.{with_cell}
use Rattle.ini_multimap.proofs.EndLemmas.{rest_long, last_cell, last_none}
use Rattle.ini_multimap.proofs.iter.pairs.IntoIterDoubleEndedIterator.next_back.Goals as goal
use Rattle.ini_multimap.proofs.iter.pairs.IntoIterDoubleEndedIterator.next_back.Goals.{in_default-via-in-None-1}
use Rattle.ini_multimap.proofs.iter.pairs.IntoIterDoubleEndedIterator.next_back.Goals.{in_default-via-in-Some-key+in-None-1}

pub loop-key-init : goal.loop-key-init
loop-key-init g c = record {
  left = c.self.view_is;
  long = c.self.invariant.0;
  counted = c.self.invariant.1 ∙ ap length c.self.view_is;
}

pub overflow_sub-self : goal.overflow_sub-self
overflow_sub-self g c =
    let pairs = last_cell _ _ _ _ _ _ c.in-Some.ensures.steps c.in-Some-next_back.ensures.steps
    c.loop-key.invariant.long _ (λ j. with_cell (c.in-Some-key.is j) (c.in-Some-value.is j) []) in
    omega (
      arith,
      c.loop-key.invariant.counted,
      ap length c.loop-key.invariant.left,
      simp length-append at (ap length pairs),
    )

pub invariant_of-self-in-Some : goal.invariant_of-self-in-Some
invariant_of-self-in-Some g c =
    let pairs = last_cell _ _ _ _ _ _ c.in-Some.ensures.steps c.in-Some-next_back.ensures.steps
    c.loop-key.invariant.long _ (λ j. with_cell (c.in-Some-key.is j) (c.in-Some-value.is j) []) in (
      rest_long _ _ _ _ _ _ c.in-Some.ensures.steps c.in-Some-next_back.ensures.steps
          c.loop-key.invariant.long,
      omega (
        arith,
        c.loop-key.invariant.counted,
        ap length c.loop-key.invariant.left,
        simp length-append at
            (ap length pairs),
      ),
    )

pub returns-in-Some-clause-steps : goal.returns-in-Some-clause-steps
returns-in-Some-clause-steps g c = sym c.loop-key.invariant.left
    ∙ last_cell _ _ _ _ _ _ c.in-Some.ensures.steps c.in-Some-next_back.ensures.steps
    c.loop-key.invariant.long _ (λ j. with_cell (c.in-Some-key.is j) (c.in-Some-value.is j) [])

pub returns-in-Some-clause-goes : goal.returns-in-Some-clause-goes
returns-in-Some-clause-goes g c =
    let steps = returns-in-Some-clause-steps g c in
    record {
      on = λ finite.
          (tt, finite, omega (arith, simp length-append at (ap length steps)));
      keeps = tt;
      rests = λ _. tt;
    }

pub loop-key-preserved : goal.loop-key-preserved
loop-key-preserved g c =
    let hole : with_cell c.in-Some.key c.in-Some-next_back.value [] ≡ [] = elim c.in_default.branch [
      | in_default-via-in-None-1 w ↦ search rules
      | in_default-via-in-Some-key+in-None-1 w ↦ search rules
    ] in
    record {
      left = sym (last_none _ _ _ _ _ _ c.in-Some.ensures.steps c.in-Some-next_back.ensures.steps
          c.loop-key.invariant.long hole) ∙ c.loop-key.invariant.left;
      long =
          rest_long _ _ _ _ _ _ c.in-Some.ensures.steps c.in-Some-next_back.ensures.steps
          c.loop-key.invariant.long;
      counted = c.loop-key.invariant.counted;
    }

pub loop-key-preserved-in_default : goal.loop-key-preserved-in_default
loop-key-preserved-in_default g c =
    let hole : with_cell c.in-Some.key c.in-Some-next_back.value [] ≡ [] = elim c.in_default.branch [
      | in_default-via-in-None-1 w ↦ search rules
      | in_default-via-in-Some-key+in-None-1 w ↦ search rules
    ] in
    record {
      left = sym (last_none _ _ _ _ _ _ c.in-Some.ensures.steps c.in-Some-next_back.ensures.steps
          c.loop-key.invariant.long hole) ∙ c.loop-key.invariant.left;
      long =
          rest_long _ _ _ _ _ _ c.in-Some.ensures.steps c.in-Some-next_back.ensures.steps
          c.loop-key.invariant.long;
      counted = c.loop-key.invariant.counted;
    }
