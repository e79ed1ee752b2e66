use Rattle.std.proofs.Common.{◌≡◌, [], sym, ◌∙◌, ap, length, arith, rules}
use Rattle.std.proofs.lemmas.List.{length-append}
use Rattle.std.specs.Slice.Iter.{iter_mut_rest as slice_rest}
use Rattle.ini_multimap.specs.Iter.{iter_mut_rest}
use Rattle.ini_multimap.specs.Slots.{pairs_in, with_cell}
use Rattle.ini_multimap.proofs.EndLemmas.{rest_long, last_cell, last_none}
use Rattle.ini_multimap.proofs.iter.pairs.IterMutDoubleEndedIterator.next_back.Goals as goal
use Rattle.ini_multimap.proofs.iter.pairs.IterMutDoubleEndedIterator.next_back.Goals.{in_default-via-in-None-1}
use Rattle.ini_multimap.proofs.iter.pairs.IterMutDoubleEndedIterator.next_back.Goals.{in_default-via-in-Some-key+in-None-1}

pub invariant_of-self-in-None-key : goal.invariant_of-self-in-None-key
invariant_of-self-in-None-key g c =
    let hole : with_cell c.in-Some.key.now c.in-Some-next_back.value.now [] ≡ [] = search rules in
    record {
      long = rest_long _ _ _ _ _ _ c.in-Some.ensures.cases.0 c.in-Some-next_back.ensures.steps
          c.loop-key.self.long;
      counted = c.loop-key.self.counted
          ∙ ap length (last_none _ _ _ _ _ _ c.in-Some.ensures.cases.0 c.in-Some-next_back.ensures.steps
          c.loop-key.self.long hole);
    }

pub invariant_of-self-in-None-value : goal.invariant_of-self-in-None-value
invariant_of-self-in-None-value g c =
    let hole : with_cell c.in-Some.key.now c.in-Some-next_back.value.now [] ≡ [] = search rules in
    record {
      long = rest_long _ _ _ _ _ _ c.in-Some.ensures.cases.0 c.in-Some-next_back.ensures.steps
          c.loop-key.self.long;
      counted = c.loop-key.self.counted
          ∙ ap length (last_none _ _ _ _ _ _ c.in-Some.ensures.cases.0 c.in-Some-next_back.ensures.steps
          c.loop-key.self.long hole);
    }

pub overflow_sub-self : goal.overflow_sub-self
overflow_sub-self g c =
    let pairs = last_cell _ _ _ _ _ _ c.in-Some.ensures.cases.0 c.in-Some-next_back.ensures.steps
    c.loop-key.self.long _ (λ j. with_cell (c.in-Some-key.is j) (c.in-Some-value.is j) []) in
    omega (arith, c.loop-key.self.counted, simp length-append at (ap length pairs))

pub invariant_of-self-in-Some : goal.invariant_of-self-in-Some
invariant_of-self-in-Some g c =
    let pairs = last_cell _ _ _ _ _ _ c.in-Some.ensures.cases.0 c.in-Some-next_back.ensures.steps
    c.loop-key.self.long _ (λ j. with_cell (c.in-Some-key.is j) (c.in-Some-value.is j) []) in
    record {
      long = rest_long _ _ _ _ _ _ c.in-Some.ensures.cases.0 c.in-Some-next_back.ensures.steps
          c.loop-key.self.long;
      counted =
          omega (arith, c.loop-key.self.counted, simp length-append at (ap length pairs));
    }

pub returns-in-Some-clause-steps : goal.returns-in-Some-clause-steps
returns-in-Some-clause-steps g c = sym c.loop-key.invariant
    ∙ last_cell _ _ _ _ _ _ c.in-Some.ensures.cases.0 c.in-Some-next_back.ensures.steps
    c.loop-key.self.long _ (λ j. with_cell (c.in-Some-key.is j) (c.in-Some-value.is j) [])

pub returns-in-Some-clause-goes : goal.returns-in-Some-clause-goes
returns-in-Some-clause-goes g c =
    let steps = returns-in-Some-clause-steps g c in
    record {
      on = λ finite.
          (tt, finite, omega (arith, simp length-append at (ap length steps)));
      keeps = tt;
      rests = λ _. tt;
    }

pub loop-key-preserved : goal.loop-key-preserved
loop-key-preserved g c =
    let left : with_cell c.in-Some.key.now c.in-Some-next_back.value.now [] ≡ []
    → pairs_in c.in-Some.keys.now (slice_rest c.next_back.new.self) ≡ iter_mut_rest c.args.self.now =
    λ hole. sym (last_none _ _ _ _ _ _ c.in-Some.ensures.cases.0 c.in-Some-next_back.ensures.steps
    c.loop-key.self.long hole) ∙ c.loop-key.invariant in
    elim c.in_default.branch [
      | in_default-via-in-None-1 w ↦ ap iter_mut_rest w.self-is ∙ left (search rules)
      | in_default-via-in-Some-key+in-None-1 w ↦ ap iter_mut_rest w.self-is ∙ left (search rules)
    ]
