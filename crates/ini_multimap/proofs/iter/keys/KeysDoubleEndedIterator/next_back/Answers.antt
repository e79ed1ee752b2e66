use Rattle.std.proofs.Common.{◌++◌, ◌-◌, sym, ◌∙◌, ap, length, arith, append-nil}
use Rattle.std.proofs.lemmas.List.{length-append}
use Rattle.ini_multimap.specs.Inside.Fits.{fresh_between}
use Rattle.ini_multimap.proofs.KeyWalkLemmas.{back_passed}
use Rattle.ini_multimap.proofs.iter.keys.KeysDoubleEndedIterator.next_back.Goals as goal

pub returns-in-Some-clause-steps : goal.returns-in-Some-clause-steps
returns-in-Some-clause-steps g c =
    let it = c.loop-self.self-inside in
    let inv = c.loop-self.invariant in
    sym inv.left ∙ back_passed g.K.PartialEq.eq it.slots.now it.end it.passed (it.end - 1)
    (omega (arith, c.loop-self-test.true)) (omega (arith, c.loop-self-test.true)) inv.within
    ∙ ap (λ l. fresh_between g.K.PartialEq.eq it.slots.now it.passed (it.end - 1) ++ l)
    (sym c.in-Some.ensures)

pub returns-in-Some-clause-goes : goal.returns-in-Some-clause-goes
returns-in-Some-clause-goes g c =
    let steps = returns-in-Some-clause-steps g c in
    record {
      on = λ finite.
          (tt, finite, omega (arith, simp length-append at (ap length steps)));
      keeps = tt;
      rests = λ _. tt;
    }

pub loop-self-preserved : goal.loop-self-preserved
loop-self-preserved g c =
    let it = c.loop-self.self-inside in
    let inv = c.loop-self.invariant in
    let rest = fresh_between g.K.PartialEq.eq it.slots.now it.passed (it.end - 1) in
    record {
      ordered = omega (arith, c.loop-self-test.true);
      within = omega (arith, inv.within);
      left = sym (back_passed g.K.PartialEq.eq it.slots.now it.end it.passed (it.end - 1)
          (omega (arith, c.loop-self-test.true)) (omega (arith, c.loop-self-test.true)) inv.within
          ∙ ap (λ l. rest ++ l) (sym c.in_default.ensures) ∙ append-nil rest) ∙ inv.left;
    }
