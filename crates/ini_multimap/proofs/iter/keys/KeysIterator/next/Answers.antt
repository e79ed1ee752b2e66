use Rattle.std.proofs.Common.{◌++◌, ◌+◌, sym, ◌∙◌, ap, length, arith}
use Rattle.ini_multimap.specs.Inside.Fits.{fresh_between}
use Rattle.ini_multimap.proofs.KeyWalkLemmas.{front_passed}
use Rattle.ini_multimap.proofs.iter.keys.KeysIterator.next.Goals as goal

pub returns-in-Some-clause-steps : goal.returns-in-Some-clause-steps
returns-in-Some-clause-steps g c =
    let it = c.loop-self.self-inside in
    sym c.loop-self.invariant.left
    ∙ front_passed g.K.PartialEq.eq it.slots.now it.end it.passed c.loop-self-test.true
    ∙ ap (λ l. l ++ fresh_between g.K.PartialEq.eq it.slots.now (it.passed + 1) it.end)
    (sym c.in-Some.ensures)

pub returns-in-Some-clause-goes : goal.returns-in-Some-clause-goes
returns-in-Some-clause-goes g c =
    let steps = returns-in-Some-clause-steps g c in
    record { on = λ finite. (tt, finite, omega (arith, ap length steps)); keeps = tt; rests = λ _. tt }

pub loop-self-preserved : goal.loop-self-preserved
loop-self-preserved g c =
    let it = c.loop-self.self-inside in
    let inv = c.loop-self.invariant in
    record {
      ordered = omega (arith, c.loop-self-test.true);
      within = inv.within;
      small = inv.small;
      left = ap (λ l. l ++ fresh_between g.K.PartialEq.eq it.slots.now (it.passed + 1) it.end)
          c.in_default.ensures
          ∙ sym (front_passed g.K.PartialEq.eq it.slots.now it.end it.passed c.loop-self-test.true)
          ∙ inv.left;
    }
