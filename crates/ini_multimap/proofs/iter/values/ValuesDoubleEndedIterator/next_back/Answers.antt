use Rattle.std.proofs.Common.{◌∙◌, sym, ap, length, arith}
use Rattle.std.proofs.lemmas.List.{length-append}
use Rattle.ini_multimap.proofs.ValueLemmas.{back_fits, back_left_less, back_misses, back_slots, crossed}
use Rattle.ini_multimap.proofs.iter.values.ValuesDoubleEndedIterator.next_back.Goals as goal

pub returns-then-s-first-clause-steps : goal.returns-then-s-first-clause-steps
returns-then-s-first-clause-steps g c =
    let it = c.loop-self.self-inside in
    let inv = c.loop-self.invariant in
    let none = crossed (g.met.Q.Probe.same_code it.q) it.slots.now.is_chained it.slots.now.keys
    it.slots.now.values _ _ _ _ inv.slots inv.end c.in-Some.is c.if-s-first.true in
    (sym inv.left ∙ none, none)

pub candidate_before-self-inside-requires : goal.candidate_before-self-inside-requires
candidate_before-self-inside-requires g c =
    let here = rw c.in-Some.is at c.loop-self.invariant.slots.1 in here.0

pub fitting_value-requires : goal.fitting_value-requires
fitting_value-requires g c = let here = rw c.in-Some.is at c.loop-self.invariant.slots.1 in here.0

pub invariant_of-self-in-Some-fitting_value : goal.invariant_of-self-in-Some-fitting_value
invariant_of-self-in-Some-fitting_value g c =
    let inv = c.loop-self.invariant in
    let here = rw c.in-Some.is at inv.slots.1 in
    back_slots _ _ _ _ _ _ _ inv.slots _ (c.candidate_before-self-inside.ensures _ here)

pub returns-in-Some-fitting_value-clause-steps : goal.returns-in-Some-fitting_value-clause-steps
returns-in-Some-fitting_value-clause-steps g c =
    let it = c.loop-self.self-inside in
    let inv = c.loop-self.invariant in
    let here = rw c.in-Some.is at inv.slots.1 in
    sym inv.left ∙ back_fits (g.met.Q.Probe.same_code it.q) it.slots.now.is_chained it.slots.now.keys
    it.slots.now.values _ _ _ _ inv.slots inv.end c.in-Some.is c.if-s-first.false _
    c.in-Some-fitting_value.value.now (c.candidate_before-self-inside.ensures _ here)
    (sym c.in-Some-fitting_value.ensures.fits) c.in-Some-fitting_value.ensures.value

pub returns-in-Some-fitting_value-clause-goes : goal.returns-in-Some-fitting_value-clause-goes
returns-in-Some-fitting_value-clause-goes g c =
    let steps = returns-in-Some-fitting_value-clause-steps g c in
    record {
      on = λ finite.
          (tt, finite, omega (arith, simp length-append at (ap length steps)));
      keeps = tt;
      rests = λ _. tt;
    }

pub loop-self-smaller : goal.loop-self-smaller
loop-self-smaller g c =
    let inv = c.loop-self.invariant in
    let here = rw c.in-Some.is at inv.slots.1 in
    back_left_less _ _ _ _ _ _ _ inv.slots _ c.in-Some.is (c.candidate_before-self-inside.ensures _ here)

pub loop-self-preserved : goal.loop-self-preserved
loop-self-preserved g c =
    let it = c.loop-self.self-inside in
    let inv = c.loop-self.invariant in
    let here = rw c.in-Some.is at inv.slots.1 in
    let following = c.candidate_before-self-inside.ensures (g.Q.Probe.probe_code it.q) here in
    record {
      slots = back_slots _ _ _ _ _ _ _ inv.slots _ following;
      end = inv.end;
      left = sym (back_misses (g.met.Q.Probe.same_code it.q) it.slots.now.is_chained it.slots.now.keys
          it.slots.now.values _ _ _ _ inv.slots inv.end c.in-Some.is c.if-s-first.false _ following
          (sym c.in_default-fitting_value.ensures.fits)) ∙ inv.left;
    }
