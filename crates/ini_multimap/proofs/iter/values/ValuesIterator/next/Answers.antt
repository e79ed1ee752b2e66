use Rattle.std.proofs.Common.{◌∙◌, sym, ap, length, arith}
use Rattle.ini_multimap.proofs.ValueLemmas.{crossed, front_fits, front_misses, front_shorter, front_slots}
use Rattle.ini_multimap.proofs.iter.values.ValuesIterator.next.Goals as goal

pub returns-then-last-s-clause-steps : goal.returns-then-last-s-clause-steps
returns-then-last-s-clause-steps g c =
    let it = c.loop-self.self-inside in
    let inv = c.loop-self.invariant in
    let none = crossed (g.met.Q.Probe.same_code it.q) it.slots.now.is_chained it.slots.now.keys
    it.slots.now.values _ _ _ _ inv.slots c.in-Some.is inv.end c.if-last-s.true in
    (sym inv.left ∙ none, none)

pub candidate_after-self-inside-requires : goal.candidate_after-self-inside-requires
candidate_after-self-inside-requires g c =
    let here = rw c.in-Some.is at c.loop-self.invariant.slots.0 in here.0

pub fitting_value-requires : goal.fitting_value-requires
fitting_value-requires g c = let here = rw c.in-Some.is at c.loop-self.invariant.slots.0 in here.0

pub invariant_of-self-in-Some-fitting_value : goal.invariant_of-self-in-Some-fitting_value
invariant_of-self-in-Some-fitting_value g c =
    let inv = c.loop-self.invariant in
    let here = rw c.in-Some.is at inv.slots.0 in
    front_slots _ _ _ _ _ _ _ inv.slots _ (c.candidate_after-self-inside.ensures _ here)

pub returns-in-Some-fitting_value-clause-steps : goal.returns-in-Some-fitting_value-clause-steps
returns-in-Some-fitting_value-clause-steps g c =
    let it = c.loop-self.self-inside in
    let inv = c.loop-self.invariant in
    let here = rw c.in-Some.is at inv.slots.0 in
    sym inv.left ∙ front_fits (g.met.Q.Probe.same_code it.q) it.slots.now.is_chained it.slots.now.keys
    it.slots.now.values _ _ _ _ inv.slots c.in-Some.is inv.end c.if-last-s.false _
    c.in-Some-fitting_value.value.now (c.candidate_after-self-inside.ensures _ here)
    (sym c.in-Some-fitting_value.ensures.fits) c.in-Some-fitting_value.ensures.value

pub returns-in-Some-fitting_value-clause-goes : goal.returns-in-Some-fitting_value-clause-goes
returns-in-Some-fitting_value-clause-goes g c =
    let steps = returns-in-Some-fitting_value-clause-steps g c in
    record { on = λ finite. (tt, finite, omega (arith, ap length steps)); keeps = tt; rests = λ _. tt }

pub loop-self-smaller : goal.loop-self-smaller
loop-self-smaller g c =
    let inv = c.loop-self.invariant in
    let here = rw c.in-Some.is at inv.slots.0 in
    front_shorter _ _ _ _ _ _ _ inv.slots _ c.in-Some.is (c.candidate_after-self-inside.ensures _ here)

pub loop-self-preserved : goal.loop-self-preserved
loop-self-preserved g c =
    let it = c.loop-self.self-inside in
    let inv = c.loop-self.invariant in
    let here = rw c.in-Some.is at inv.slots.0 in
    let ahead = c.candidate_after-self-inside.ensures (g.Q.Probe.probe_code it.q) here in
    record {
      slots = front_slots _ _ _ _ _ _ _ inv.slots _ ahead;
      end = inv.end;
      left = sym (front_misses (g.met.Q.Probe.same_code it.q) it.slots.now.is_chained it.slots.now.keys
          it.slots.now.values _ _ _ _ inv.slots c.in-Some.is inv.end c.if-last-s.false _ ahead
          (sym c.in_default-fitting_value.ensures.fits)) ∙ inv.left;
    }
