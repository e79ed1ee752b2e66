use Rattle.std.proofs.Common.{sym, ◌∙◌, arith}
use Rattle.ini_multimap.proofs.WalkLemmas.{walk_hits, walk_misses, walk_starts}
use Rattle.ini_multimap.proofs.slots.Slots.nth_slot.Goals as goal
use Rattle.ini_multimap.proofs.slots.Slots.nth_slot.Goals.{then-is_some+else-left-eq0, else-is_some}

pub loop-at-init : goal.loop-at-init
loop-at-init g c =
    let slots = c.args.self.now in
    walk_starts (g.met.Q.Probe.same_code c.args.q) slots.is_chained slots.keys slots.values
    c.first_candidate-at.result c.args.n c.first_candidate-at.ensures

pub loop-at-preserved : goal.loop-at-preserved
loop-at-preserved g c =
    let slots = c.args.self.now in
    let class = g.met.Q.Probe.same_code c.args.q in
    let next = c.candidate_after-at.result in
    let at = rw c.in-Some.is at c.loop-at.invariant in
    let ahead = c.candidate_after-at.ensures (g.Q.Probe.probe_code c.args.q) at.0 in
    elim c.if-is_some.branch [
      | then-is_some+else-left-eq0 w ↦ walk_hits class slots.is_chained slots.keys slots.values next
          c.args.n c.loop-at.left c.if-is_some.left c.in-Some.s at ahead
          (sym (w.if-is_some.ensures ∙ c.fitting_value.ensures.fits)) (omega (arith, w.left-is))
      | else-is_some w ↦ rw w.left-is (walk_misses class slots.is_chained slots.keys slots.values next
          c.args.n c.loop-at.left c.in-Some.s at ahead
          (sym (w.if-is_some.ensures ∙ c.fitting_value.ensures.fits)))
    ]
