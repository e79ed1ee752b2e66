use Rattle.std.proofs.Common.{sym, ap, ◌∙◌, arith}
use lib.Count.{count_trailing_zeros}
use Rattle.ini_text.proofs.StringLemmas.LaneLemmas.{passed, run_within, stopped}
use Rattle.ini_text.proofs.lanes.run_before.Goals as goal

pub returns-then-bits-ne0-clause-len : goal.returns-then-bits-ne0-clause-len
returns-then-bits-ne0-clause-len g c =
    let bits = c.find-bits in
    let run = stopped (g.M.Marks.is_marked c.args.marks.now) c.args.bytes.now c.lanes.at 16 (omega arith)
    (omega arith) (omega (arith, bits.ensures)) ∙ ap (count_trailing_zeros 64) (sym bits.ensures) in
    omega (arith, run, c.lanes.invariant.run)

pub returns-then-bits-ne0-clause-within : goal.returns-then-bits-ne0-clause-within
returns-then-bits-ne0-clause-within g c =
    let bits = c.find-bits in
    let run = stopped (g.M.Marks.is_marked c.args.marks.now) c.args.bytes.now c.lanes.at 16 (omega arith)
    (omega arith) (omega (arith, bits.ensures)) ∙ ap (count_trailing_zeros 64) (sym bits.ensures) in
    omega (
      arith,
      run,
      run_within (g.M.Marks.is_marked c.args.marks.now) c.args.bytes.now c.lanes.at c.lanes.invariant.within,
    )

pub lanes-preserved : goal.lanes-preserved
lanes-preserved g c =
    let run = passed (g.M.Marks.is_marked c.args.marks.now) c.args.bytes.now c.lanes.at 16 (omega arith)
    (omega (arith, c.find-bits.ensures)) in
    record { run = omega (arith, run, c.lanes.invariant.run); within = omega arith }
