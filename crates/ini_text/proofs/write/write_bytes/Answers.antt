use Rattle.std.proofs.Common.{length, ap, arith, rules}
use Rattle.ini_text.proofs.WriteLemmas.ProgressLemmas.{under_way_kept, under_way_past}
use Rattle.ini_text.proofs.write.write_bytes.Goals as goal

pub returns-in_err-taken-clause-written : goal.returns-in_err-taken-clause-written
returns-in_err-taken-clause-written g c =
    let front = under_way_kept _ c.pieces.invariant.under_way c.in_err-taken.ensures.bytes in
    search (front, rules)

pub pieces-preserved : goal.pieces-preserved
pieces-preserved g c = record {
  clear = search rules;
  same_device = search rules;
  under_way = under_way_past c.in_ok-taken.taken c.pieces.invariant.under_way c.in_ok-taken.ensures.bytes;
  nothing =
      λ e. absurd (omega (arith, c.in_ok-taken.ensures.bound, ap length (c.pieces.invariant.nothing e).1));
}
