use Rattle.std.proofs.Common.{arith, sym, ◌∙◌}
use Rattle.ini_text.proofs.StringLemmas.LaneLemmas.{Tells-found, Tells-none, passed}
use Rattle.ini_text.proofs.lanes.marks_ahead.Goals as goal

pub returns-then-bytes-more-clause-tells : goal.returns-then-bytes-more-clause-tells
returns-then-bytes-more-clause-tells g c =
    Tells-none (g.M.Marks.is_marked c.args.marks.now) c.args.more c.args.bytes.now

pub returns-clause-tells : goal.returns-clause-tells
returns-clause-tells g c =
    Tells-found (g.M.Marks.is_marked c.args.marks.now) c.args.more c.args.bytes.now
    (omega arith) c.find.ensures

pub returns-clause-none : goal.returns-clause-none
returns-clause-none g c =
    λ none long. omega (
      arith,
      passed (g.M.Marks.is_marked c.args.marks.now) c.args.bytes.now 0 16
          (omega arith) (sym c.find.ensures ∙ none),
    )
