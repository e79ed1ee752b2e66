use Rattle.std.proofs.Common.{ap, map, sym, ◌∙◌, arith, eqb-true}
use lib.Lanes.{mask_l}
use Rattle.ini_text.proofs.StringLemmas.LaneLemmas.{unmarked}
use Rattle.ini_text.proofs.lanes.has_no_mark.Goals as goal

pub returns-clause-none : goal.returns-clause-none
returns-clause-none g c = λ is.
    let p = g.M.Marks.is_marked c.args.marks.now in
    let none = sym (ap (λ v. mask_l (map p v)) c.both_ends.ensures) ∙ sym c.find.ensures ∙ eqb-true _ 0 is in
    unmarked p c.args.bytes.now (omega arith) (omega arith) none
