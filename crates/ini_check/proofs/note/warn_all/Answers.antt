use Rattle.std.proofs.Common.{◌∙◌, ◌++◌, ap, append_assoc, append-nil, sym}
use Rattle.ini_check.specs.Warnings.{warned, warned_all}
use Rattle.ini_check.proofs.NoteLemmas.{nothing_left}
use Rattle.ini_check.proofs.note.warn_all.Goals as goal

pub traps-preserved : goal.traps-preserved
traps-preserved c b s begins ends =
    let more = c.in-Some.more.now in
    ap (λ ws. ws ++ warned_all b s more) (c.in_ok-warn_where.ensures.warned b s begins ends)
    ∙ append_assoc c.traps.warnings.items (warned b s _ _) (warned_all b s more)
    ∙ ap (λ ts. c.traps.warnings.items ++ warned_all b s ts) (sym c.in-Some.ensures.cases.0)
    ∙ c.traps.invariant b s begins ends

pub returns-clause-warned : goal.returns-clause-warned
returns-clause-warned c b s begins ends =
    sym (append-nil c.traps.warnings.items)
    ∙ ap (λ ts. c.traps.warnings.items ++ warned_all b s ts)
    (sym (nothing_left c.traps.rest.now c.in_default.ensures.cases))
    ∙ c.traps.invariant b s begins ends
