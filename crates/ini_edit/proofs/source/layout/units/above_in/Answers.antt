use Rattle.std.proofs.Common.{◌≡◌, ◌∙◌, ap, chars, subst, sym, true}
use Rattle.std.specs.Option.{unwrap_or}
use Rattle.ini_text.specs.Parsing.Fronts.{IsRest}
use Rattle.ini_edit.specs.Sorting.{above_in, after_last_blank}
use Rattle.ini_edit.proofs.UnitLemmas.{above_in-rest}
use Rattle.ini_edit.proofs.source.layout.units.above_in.Goals as goal

pub returns-clause-above : goal.returns-clause-above
returns-clause-above c =
    c.after_last_blank.ensures ∙ ap (λ l. unwrap_or (after_last_blank true l) l) c.lines_in-lines.ensures

pub returns-clause-is_rest : goal.returns-clause-is_rest
returns-clause-is_rest c =
    let gap = chars c.args.gap.now in
    let is : chars c.after_last_blank.result.now ≡ above_in c.args.before gap =
    c.after_last_blank.ensures ∙ ap (λ l. unwrap_or (after_last_blank true l) l) c.lines_in-lines.ensures in
    subst (IsRest gap) (sym is) (above_in-rest c.args.before gap)
