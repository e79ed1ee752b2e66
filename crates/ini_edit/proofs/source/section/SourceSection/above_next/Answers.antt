use Rattle.std.proofs.Common.{◌∙◌, subst, sym}
use Rattle.std.proofs.lemmas.Bool.{cond-true}
use Rattle.std.proofs.lemmas.Str.{chars-nil}
use Rattle.ini_text.specs.Parsing.Fronts.{IsRest}
use Rattle.ini_edit.specs.SourcePlaces.{last_before_gap, last_gap}
use Rattle.ini_edit.proofs.LayoutLemmas.{rest_before_header-rest}
use Rattle.ini_edit.proofs.SourceLineLemmas.{none_rest}
use Rattle.ini_edit.proofs.source.section.SourceSection.above_next.Goals as goal

pub returns-then-is_last-clause-rest : goal.returns-then-is_last-clause-rest
returns-then-is_last-clause-rest c = chars-nil ∙ sym (cond-true _ _ _ c.if-is_last.true)

pub returns-then-is_last-clause-is_rest : goal.returns-then-is_last-clause-is_rest
returns-then-is_last-clause-is_rest c =
    subst (IsRest (last_gap c.args.self.now)) (sym chars-nil) (none_rest (last_gap c.args.self.now))

pub returns-clause-is_rest : goal.returns-clause-is_rest
returns-clause-is_rest c =
    let s = c.args.self.now in
    subst (IsRest (last_gap s)) (sym c.rest_before_header.ensures.gap)
    (rest_before_header-rest (last_before_gap c.args.front s s.pairs) (last_gap s))
