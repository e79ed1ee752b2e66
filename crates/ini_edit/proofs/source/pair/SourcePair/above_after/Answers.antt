use Rattle.std.proofs.Common.{◌∙◌, ap₂, chars, subst, sym}
use Rattle.std.proofs.lemmas.Bool.{cond-false, cond-true}
use Rattle.std.proofs.lemmas.Str.{chars-nil}
use Rattle.ini_text.specs.Parsing.Fronts.{IsRest}
use Rattle.ini_edit.specs.Sorting.{above_in}
use Rattle.ini_edit.proofs.SourceLineLemmas.{none_rest}
use Rattle.ini_edit.proofs.source.pair.SourcePair.above_after.Goals as goal

pub returns-then-is_end-clause-above : goal.returns-then-is_end-clause-above
returns-then-is_end-clause-above c = chars-nil ∙ sym (cond-true _ _ _ c.if-is_end.true)

pub returns-then-is_end-clause-is_rest : goal.returns-then-is_end-clause-is_rest
returns-then-is_end-clause-is_rest c =
    subst (IsRest c.args.self.now.after) (sym chars-nil) (none_rest c.args.self.now.after)

pub returns-clause-above : goal.returns-clause-above
returns-clause-above c =
    c.above_in.ensures.above ∙ ap₂ above_in c.last_of_source.ensures c.after.ensures
    ∙ sym (cond-false _ _ _ c.if-is_end.false)

pub returns-clause-is_rest : goal.returns-clause-is_rest
returns-clause-is_rest c =
    subst (λ a. IsRest a (chars c.above_in.result.now)) c.after.ensures c.above_in.ensures.is_rest
