use Rattle.std.proofs.Common.{◌∙◌, ◌&&◌, ap₂, subst, sym}
use Rattle.std.proofs.lemmas.Bool.{cond-true}
use Rattle.std.proofs.lemmas.Str.{chars-nil}
use Rattle.ini_text.specs.Parsing.Fronts.{IsRest}
use Rattle.ini_edit.proofs.SourceLineLemmas.{none_rest}
use Rattle.ini_edit.proofs.source.section.SourceSection.first_above.Goals as goal

pub returns-then-is_bare-clause-above : goal.returns-then-is_bare-clause-above
returns-then-is_bare-clause-above c =
    let bare = sym c.is_bare.ensures ∙ c.if-is_bare.true in
    chars-nil ∙ sym (cond-true _ _ _ (ap₂ (λ a b. a && b) c.if-is_last.true bare))

pub returns-then-is_bare-clause-is_rest : goal.returns-then-is_bare-clause-is_rest
returns-then-is_bare-clause-is_rest c =
    subst (IsRest c.args.self.now.after) (sym chars-nil) (none_rest c.args.self.now.after)
