use Rattle.std.proofs.Common.{◌∙◌, ap, ap₂, chars, subst, sym}
use Rattle.ini.specs.Loading.{IsStopOf}
use Rattle.ini.specs.Texts.{is_text}
use Rattle.ini_edit.specs.Inside.SourceLayouts.{all_same, says_same_section}
use Rattle.ini_edit.specs.WholeTexts.{IsReadInPieces}
use Rattle.ini_edit.proofs.LaidOutLemmas.{keeps_all, loses_differs, loses_stops, loses_unsteady}
use Rattle.ini_edit.proofs.WholeTextLemmas.{read_in_pieces}
use Rattle.ini_edit.proofs.source.Source.loss_in.Goals as goal

pub returns-in-Err-Parse-clause-found : goal.returns-in-Err-Parse-clause-found
returns-in-Err-Parse-clause-found c =
    loses_stops c.requires.laid
    (subst (λ o. IsStopOf o (chars c.args.laid.now) c.in-Err-Parse.field-0-0)
    (ap (λ v. v.option) c.self.view_is) (rw c.in-Err-Parse.field-0-is at c.in-Err-Parse.ensures.fault))

pub returns-then-not-branch-clause-found : goal.returns-then-not-branch-clause-found
returns-then-not-branch-clause-found c =
    let read = c.in-Ok.ensures in
    loses_differs c.requires.laid
    (subst (λ o. IsReadInPieces o (chars c.args.laid.now) c.in-Ok.new) (ap (λ v. v.option) c.self.view_is)
    (read_in_pieces read.option read.text read.placed read.document))
    (sym (c.in_ok-say_same_sections.ensures.same
    ∙ ap₂ (all_same says_same_section) c.sections.ensures c.sections-2.ensures) ∙ c.if-not-branch.true)

pub returns-then-is_same_text-clause-found : goal.returns-then-is_same_text-clause-found
returns-then-is_same_text-clause-found c =
    let read = c.in-Ok.ensures in
    keeps_all c.requires.laid
    (subst (λ o. IsReadInPieces o (chars c.args.laid.now) c.in-Ok.new) (ap (λ v. v.option) c.self.view_is)
    (read_in_pieces read.option read.text read.placed read.document)) c.in_ok-again.ensures.text
    (sym (ap (λ b. is_text (chars b) (chars c.args.laid.now)) c.as_str.ensures.value)
    ∙ sym c.is_same_text.ensures ∙ c.if-is_same_text.true)
    (sym (c.in_ok-say_same_sections.ensures.same
    ∙ ap₂ (all_same says_same_section) c.sections.ensures c.sections-2.ensures) ∙ c.if-not-branch.false)

pub returns-clause-found : goal.returns-clause-found
returns-clause-found c =
    let read = c.in-Ok.ensures in
    loses_unsteady c.requires.laid
    (subst (λ o. IsReadInPieces o (chars c.args.laid.now) c.in-Ok.new) (ap (λ v. v.option) c.self.view_is)
    (read_in_pieces read.option read.text read.placed read.document)) c.in_ok-again.ensures.text
    (sym (ap (λ b. is_text (chars b) (chars c.args.laid.now)) c.as_str.ensures.value)
    ∙ sym c.is_same_text.ensures ∙ c.if-is_same_text.false)
    (sym (c.in_ok-say_same_sections.ensures.same
    ∙ ap₂ (all_same says_same_section) c.sections.ensures c.sections-2.ensures) ∙ c.if-not-branch.false)
