use Rattle.std.proofs.Common.{◌≡◌, ◌∙◌, List, None, Option, ap, chars, subst}
use Rattle.std.proofs.lemmas.Result.{IfErr-weaker, on_err_weaker, on_ok_weaker}
use Rattle.ini_text.specs.declared.error.Error.TheVariants as text_errors
use Rattle.ini_text.specs.declared.option.ParseOption.{ParseOption}
use Rattle.ini_text.specs.declared.write.option.WriteOption.{WriteOption}
use Rattle.ini.specs.Edits.{add_in}
use Rattle.ini.specs.Texts.{Text, str_name}
use Rattle.ini_edit.specs.SourceEditsAdded.{IsAddedIn, IsSetIn, RefusesAdding, RefusesToSetIn}
use Rattle.ini_edit.specs.SourcePlaces.{pair_place}
use Rattle.ini_edit.specs.SourceWritten.{HasForm}
use Rattle.ini_edit.specs.Sources.{SectionPiece, document_in}
use Rattle.ini_edit.specs.declared.error.EditError.{EditError}
use Rattle.ini_edit.specs.declared.error.EditError.TheVariants as errors
use Rattle.ini_edit.proofs.SetDocumentLemmas.{first_set_document, set_as_added}
use Rattle.ini_edit.proofs.source.Source.set.Goals as goal

-- what adding a pair is refused with, setting is
refused_added : (o : ParseOption) (w : WriteOption) (ss : List SectionPiece) (name : Option Text)
    (key value : Text) → HasForm o w.escape_policy value → pair_place name key 0 ss ≡ None → (e : EditError)
    → RefusesAdding o w ss name key value e → RefusesToSetIn o w ss name key value e
refused_added o w ss name key value form none errors.Value (RefusesAdding.unwritable refused) = refused.1
refused_added o w ss name key value form none (errors.Text (text_errors.Memory x)) refused = tt
refused_added o w ss name key value form none (errors.Text (text_errors.Io x)) refused =
    (form, (none, refused))
refused_added o w ss name key value form none (errors.Text (text_errors.Parse x)) refused =
    (form, (none, refused))
refused_added o w ss name key value form none (errors.Text text_errors.NotUtf8) refused =
    (form, (none, refused))
refused_added o w ss name key value form none (errors.Text text_errors.NoProgress) refused =
    (form, (none, refused))
refused_added o w ss name key value form none errors.Name refused = (form, (none, refused))
refused_added o w ss name key value form none errors.Key refused = (form, (none, refused))
refused_added o w ss name key value form none errors.Separator refused = (form, (none, refused))
refused_added o w ss name key value form none errors.NoPlace refused = (form, (none, refused))

pub returns-then-branch-clause-set : goal.returns-then-branch-clause-set
returns-then-branch-clause-set c =
    IsSetIn.in_its_place (rw c.if-branch.true at c.in_ok-set_existing.ensures.set)

pub returns-then-branch-clause-document : goal.returns-then-branch-clause-document
returns-then-branch-clause-document c = λ taken.
    first_set_document (rw taken at (rw c.if-branch.true at c.in_ok-set_existing.ensures.set).1)

pub returns-clause-set : goal.returns-clause-set
returns-clause-set c =
    let was = rw c.if-branch.false at c.in_ok-set_existing.ensures.set in
    let old = c.args.self.now in
    let name = str_name c.args.name in
    on_ok_weaker c.add.result (λ added. IsSetIn.in_new_pair was.1
    (subst (λ v. IsAddedIn v.option c.args.write.now v c.add.new.self name (chars c.args.key.now)
    (chars c.args.value.now)) was.0 added)) c.add.ensures.added

pub returns-clause-document : goal.returns-clause-document
returns-clause-document c = λ taken.
    let was = rw c.if-branch.false at c.in_ok-set_existing.ensures.set in
    let name = str_name c.args.name in
    let key = chars c.args.key.now in
    let value = chars c.args.value.now in
    on_ok_weaker c.add.result (λ added. added.document
    ∙ ap (λ v. add_in name key value (document_in v)) was.0
    ∙ set_as_added name key value c.args.self.now.sections was.1) c.add.ensures.added

pub returns-clause-writable : goal.returns-clause-writable
returns-clause-writable c =
    on_ok_weaker c.add.result (λ _. c.in_ok-set_existing.ensures.writable) c.add.ensures.added

pub returns-clause-unchanged : goal.returns-clause-unchanged
returns-clause-unchanged c =
    let was = rw c.if-branch.false at c.in_ok-set_existing.ensures.set in
    on_err_weaker c.add.result (λ same. same ∙ was.0) c.add.ensures.unchanged

pub returns-clause-refused : goal.returns-clause-refused
returns-clause-refused c =
    let was = rw c.if-branch.false at c.in_ok-set_existing.ensures.set in
    let w = c.args.write.now in
    let name = str_name c.args.name in
    let key = chars c.args.key.now in
    let value = chars c.args.value.now in
    let old = c.args.self.now in
    IfErr-weaker c.add.result _ _ (λ e refused. refused_added old.option w old.sections name key value
    c.in_ok-set_existing.ensures.writable was.1 e
    (subst (λ v. RefusesAdding v.option w v.sections name key value e) was.0 refused)) c.add.ensures.refused
