use Rattle.std.proofs.Common.{◌≡◌, subst}
use Rattle.std.proofs.lemmas.Result.{IfOk-weaker}
use Rattle.ini_text.specs.declared.option.ParseOption.{ParseOption}
use Rattle.ini.specs.Documents.{Document}
use Rattle.ini.specs.Texts.{Text}
use Rattle.ini_edit.specs.Sources.{Pieces}
use Rattle.ini_edit.specs.WholeTexts.{IsEditedText, LoadsEdited}
use Rattle.ini_examples.proofs.edited_text.with_port.Goals as goal

loads : {o p : ParseOption} {T U : Text} {makes : Pieces → Pieces → Type 0} {edit : Document → Document}
    → o ≡ p → IsEditedText o T U makes edit → LoadsEdited p T U edit
loads {T = T} {U} {edit = edit} is edited = subst (λ o. LoadsEdited o T U edit) is edited.loads

pub returns : goal.returns
returns c =
    IfOk-weaker c.set.result _ _ (λ new edited. loads c.default-read.ensures edited) c.set.ensures.edited
