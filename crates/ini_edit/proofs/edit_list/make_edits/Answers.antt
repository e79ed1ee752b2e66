use Rattle.std.proofs.Common.{◌∙◌, chars, map, refl, subst}
use Rattle.std.proofs.lemmas.Result.{IfErr-weaker, IfOk-weaker, err_from_is_err_and}
use Rattle.ini_text.specs.Parsing.Items.{string_text}
use Rattle.ini.specs.Loading.{IsDocumentOf}
use Rattle.ini_edit.specs.Editings.{editing_of}
use Rattle.ini_edit.specs.Made.{all_made_in}
use Rattle.ini_edit.specs.Sources.{document_in}
use Rattle.ini_edit.specs.WholeTexts.{MakesText, RefusesText}
use Rattle.ini_edit.proofs.EditListLemmas.{are_made_document, first_refused, loads_any, memory_refused}
use Rattle.ini_edit.proofs.EditListLemmas.{none_made}
use Rattle.ini_edit.proofs.WholeTextLemmas.{read_in_pieces}
use Rattle.ini_edit.proofs.edit_list.make_edits.Goals as goal

pub returns-in_default-clause-made : goal.returns-in_default-clause-made
returns-in_default-clause-made c =
    let none = c.in_default.ensures.value in
    IfOk-weaker c.copied.result _ _
    (λ new is. none_made c.args.read c.args.write.now c.args.edits.now (chars c.args.text.now) none is.0 is.1)
    c.copied.ensures.text

pub returns-in_default-clause-refused : goal.returns-in_default-clause-refused
returns-in_default-clause-refused c =
    IfErr-weaker c.copied.result _ _
    (λ refused is. memory_refused c.args.read c.args.write.now c.args.edits.now (chars c.args.text.now)
    refused is) c.copied.ensures.only

pub returns-in-Err-clause-refused : goal.returns-in-Err-clause-refused
returns-in-Err-clause-refused c =
    first_refused c.args.read c.args.write.now c.args.edits.now (chars c.args.text.now) c.in-Some.first.now
    c.refused_by.result c.in-Some.ensures.value c.refused_by.ensures.index c.refused_by.ensures.refused

pub returns-in_err-found-clause-refused : goal.returns-in_err-found-clause-refused
returns-in_err-found-clause-refused c =
    let e = err_from_is_err_and c.from_residual.result c.from_residual.ensures.1 in
    let read = c.in-Ok.ensures in
    rw (e.1, e.2) (RefusesText.pieces (record {
      pieces = c.in-Ok.source;
      is_read = read_in_pieces read.option read.text read.placed read.document;
      refused = c.in_err-found.ensures.refused;
    }))

pub returns-in-Ok-to_text-clause-made : goal.returns-in-Ok-to_text-clause-made
returns-in-Ok-to_text-clause-made c =
    let read = c.in-Ok.ensures in
    MakesText.some c.in-Ok.source c.make_each.new.self
    (read_in_pieces read.option read.text read.placed read.document)
    c.in_ok-found.ensures.made c.in-Ok-to_text.ensures.text

pub returns-in-Ok-to_text-clause-loads : goal.returns-in-Ok-to_text-clause-loads
returns-in-Ok-to_text-clause-loads c = λ d is.
    let read = c.in-Ok.ensures in
    let made = are_made_document c.in_ok-found.ensures.made in
    let U = string_text c.in-Ok-to_text.text in
    let edit = all_made_in (map editing_of c.args.edits.now) c.in_ok-found.found.items in
    loads_any edit d read.document is
    (subst (IsDocumentOf c.args.read U) made.1
    (subst (λ x. IsDocumentOf x U (document_in c.make_each.new.self)) (made.0 ∙ read.option)
    c.in-Ok-to_text.ensures.document))

pub returns-clause-refused : goal.returns-clause-refused
returns-clause-refused c =
    memory_refused c.args.read c.args.write.now c.args.edits.now (chars c.args.text.now) c.at_first.result
    (rw (c.at_first.ensures, c.into.ensures, c.in-Err-to_text.ensures.only) refl)
