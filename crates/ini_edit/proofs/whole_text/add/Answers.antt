use Rattle.std.proofs.Common.{chars}
use Rattle.std.proofs.lemmas.Result.{err_from_is_err_and}
use Rattle.ini.specs.Texts.{str_name}
use Rattle.ini_edit.specs.WholeTexts.{RefusesToAddTo}
use Rattle.ini_edit.proofs.WholeTextLemmas.{read_in_pieces}
use Rattle.ini_edit.proofs.WholeTextRefusalLemmas.{pieces_refuse_adding, refusal_of, text_refuses_adding}
use Rattle.ini_edit.proofs.whole_text.add.Goals as goal

pub returns-in_err-check_pair-clause-refused : goal.returns-in_err-check_pair-clause-refused
returns-in_err-check_pair-clause-refused c =
    let e = err_from_is_err_and c.from_residual.result c.from_residual.ensures.1 in
    rw (e.1, e.2) (RefusesToAddTo.words c.in_err-check_pair.ensures.refused)

pub returns-in_err-source-clause-refused : goal.returns-in_err-source-clause-refused
returns-in_err-source-clause-refused c =
    let e =
    err_from_is_err_and c.from_residual-in_err-source.result c.from_residual-in_err-source.ensures.1 in
    let refused = c.in_err-source.ensures in
    rw (e.1, e.2) (text_refuses_adding c.args.write.now (str_name c.args.name) (chars c.args.key.now)
    (chars c.args.value.now) c.in_err-source.field-0.0 c.in_ok-check_pair.ensures.writable
    (refusal_of _ _ c.in_err-source.field-0.0 refused.only refused.fault))

pub returns-in_err-add-clause-refused : goal.returns-in_err-add-clause-refused
returns-in_err-add-clause-refused c =
    let e = err_from_is_err_and c.from_residual-in_err-add.result c.from_residual-in_err-add.ensures.1 in
    let read = c.in_ok-source.ensures in
    rw (e.1, e.2)
    (pieces_refuse_adding c.args.write.now (str_name c.args.name) (chars c.args.key.now)
    (chars c.args.value.now) (read_in_pieces read.option read.text read.placed read.document)
    c.in_err-add.ensures.refused)

pub returns-in_err-to_text-clause-refused : goal.returns-in_err-to_text-clause-refused
returns-in_err-to_text-clause-refused c =
    let e =
    err_from_is_err_and c.from_residual-in_err-to_text.result c.from_residual-in_err-to_text.ensures.1 in
    rw (e.1, e.2, c.in_err-to_text.ensures.only) (RefusesToAddTo.words tt)
