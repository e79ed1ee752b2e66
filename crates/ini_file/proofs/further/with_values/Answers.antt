use Rattle.std.proofs.Common.{chars}
use Rattle.std.proofs.lemmas.Result.{err_from_is_err_and}
use Rattle.ini.specs.Texts.{str_name}
use Rattle.ini_edit.proofs.WholeTextLemmas.{read_in_pieces}
use Rattle.ini_edit.proofs.WholeTextRefusalLemmas.{refusal_of}
use Rattle.ini_dialect.specs.RuledTexts.{RefusesInText}
use Rattle.ini_dialect.specs.Rules.{is_own}
use Rattle.ini_file.specs.ValueLists.{texts_in}
use Rattle.ini_file.proofs.FurtherLemmas.{remade, values_option}
use Rattle.ini_file.proofs.further.with_values.Goals as goal

pub returns-in_err-source-clause-refused : goal.returns-in_err-source-clause-refused
returns-in_err-source-clause-refused c =
    let e = err_from_is_err_and c.from_residual.result c.from_residual.ensures.1 in
    let refused = c.in_err-source.ensures in
    rw (e.1, e.2)
    (RefusesInText.reading (refusal_of _ _ c.in_err-source.field-0.0 refused.only refused.fault))

pub returns-in_err-set_values-clause-refused : goal.returns-in_err-set_values-clause-refused
returns-in_err-set_values-clause-refused c =
    let r = c.from_residual-in_err-set_values in
    let e = err_from_is_err_and r.result r.ensures.1 in
    let read = c.in_ok-source.ensures in
    rw (e.1, e.2)
    (RefusesInText.pieces (record {
      pieces = c.in_ok-source.source;
      is_read = read_in_pieces read.option read.text read.placed read.document;
      refused = c.in_err-set_values.ensures.refused;
    }))

pub returns-in_err-to_text-clause-refused : goal.returns-in_err-to_text-clause-refused
returns-in_err-to_text-clause-refused c =
    let r = c.from_residual-in_err-to_text in
    let e = err_from_is_err_and r.result r.ensures.1 in
    rw (e.1, e.2, c.in_err-to_text.ensures.only) (RefusesInText.reading tt)

pub returns-clause-made : goal.returns-clause-made
returns-clause-made c =
    let read = c.in_ok-source.ensures in
    let old = c.in_ok-source.source in
    let new = c.set_values.new.source in
    let set = c.in_ok-set_values.ensures.set in
    remade c.args.read (chars c.args.text.now) _ old new
    (read_in_pieces read.option read.text read.placed read.document) set
    (values_option (is_own c.args.rule) c.args.rule c.args.write.now (str_name c.args.name)
    (chars c.args.key.now) (texts_in c.args.values.now) old new set)
    c.in_ok-to_text.ensures.text c.in_ok-to_text.ensures.document
