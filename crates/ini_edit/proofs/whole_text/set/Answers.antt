use Rattle.std.proofs.Common.{chars}
use Rattle.std.proofs.lemmas.Result.{err_from_is_err_and}
use Rattle.ini.specs.Texts.{str_name}
use Rattle.ini_edit.proofs.WholeTextLemmas.{read_in_pieces}
use Rattle.ini_edit.proofs.WholeTextRefusalLemmas.{pieces_refuse_setting}
use Rattle.ini_edit.proofs.whole_text.set.Goals as goal

pub returns-in_err-set-clause-refused : goal.returns-in_err-set-clause-refused
returns-in_err-set-clause-refused c =
    let e = err_from_is_err_and c.from_residual-in_err-set.result c.from_residual-in_err-set.ensures.1 in
    let read = c.in_ok-source.ensures in
    rw (e.1, e.2)
    (pieces_refuse_setting c.args.write.now (str_name c.args.name) (chars c.args.key.now)
    (chars c.args.value.now) (read_in_pieces read.option read.text read.placed read.document)
    c.in_err-set.field-0.0 c.in_err-set.ensures.refused)
