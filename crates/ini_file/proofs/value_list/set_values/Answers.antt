use Rattle.std.proofs.Common.{◌∙◌, chars, refl, sym}
use Rattle.std.proofs.lemmas.Result.{err_from_is_err_and}
use Rattle.ini.specs.Texts.{str_name}
use Rattle.ini_edit.specs.SourceEditsAdded.{RefusesOneValue}
use Rattle.ini_dialect.specs.Rules.{is_own}
use Rattle.ini_file.specs.ValueLists.{texts_in}
use Rattle.ini_file.proofs.ValueListLemmas.{own_refused}
use Rattle.ini_file.proofs.value_list.set_values.Goals as goal

pub returns-in_err-texts-clause-refused : goal.returns-in_err-texts-clause-refused
returns-in_err-texts-clause-refused c =
    let p = err_from_is_err_and c.from_residual.result c.from_residual.ensures.1 in
    rw (p.1, p.2)
    (own_refused c.args.rule c.args.write.now (str_name c.args.name) (chars c.args.key.now)
    (is_own c.args.rule) (sym c.is_own.ensures ∙ c.if-is_own.true) (texts_in c.args.values.now)
    (texts_in c.args.values.now) refl c.args.source.now _ RefusesOneValue.no_memory)
