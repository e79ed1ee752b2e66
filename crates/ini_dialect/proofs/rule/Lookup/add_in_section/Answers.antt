use Rattle.std.proofs.Common.{chars}
use Rattle.std.proofs.lemmas.Result.{err_from_is_err_and}
use Rattle.ini.specs.Texts.{str_name}
use Rattle.ini_dialect.specs.SourceLookups.{RefusesUnder}
use Rattle.ini_dialect.proofs.PutUnderLemmas.{adds_there}
use Rattle.ini_dialect.proofs.rule.Lookup.add_in_section.Goals as goal

pub returns-clause-added : goal.returns-clause-added
returns-clause-added c =
    adds_there c.args.self (str_name c.args.name) (chars c.args.key.now) c.args.source.now.option
    c.args.write.now (chars c.args.value.now) c.args.source.now c.add_at.new.self c.in_ok-add_at.field-0
    c.requires c.in_ok-add_at.ensures.added

pub returns-in_err-add_at-clause-refused : goal.returns-in_err-add_at-clause-refused
returns-in_err-add_at-clause-refused c =
    let p = err_from_is_err_and c.from_residual.result c.from_residual.ensures.1 in
    rw (p.1, p.2) (RefusesUnder.in_section c.requires c.in_err-add_at.ensures.refused)
