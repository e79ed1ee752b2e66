use Rattle.std.proofs.lemmas.Result.{err_from_is_err_and}
use Rattle.ini_text.specs.Parsing.Items.{string_text}
use Rattle.ini_file.proofs.EditLineLemmas.{name-refused, new-refused, old-refused}
use Rattle.ini_file.proofs.edit_reading.edit_of.Goals as goal

pub returns-in_err-name-clause-refused : goal.returns-in_err-name-clause-refused
returns-in_err-name-clause-refused c =
    let p = err_from_is_err_and c.from_residual.result c.from_residual.ensures.1 in
    rw (p.1, p.2) (name-refused (string_text c.args.parts.name) (string_text c.args.parts.key)
    (string_text c.args.parts.old) (string_text c.args.parts.new) _ c.in_err-name.ensures.refused)

pub returns-in_err-old-clause-refused : goal.returns-in_err-old-clause-refused
returns-in_err-old-clause-refused c =
    let p = err_from_is_err_and c.from_residual-in_err-old.result c.from_residual-in_err-old.ensures.1 in
    rw (p.1, p.2) (old-refused (string_text c.args.parts.name) (string_text c.args.parts.key)
    (string_text c.args.parts.old) (string_text c.args.parts.new) _ c.in_err-old.ensures.refused)

pub returns-in_err-new-clause-refused : goal.returns-in_err-new-clause-refused
returns-in_err-new-clause-refused c =
    let p = err_from_is_err_and c.from_residual-in_err-new.result c.from_residual-in_err-new.ensures.1 in
    rw (p.1, p.2) (new-refused (string_text c.args.parts.name) (string_text c.args.parts.key)
    (string_text c.args.parts.old) (string_text c.args.parts.new) _ c.in_err-new.ensures.refused)
