use Rattle.std.proofs.Common.{chars}
use Rattle.std.proofs.lemmas.Result.{err_from_is_err_and}
use Rattle.ini_text.specs.Parsing.Items.{string_text}
use Rattle.ini_file.proofs.EditLineLemmas.{no-key, no-new, no-old}
use Rattle.ini_file.proofs.edit_reading.read_parts.Goals as goal

pub returns-in_err-key-clause-refused : goal.returns-in_err-key-clause-refused
returns-in_err-key-clause-refused c =
    let p = err_from_is_err_and c.from_residual-in_err-key.result c.from_residual-in_err-key.ensures.1 in
    rw (p.1, p.2) (no-key _ (string_text c.in_ok-name.name) (chars c.in_ok-name.rest.now) _
    c.in_ok-name.ensures.field c.in_err-key.ensures.refused)

pub returns-in_err-old-clause-refused : goal.returns-in_err-old-clause-refused
returns-in_err-old-clause-refused c =
    let p = err_from_is_err_and c.from_residual-in_err-old.result c.from_residual-in_err-old.ensures.1 in
    rw (p.1, p.2) (no-old _ (string_text c.in_ok-name.name) (chars c.in_ok-name.rest.now)
    (string_text c.in_ok-key.key) (chars c.in_ok-key.rest.now) _ c.in_ok-name.ensures.field
    c.in_ok-key.ensures.field c.in_err-old.ensures.refused)

pub returns-in_err-new-clause-refused : goal.returns-in_err-new-clause-refused
returns-in_err-new-clause-refused c =
    let p = err_from_is_err_and c.from_residual-in_err-new.result c.from_residual-in_err-new.ensures.1 in
    rw (p.1, p.2) (no-new _ (string_text c.in_ok-name.name) (chars c.in_ok-name.rest.now)
    (string_text c.in_ok-key.key) (chars c.in_ok-key.rest.now) (string_text c.in_ok-old.old)
    (chars c.in_ok-old.rest.now) _ c.in_ok-name.ensures.field c.in_ok-key.ensures.field
    c.in_ok-old.ensures.field c.in_err-new.ensures.refused)
