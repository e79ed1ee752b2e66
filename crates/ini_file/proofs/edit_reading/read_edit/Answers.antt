use Rattle.std.proofs.Common.{chars}
use Rattle.std.proofs.lemmas.Result.{err_from_is_err_and}
use Rattle.ini_text.specs.Parsing.Items.{string_text}
use Rattle.ini_file.specs.EditLines.{change_read}
use Rattle.ini_file.proofs.EditLineLemmas.{edit-made, no-parts}
use Rattle.ini_file.proofs.edit_reading.read_edit.Goals as goal

pub returns-in_err-edit-clause-refused : goal.returns-in_err-edit-clause-refused
returns-in_err-edit-clause-refused c =
    let p = err_from_is_err_and c.from_residual-in_err-edit.result c.from_residual-in_err-edit.ensures.1 in
    rw (p.1, p.2) (no-parts (chars c.args.text.now) (string_text c.in_ok-parts.parts.name)
    (string_text c.in_ok-parts.parts.key) (string_text c.in_ok-parts.parts.old)
    (string_text c.in_ok-parts.parts.new) (chars c.in_ok-parts.rest.now) _ c.in_ok-parts.ensures.parts
    c.in_err-edit.ensures.refused)

pub returns-clause-edit : goal.returns-clause-edit
returns-clause-edit c =
    edit-made (chars c.args.text.now) (string_text c.in_ok-parts.parts.name)
    (string_text c.in_ok-parts.parts.key) (string_text c.in_ok-parts.parts.old)
    (string_text c.in_ok-parts.parts.new) (chars c.in_ok-parts.rest.now) c.in_ok-parts.ensures.parts
    (change_read c.in_ok-edit.edit) c.in_ok-edit.ensures.edit
