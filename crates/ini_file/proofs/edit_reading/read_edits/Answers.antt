use Rattle.std.proofs.Common.{◌≡◌, ◌∙◌, [], arith, chars, length, map, sym}
use Rattle.std.proofs.lemmas.Grind.{common_steps}
use Rattle.std.proofs.lemmas.List.{length-map}
use Rattle.std.proofs.lemmas.Option.{MatchOption-at_none}
use Rattle.std.proofs.lemmas.Result.{err_from_is_err_and}
use Rattle.ini_file.specs.EditLines.{change_read}
use Rattle.ini_file.proofs.EditLineLemmas.{edits-same, next-refused, read-whole, refused-same}
use Rattle.ini_file.proofs.edit_reading.read_edits.Goals as goal

pub returns-in_err-edit-clause-same : goal.returns-in_err-edit-clause-same
returns-in_err-edit-clause-same c =
    let p = err_from_is_err_and c.from_residual.result c.from_residual.ensures.1 in
    let count : c.len.result ≡ length (map change_read c.edits.edits.items) =
    grind (arith, common_steps, length-map c.edits.edits.items change_read) in
    λ all e. rw (p.1, p.2) (refused-same (chars c.args.text.now) _ all (next-refused (chars c.args.text.now)
    (map change_read c.edits.edits.items) (chars c.edits.rest.now) c.len.result _ c.edits.invariant.read count
    c.in_err-edit.ensures.refused) e)

pub returns-clause-edits : goal.returns-clause-edits
returns-clause-edits c =
    read-whole (chars c.args.text.now) (map change_read c.edits.edits.items) (chars c.edits.rest.now)
    c.edits.invariant.read
    (MatchOption-at_none (chars c.edits.rest.now ≡ []) _ c.in_default.is c.in_ok-edit.ensures.edit)

pub returns-clause-same : goal.returns-clause-same
returns-clause-same c all e =
    edits-same (map change_read c.edits.edits.items) all (sym (read-whole (chars c.args.text.now)
    (map change_read c.edits.edits.items) (chars c.edits.rest.now) c.edits.invariant.read
    (MatchOption-at_none (chars c.edits.rest.now ≡ []) _ c.in_default.is c.in_ok-edit.ensures.edit)) ∙ e)
