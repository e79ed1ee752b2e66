use Rattle.std.proofs.Common.{ap, subst}
use Rattle.std.proofs.lemmas.Result.{err_from_is_err_and}
use Rattle.ini_text.specs.Device.Gathering.{Sends}
use Rattle.ini_text.specs.Grammar.Places.{separator_text}
use Rattle.ini_text.proofs.WriteLemmas.SendLemmas.{Sends-cut, Sends-then}
use Rattle.ini_edit.proofs.SendingLemmas.{pair_parts, sent_as}
use Rattle.ini_edit.proofs.source.pair.SourcePair.send_to.Goals as goal

pub returns-in_err-put_before : goal.returns-in_err-put_before
returns-in_err-put_before g c =
    let e = err_from_is_err_and c.from_residual.result c.from_residual.ensures.1 in
    rw (e.1, e.2) (subst (Sends _ _ _ _ _ _) (pair_parts c.args.self.now)
    (Sends-cut _ (Sends-cut _ (Sends-cut _ (sent_as c.raw_key.ensures (ap separator_text c.separator.ensures)
    c.in_err-put_before.ensures)))))

pub returns-in_err-put_both : goal.returns-in_err-put_both
returns-in_err-put_both g c =
    let e =
    err_from_is_err_and c.from_residual-in_err-put_both.result c.from_residual-in_err-put_both.ensures.1 in
    rw (e.1, e.2) (subst (Sends _ _ _ _ _ _) (pair_parts c.args.self.now)
    (Sends-cut _ (Sends-cut _ (Sends-then c.requires
    (sent_as c.raw_key.ensures (ap separator_text c.separator.ensures) c.in_ok-put_before.ensures)
    (sent_as c.space_before.ensures c.raw_value.ensures
    c.in_err-put_both.ensures)))))

pub returns-in_err-put_both-2 : goal.returns-in_err-put_both-2
returns-in_err-put_both-2 g c =
    let e =
    err_from_is_err_and c.from_residual-in_err-put_both-2.result
    c.from_residual-in_err-put_both-2.ensures.1 in
    rw (e.1, e.2) (subst (Sends _ _ _ _ _ _) (pair_parts c.args.self.now)
    (Sends-cut _ (Sends-then c.requires (Sends-then c.requires
    (sent_as c.raw_key.ensures (ap separator_text c.separator.ensures) c.in_ok-put_before.ensures)
    (sent_as c.space_before.ensures c.raw_value.ensures
    c.in_ok-put_both.ensures))
    (sent_as c.space_after.ensures c.note.ensures
    c.in_err-put_both-2.ensures))))

pub returns : goal.returns
returns g c =
    subst (Sends _ _ _ _ _ _) (pair_parts c.args.self.now)
    (Sends-then c.requires (Sends-then c.requires (Sends-then c.requires
    (sent_as c.raw_key.ensures (ap separator_text c.separator.ensures) c.in_ok-put_before.ensures)
    (sent_as c.space_before.ensures c.raw_value.ensures
    c.in_ok-put_both.ensures))
    (sent_as c.space_after.ensures c.note.ensures
    c.in_ok-put_both-2.ensures))
    (sent_as c.trailing_lines.ensures c.after.ensures
    c.put_both-3.ensures))
