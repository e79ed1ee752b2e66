use Rattle.std.proofs.Common.{subst}
use Rattle.std.proofs.lemmas.Result.{err_from_is_err_and}
use Rattle.std.specs.Str.{chars}
use Rattle.ini_text.specs.Device.Gathering.{Sends}
use Rattle.ini_text.proofs.WriteLemmas.SendLemmas.{Sends-cut, Sends-then}
use Rattle.ini.proofs.WritingLemmas.{header_parts}
use Rattle.ini.proofs.write.write_header.Goals as goal

pub returns-in_err-put : goal.returns-in_err-put
returns-in_err-put g c =
    let p = err_from_is_err_and c.from_residual.result c.from_residual.ensures.1 in
    rw (p.1, p.2) (subst (Sends _ _ _ _ _ _) (header_parts c.args.option.now (chars c.args.name.now))
    (Sends-cut _ (Sends-cut _ (Sends-cut _ c.in_err-put.ensures))))

pub returns-in_err-put_escaped : goal.returns-in_err-put_escaped
returns-in_err-put_escaped g c =
    let p =
    err_from_is_err_and c.from_residual-in_err-put_escaped.result
    c.from_residual-in_err-put_escaped.ensures.1 in
    rw (p.1, p.2) (subst (Sends _ _ _ _ _ _) (header_parts c.args.option.now (chars c.args.name.now))
    (Sends-cut _ (Sends-cut _ (Sends-then c.requires c.in_ok-put.ensures c.in_err-put_escaped.ensures))))

pub returns-in_err-put-2 : goal.returns-in_err-put-2
returns-in_err-put-2 g c =
    let p = err_from_is_err_and c.from_residual-in_err-put-2.result c.from_residual-in_err-put-2.ensures.1 in
    rw (p.1, p.2) (subst (Sends _ _ _ _ _ _) (header_parts c.args.option.now (chars c.args.name.now))
    (Sends-cut _ (Sends-then c.requires
    (Sends-then c.requires c.in_ok-put.ensures c.in_ok-put_escaped.ensures) c.in_err-put-2.ensures)))

pub returns : goal.returns
returns g c =
    subst (Sends _ _ _ _ _ _) (header_parts c.args.option.now (chars c.args.name.now))
    (Sends-then c.requires (Sends-then c.requires
    (Sends-then c.requires c.in_ok-put.ensures c.in_ok-put_escaped.ensures) c.in_ok-put-2.ensures)
    (simp c.as_str.ensures at c.put-3.ensures))
