use Rattle.std.proofs.lemmas.Result.{err_from_is_err_and}
use Rattle.ini_text.proofs.WriteLemmas.SendLemmas.{Sends-cut, Sends-line, Sends-nil, Sends-then}
use Rattle.ini_text.proofs.WriteLemmas.SendLemmas.{SendsBytes-unsent}
use Rattle.ini_text.proofs.write.gather.Gatherer.put_line.Goals as goal

pub returns-then-push_line : goal.returns-then-push_line
returns-then-push_line g c =
    Sends-line c.args.policy c.args.first.now c.args.between.now c.args.second.now c.args.end.now
    c.utf8.first c.utf8.between c.utf8.second c.utf8.end
    (SendsBytes-unsent c.requires (rw c.if-push_line.true at c.push_line.ensures.pushed))

pub returns-in_err-put_part : goal.returns-in_err-put_part
returns-in_err-put_part g c =
    let p = err_from_is_err_and c.from_residual.result c.from_residual.ensures.1 in
    let nothing = Sends-nil c.requires (rw c.if-push_line.false at c.push_line.ensures.pushed) in
    rw (p.1, p.2) (Sends-then c.requires nothing (Sends-cut _ c.in_err-put_part.ensures))

pub returns : goal.returns
returns g c =
    let nothing = Sends-nil c.requires (rw c.if-push_line.false at c.push_line.ensures.pushed) in
    Sends-then c.requires nothing (Sends-then c.requires c.in_ok-put_part.ensures c.put_part-2.ensures)
