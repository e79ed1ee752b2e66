use Rattle.std.proofs.Common.{ap}
use Rattle.ini_words.specs.Lines.{entries_of_keys}
use Rattle.std.proofs.lemmas.Result.{err_from_is_err_and}
use Rattle.ini_text.proofs.WriteLemmas.SendLemmas.{Sending-goes_on, Sending-starts, Sending-stops}
use Rattle.ini_words.proofs.lines.put_keys.Goals as goal

pub loop-key-init : goal.loop-key-init
loop-key-init g c =
    rw c.into_iter-key-iterator.ensures.into_iter_gives (Sending-starts c.args.out.now _ c.requires)

pub loop-key-preserved : goal.loop-key-preserved
loop-key-preserved g c =
    let front = ap (entries_of_keys c.args.form) c.in-Some.ensures.steps in
    Sending-goes_on _ front c.loop-key.invariant c.in_ok-put_entry.ensures

pub returns-in_err-put_entry : goal.returns-in_err-put_entry
returns-in_err-put_entry g c =
    let p = err_from_is_err_and c.from_residual.result c.from_residual.ensures.1 in
    let front = ap (entries_of_keys c.args.form) c.in-Some.ensures.steps in
    rw (p.1, p.2) (Sending-stops _ front c.loop-key.invariant c.in_err-put_entry.ensures)
