use Rattle.std.proofs.Common.{ap}
use Rattle.std.proofs.lemmas.Result.{err_from_is_err_and}
use Rattle.ini.specs.Written.{written_pairs}
use Rattle.ini_text.proofs.WriteLemmas.SendLemmas.{Sending-goes_on, Sending-starts, Sending-stops}
use Rattle.ini.proofs.write.write_pairs.Goals as goal

pub loop-key-init : goal.loop-key-init
loop-key-init g c =
    rw c.into_iter-key-iterator.ensures.into_iter_gives (Sending-starts c.args.out.now _ c.requires)

pub loop-key-preserved : goal.loop-key-preserved
loop-key-preserved g c =
    Sending-goes_on _ (ap (written_pairs c.args.option.now) c.in-Some.ensures.steps) c.loop-key.invariant
    c.in_ok-write_pair.ensures

pub returns-in_err-write_pair : goal.returns-in_err-write_pair
returns-in_err-write_pair g c =
    let p = err_from_is_err_and c.from_residual.result c.from_residual.ensures.1 in
    rw (p.1, p.2) (Sending-stops _ (ap (written_pairs c.args.option.now) c.in-Some.ensures.steps)
    c.loop-key.invariant c.in_err-write_pair.ensures)
