use Rattle.std.proofs.lemmas.Result.{err_from_is_err_and}
use Rattle.ini_text.proofs.WriteLemmas.SendLemmas.{Sending-goes_on, Sending-starts, Sending-stops}
use Rattle.ini_edit.specs.Sources.{pair_text}
use Rattle.ini_edit.proofs.InPlaceLemmas.{joined-drop}
use Rattle.ini_edit.proofs.source.section.send_pairs.Goals as goal

pub loop-pair-init : goal.loop-pair-init
loop-pair-init g c = Sending-starts c.args.out.now _ c.requires

pub loop-pair-preserved : goal.loop-pair-preserved
loop-pair-preserved g c =
    Sending-goes_on _ (joined-drop pair_text c.args.pairs.now c.loop-pair.pair-index c.pair-item.result
    c.loop-pair-test.true c.pair-item.is) c.loop-pair.invariant c.in_ok-send_to.ensures

pub returns-in_err-send_to : goal.returns-in_err-send_to
returns-in_err-send_to g c =
    let p = err_from_is_err_and c.from_residual.result c.from_residual.ensures.1 in
    rw (p.1, p.2) (Sending-stops _
    (joined-drop pair_text c.args.pairs.now c.loop-pair.pair-index c.pair-item.result
    c.loop-pair-test.true c.pair-item.is) c.loop-pair.invariant c.in_err-send_to.ensures)
