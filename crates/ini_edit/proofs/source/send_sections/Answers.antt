use Rattle.std.proofs.lemmas.Result.{err_from_is_err_and}
use Rattle.ini_text.proofs.WriteLemmas.SendLemmas.{Sending-goes_on, Sending-starts, Sending-stops}
use Rattle.ini_edit.specs.Sources.{section_text}
use Rattle.ini_edit.proofs.InPlaceLemmas.{joined-drop}
use Rattle.ini_edit.proofs.source.send_sections.Goals as goal

pub loop-section-init : goal.loop-section-init
loop-section-init g c = Sending-starts c.args.out.now _ c.requires

pub loop-section-preserved : goal.loop-section-preserved
loop-section-preserved g c =
    Sending-goes_on _ (joined-drop section_text c.args.sections.now c.loop-section.section-index
    c.section-item.result c.loop-section-test.true c.section-item.is) c.loop-section.invariant
    c.in_ok-send_to.ensures

pub returns-in_err-send_to : goal.returns-in_err-send_to
returns-in_err-send_to g c =
    let p = err_from_is_err_and c.from_residual.result c.from_residual.ensures.1 in
    rw (p.1, p.2) (Sending-stops _
    (joined-drop section_text c.args.sections.now c.loop-section.section-index c.section-item.result
    c.loop-section-test.true c.section-item.is) c.loop-section.invariant c.in_err-send_to.ensures)
