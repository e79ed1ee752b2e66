use Rattle.std.proofs.lemmas.Result.{err_from_is_err_and}
use Rattle.ini_text.proofs.WriteLemmas.SendLemmas.{Sending-goes_on, Sending-starts, Sending-stops}
use Rattle.ini.proofs.WritingLemmas.{flat_map-drop}
use Rattle.ini_words.specs.Prints.{part_text}
use Rattle.ini_words.proofs.lines.parts.put_parts.Goals as goal

pub loop-text-init : goal.loop-text-init
loop-text-init g c = Sending-starts c.args.out.now _ c.requires

pub loop-text-preserved : goal.loop-text-preserved
loop-text-preserved g c =
    let front = flat_map-drop (part_text c.args.form) c.args.parts.now c.loop-text.text-index _
    c.loop-text-test.true in
    Sending-goes_on _ front c.loop-text.invariant c.in_ok-put_part.ensures

pub returns-in_err-put_part : goal.returns-in_err-put_part
returns-in_err-put_part g c =
    let p = err_from_is_err_and c.from_residual.result c.from_residual.ensures.1 in
    let front = flat_map-drop (part_text c.args.form) c.args.parts.now c.loop-text.text-index _
    c.loop-text-test.true in
    rw (p.1, p.2) (Sending-stops _ front c.loop-text.invariant c.in_err-put_part.ensures)
