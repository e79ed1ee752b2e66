use Rattle.std.proofs.lemmas.Result.{err_from_is_err_and}
use Rattle.ini_text.proofs.WriteLemmas.SendLemmas.{Sending-goes_on, Sending-starts, Sending-stops}
use Rattle.ini.proofs.WritingLemmas.{flat_map-drop}
use Rattle.ini_words.specs.Lines.{text_entry}
use Rattle.ini_words.proofs.lines.put_entries.Goals as goal

pub loop-text-init : goal.loop-text-init
loop-text-init g c = Sending-starts c.args.out.now _ c.requires

pub loop-text-preserved : goal.loop-text-preserved
loop-text-preserved g c =
    let front = flat_map-drop (text_entry c.args.form) c.args.texts.now c.loop-text.text-index _
    c.loop-text-test.true in
    Sending-goes_on _ front c.loop-text.invariant c.in_ok-put_entry.ensures

pub returns-in_err-put_entry : goal.returns-in_err-put_entry
returns-in_err-put_entry g c =
    let p = err_from_is_err_and c.from_residual.result c.from_residual.ensures.1 in
    let front = flat_map-drop (text_entry c.args.form) c.args.texts.now c.loop-text.text-index _
    c.loop-text-test.true in
    rw (p.1, p.2) (Sending-stops _ front c.loop-text.invariant c.in_err-put_entry.ensures)
