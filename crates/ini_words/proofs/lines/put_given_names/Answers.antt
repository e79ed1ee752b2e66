use Rattle.std.proofs.lemmas.Result.{err_from_is_err_and}
use Rattle.ini_text.proofs.WriteLemmas.SendLemmas.{Sending-goes_on, Sending-starts, Sending-stops}
use Rattle.ini.proofs.WritingLemmas.{flat_map-drop}
use Rattle.ini_words.specs.Lines.{lent_name_entry}
use Rattle.ini_words.proofs.lines.put_given_names.Goals as goal

pub loop-name-init : goal.loop-name-init
loop-name-init g c = Sending-starts c.args.out.now _ c.requires

pub loop-name-preserved : goal.loop-name-preserved
loop-name-preserved g c =
    let front = flat_map-drop (lent_name_entry c.args.form) c.args.names.now c.loop-name.name-index _
    c.loop-name-test.true in
    Sending-goes_on _ front c.loop-name.invariant c.in_ok-put_name.ensures

pub returns-in_err-put_name : goal.returns-in_err-put_name
returns-in_err-put_name g c =
    let p = err_from_is_err_and c.from_residual.result c.from_residual.ensures.1 in
    let front = flat_map-drop (lent_name_entry c.args.form) c.args.names.now c.loop-name.name-index _
    c.loop-name-test.true in
    rw (p.1, p.2) (Sending-stops _ front c.loop-name.invariant c.in_err-put_name.ensures)
