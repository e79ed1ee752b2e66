use Rattle.std.proofs.Common.{ap, flat_map}
use Rattle.ini_words.specs.Lines.{name_entry}
use Rattle.std.proofs.lemmas.Result.{err_from_is_err_and}
use Rattle.ini_text.proofs.WriteLemmas.SendLemmas.{Sending-goes_on, Sending-starts, Sending-stops}
use Rattle.ini_words.proofs.lines.put_names.Goals as goal

pub loop-name-init : goal.loop-name-init
loop-name-init g c =
    rw (c.into_iter-name-iterator.ensures.into_iter_gives, c.sections-name-items.ensures.names)
    (Sending-starts c.args.out.now _ c.requires)

pub loop-name-preserved : goal.loop-name-preserved
loop-name-preserved g c =
    let front = ap (flat_map (name_entry c.args.form)) c.in-Some.ensures.steps in
    Sending-goes_on _ front c.loop-name.invariant c.in_ok-put_name.ensures

pub returns-in_err-put_name : goal.returns-in_err-put_name
returns-in_err-put_name g c =
    let p = err_from_is_err_and c.from_residual.result c.from_residual.ensures.1 in
    let front = ap (flat_map (name_entry c.args.form)) c.in-Some.ensures.steps in
    rw (p.1, p.2) (Sending-stops _ front c.loop-name.invariant c.in_err-put_name.ensures)
