use Rattle.std.proofs.Common.{ap, flat_map}
use Rattle.ini.specs.Texts.{str_name}
use Rattle.ini_words.specs.Lines.{listed_pair}
use Rattle.std.proofs.lemmas.Result.{err_from_is_err_and}
use Rattle.ini_text.proofs.WriteLemmas.SendLemmas.{Sending-goes_on, Sending-starts, Sending-stops}
use Rattle.ini_words.proofs.lines.list_pairs.Goals as goal

pub loop-key-init : goal.loop-key-init
loop-key-init g c =
    rw c.into_iter-key-iterator.ensures.into_iter_gives (Sending-starts c.args.out.now _ c.requires)

pub loop-key-preserved : goal.loop-key-preserved
loop-key-preserved g c =
    let front = ap (flat_map (listed_pair c.args.form (str_name c.args.name))) c.in-Some.ensures.steps in
    Sending-goes_on _ front c.loop-key.invariant c.in_ok-list_pair.ensures

pub returns-in_err-list_pair : goal.returns-in_err-list_pair
returns-in_err-list_pair g c =
    let p = err_from_is_err_and c.from_residual.result c.from_residual.ensures.1 in
    let front = ap (flat_map (listed_pair c.args.form (str_name c.args.name))) c.in-Some.ensures.steps in
    rw (p.1, p.2) (Sending-stops _ front c.loop-key.invariant c.in_err-list_pair.ensures)
