use Rattle.std.proofs.Common.{ap}
use Rattle.std.proofs.lemmas.Result.{err_from_is_err_and}
use Rattle.ini.specs.Written.{written_sections}
use Rattle.ini_text.proofs.WriteLemmas.SendLemmas.{Sending-goes_on, Sending-starts, Sending-stops}
use Rattle.ini.proofs.write.write_sections.Goals as goal

pub loop-name-init : goal.loop-name-init
loop-name-init g c =
    rw c.into_iter-name-iterator.ensures.into_iter_gives (Sending-starts c.args.out.now _ c.requires)

pub loop-name-preserved : goal.loop-name-preserved
loop-name-preserved g c =
    rw c.is_empty.ensures (Sending-goes_on _
    (ap (written_sections c.args.option.now c.loop-name.earlier) c.in-Some.ensures.steps)
    c.loop-name.invariant c.in_ok-write_section.ensures)

pub returns-in_err-write_section : goal.returns-in_err-write_section
returns-in_err-write_section g c =
    let p = err_from_is_err_and c.from_residual.result c.from_residual.ensures.1 in
    rw (p.1, p.2) (Sending-stops _
    (ap (written_sections c.args.option.now c.loop-name.earlier) c.in-Some.ensures.steps)
    c.loop-name.invariant c.in_err-write_section.ensures)
