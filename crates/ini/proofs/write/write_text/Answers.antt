use Rattle.std.proofs.lemmas.Result.{err_from_is_err_and}
use Rattle.ini_text.proofs.WriteLemmas.SendLemmas.{Sends-flushed, Sends-refused, at_ok}
use Rattle.ini.proofs.write.write_text.Goals as goal

pub returns-in_err-write_sections-clause-bytes : goal.returns-in_err-write_sections-clause-bytes
returns-in_err-write_sections-clause-bytes g c =
    let p = err_from_is_err_and c.from_residual.result c.from_residual.ensures.1 in
    rw (p.1, p.2) (Sends-refused c.new-lines.ensures c.in_err-write_sections.ensures)

pub returns-clause-bytes : goal.returns-clause-bytes
returns-clause-bytes g c =
    Sends-flushed c.requires c.new-lines.ensures c.in_ok-write_sections.ensures c.flush.ensures.sends
    c.flush.ensures.empty

pub returns-clause-characters : goal.returns-clause-characters
returns-clause-characters g c = at_ok c.flush.result c.in_ok-write_sections.ensures.characters
