use Rattle.ini.specs.Written.{written, written_sections}
use Rattle.ini_text.proofs.WriteLemmas.SendLemmas.{Sending}
use Rattle.ini.proofs.write.write_sections.Given as goal

abbrev pub invariant-loop-name : goal.invariant-loop-name
invariant-loop-name g l =
    Sending g.W.Write.contents l.fn.out l.out l.fn.lines l.lines
    (written l.document l.option) (written_sections l.option l.earlier l.name-iterator)
