use Rattle.ini.specs.Written.{written_pairs}
use Rattle.ini_text.proofs.WriteLemmas.SendLemmas.{Sending}
use Rattle.ini.proofs.write.write_pairs.Given as goal

abbrev pub invariant-loop-key : goal.invariant-loop-key
invariant-loop-key g l =
    Sending g.W.Write.contents l.fn.out l.out l.fn.lines l.lines
    (written_pairs l.option l.pairs) (written_pairs l.option l.key-iterator)
