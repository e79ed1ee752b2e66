use Rattle.ini_words.specs.Lines.{entries_of_keys}
use Rattle.ini_text.proofs.WriteLemmas.SendLemmas.{Sending}
use Rattle.ini_words.proofs.lines.put_keys.Given as goal

abbrev pub invariant-loop-key : goal.invariant-loop-key
invariant-loop-key g l =
    Sending g.W.Write.contents l.fn.out l.out l.fn.lines l.lines
    (entries_of_keys l.form l.pairs) (entries_of_keys l.form l.key-iterator)
