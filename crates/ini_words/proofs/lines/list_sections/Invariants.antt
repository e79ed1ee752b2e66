use Rattle.ini_words.specs.Lines.{listed_pairs}
use Rattle.ini_text.proofs.WriteLemmas.SendLemmas.{Sending}
use Rattle.ini_words.proofs.lines.list_sections.Given as goal

abbrev pub invariant-loop-name : goal.invariant-loop-name
invariant-loop-name g l =
    Sending g.W.Write.contents l.fn.out l.out l.fn.lines l.lines
    (listed_pairs l.form l.document) (listed_pairs l.form l.name-iterator)
