use Rattle.std.proofs.Common.{drop, flat_map}
use Rattle.ini_text.proofs.WriteLemmas.SendLemmas.{Sending}
use Rattle.ini_words.specs.Lines.{lent_name_entry}
use Rattle.ini_words.proofs.lines.put_given_names.Given as goal

abbrev pub invariant-loop-name : goal.invariant-loop-name
invariant-loop-name g l =
    let line = flat_map (lent_name_entry l.form) in
    Sending g.W.Write.contents l.fn.out l.out l.fn.lines l.lines
    (line l.names) (line (drop l.name-index l.names))
