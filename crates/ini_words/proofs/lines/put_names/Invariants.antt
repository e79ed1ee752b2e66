use Rattle.std.proofs.Common.{flat_map}
use Rattle.ini_words.specs.Lines.{name_entries, name_entry}
use Rattle.ini_text.proofs.WriteLemmas.SendLemmas.{Sending}
use Rattle.ini_words.proofs.lines.put_names.Given as goal

abbrev pub invariant-loop-name : goal.invariant-loop-name
invariant-loop-name g l =
    Sending g.W.Write.contents l.fn.out l.out l.fn.lines l.lines
    (name_entries l.form l.document) (flat_map (name_entry l.form) l.name-iterator)
