use Rattle.std.proofs.Common.{drop, flat_map}
use Rattle.ini_text.proofs.WriteLemmas.SendLemmas.{Sending}
use Rattle.ini_words.specs.Lines.{text_entry}
use Rattle.ini_words.proofs.lines.put_entries.Given as goal

abbrev pub invariant-loop-text : goal.invariant-loop-text
invariant-loop-text g l =
    let line = flat_map (text_entry l.form) in
    Sending g.W.Write.contents l.fn.out l.out l.fn.lines l.lines
    (line l.texts) (line (drop l.text-index l.texts))
