use Rattle.std.proofs.Common.{drop, flat_map}
use Rattle.ini_text.proofs.WriteLemmas.SendLemmas.{Sending}
use Rattle.ini_words.specs.Prints.{part_text}
use Rattle.ini_words.proofs.lines.parts.put_parts.Given as goal

abbrev pub invariant-loop-text : goal.invariant-loop-text
invariant-loop-text g l =
    let line = flat_map (part_text l.form) in
    Sending g.W.Write.contents l.fn.out l.out l.fn.lines l.lines
    (line l.parts) (line (drop l.text-index l.parts))
