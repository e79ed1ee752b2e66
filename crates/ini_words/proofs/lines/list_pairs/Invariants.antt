use Rattle.std.proofs.Common.{flat_map}
use Rattle.ini.specs.Texts.{str_name}
use Rattle.ini_words.specs.Lines.{listed_pair}
use Rattle.ini_text.proofs.WriteLemmas.SendLemmas.{Sending}
use Rattle.ini_words.proofs.lines.list_pairs.Given as goal

abbrev pub invariant-loop-key : goal.invariant-loop-key
invariant-loop-key g l =
    Sending g.W.Write.contents l.fn.out l.out l.fn.lines l.lines
    (flat_map (listed_pair l.form (str_name l.name)) l.pairs)
    (flat_map (listed_pair l.form (str_name l.name)) l.key-iterator)
