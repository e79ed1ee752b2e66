use Rattle.std.proofs.Common.{drop}
use Rattle.ini_text.proofs.WriteLemmas.SendLemmas.{Sending}
use Rattle.ini_edit.specs.Sources.{pairs_text}
use Rattle.ini_edit.proofs.source.section.send_pairs.Given as goal

abbrev pub invariant-loop-pair : goal.invariant-loop-pair
invariant-loop-pair g l =
    Sending g.W.Write.contents l.fn.out l.out l.fn.lines l.lines
    (pairs_text l.pairs) (pairs_text (drop l.pair-index l.pairs))
