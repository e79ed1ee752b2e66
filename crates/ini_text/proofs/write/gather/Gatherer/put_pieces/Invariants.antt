use Rattle.std.proofs.Common.{◌++◌, length}
use Rattle.ini_text.specs.Inside.Verbatim.{marked_escaped}
use Rattle.ini_text.specs.Device.Unsent.{unsent}
use Rattle.ini_text.proofs.WriteLemmas.SendLemmas.{Leaving}
use Rattle.ini_text.proofs.write.gather.Gatherer.put_pieces.Given as goal

abbrev pub invariant-pieces : goal.invariant-pieces
invariant-pieces g l = record {
  leaving : Leaving g.W.Write.contents l.fn.out l.out
      (unsent l.fn.self ++ marked_escaped (g.M.Marks.is_marked l.fn.marks) l.fn.bytes)
      (unsent l.self ++ marked_escaped (g.M.Marks.is_marked l.marks) l.rest);
}

abbrev pub decreases-pieces : goal.decreases-pieces
decreases-pieces g l = length l.rest
