use Rattle.std.proofs.Common.{chars}
use Rattle.ini_edit.proofs.WithoutLemmas.{WithoutSoFar}
use Rattle.ini_edit.proofs.source.section.SourceSection.without.Given as goal

abbrev pub invariant-loop-index : goal.invariant-loop-index
invariant-loop-index l =
    WithoutSoFar l.fn.read l.fn.front (chars l.fn.key) l.fn.kept l.fn.self l.pair-items l.new l.left
    l.index
