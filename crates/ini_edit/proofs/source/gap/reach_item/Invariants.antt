use Rattle.std.proofs.Common.{◌-◌, length}
use Rattle.ini_edit.proofs.SourceReadLemmas.{Skips}
use Rattle.ini_edit.proofs.source.gap.reach_item.Given as goal

abbrev pub invariant-elements : goal.invariant-elements
invariant-elements l = Skips l.fn.parser.option l.fn.parser.text l.fn.parser.front l.parser

abbrev pub decreases-elements : goal.decreases-elements
decreases-elements l = length l.fn.parser.text - length l.parser.front
