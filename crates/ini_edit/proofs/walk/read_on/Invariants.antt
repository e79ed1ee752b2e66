use Rattle.std.proofs.Common.{◌-◌, length}
use Rattle.ini_edit.proofs.WalkLemmas.{Walked}
use Rattle.ini_edit.proofs.walk.read_on.Given as goal

abbrev pub invariant-elements : goal.invariant-elements
invariant-elements l = Walked l.fn.parser.option l.fn.parser.text l.fn.parser.front l.parser

abbrev pub decreases-elements : goal.decreases-elements
decreases-elements l = length l.fn.parser.text - length l.parser.front
