use Rattle.std.proofs.Common.{◌-◌, length, chars}
use Rattle.ini_edit.proofs.FindLemmas.{Searches}
use Rattle.ini_edit.proofs.find.reach_pair.Given as goal

abbrev pub invariant-elements : goal.invariant-elements
invariant-elements l = Searches l.fn.parser.option l.fn.parser.text l.fn.parser.front l.parser
    (chars l.fn.key)

abbrev pub decreases-elements : goal.decreases-elements
decreases-elements l = length l.fn.parser.text - length l.parser.front
