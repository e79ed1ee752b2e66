use Rattle.std.proofs.Common.{◌-◌, length, Some, chars}
use Rattle.ini_edit.proofs.FindLemmas.{PassesSections}
use Rattle.ini_edit.proofs.find.reach_section.Given as goal

abbrev pub invariant-elements : goal.invariant-elements
invariant-elements l = PassesSections l.fn.parser.option l.fn.parser.text l.parser (Some (chars l.name))

abbrev pub decreases-elements : goal.decreases-elements
decreases-elements l = length l.fn.parser.text - length l.parser.front
