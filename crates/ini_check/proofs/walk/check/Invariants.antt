use Rattle.std.proofs.Common.{◌-◌, length, chars}
use Rattle.ini_check.proofs.WalkLemmas.{Checks}
use Rattle.ini_check.proofs.walk.check.Given as goal

abbrev pub invariant-elements : goal.invariant-elements
invariant-elements l = Checks l.fn.read (chars l.fn.text) l.parser l.position l.seen l.warnings.items

abbrev pub decreases-elements : goal.decreases-elements
decreases-elements l = length (chars l.fn.text) - length l.parser.front
