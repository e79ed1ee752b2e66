use Rattle.std.proofs.Common.{◌-◌, length, chars}
use Rattle.ini_text.specs.Parsing.Items.{string_text}
use Rattle.ini_check.proofs.MendLemmas.{Mending}
use Rattle.ini_check.proofs.mends.elements.mend_elements.Given as goal

abbrev pub invariant-elements : goal.invariant-elements
invariant-elements l = Mending l.fn.read l.fn.trap (chars l.fn.text) l.parser (string_text l.made)

abbrev pub decreases-elements : goal.decreases-elements
decreases-elements l = length (chars l.fn.text) - length l.parser.front
