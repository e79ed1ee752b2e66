use Rattle.std.proofs.Common.{◌-◌, chars, length}
use Rattle.ini_text.specs.Parsing.Fronts.{front_of}
use Rattle.ini.proofs.ReadingLemmas.{Loaded}
use Rattle.ini.proofs.items.push_items.Given as goal

abbrev pub invariant-items : goal.invariant-items
invariant-items l =
    Loaded l.fn.opt (chars l.fn.text) (front_of (chars l.fn.text) (chars l.fn.rest)) l.parser l.fn.document
    l.document

abbrev pub decreases-items : goal.decreases-items
decreases-items l = length (chars l.fn.text) - length l.parser.front
