use Rattle.std.proofs.Common.{◌-◌, chars, length}
use denote.Text.{Utf8}
use denote.Shadow.{shadow}
use Rattle.ini.proofs.ReadingLemmas.{Settling}
use Rattle.ini.proofs.items.push_complete_items.Given as goal

abbrev pub invariant-items : goal.invariant-items
invariant-items l =
    shadow (Utf8 l.left)
    × Settling l.fn.opt (chars l.fn.text) (chars l.fn.rest) (chars l.left) l.parser l.fn.document l.document

abbrev pub decreases-items : goal.decreases-items
decreases-items l = length (chars l.fn.text) - length l.parser.front
