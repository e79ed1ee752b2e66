use Rattle.std.proofs.Common.{◌-◌, [], ◌∷◌, None, chars, length}
use Rattle.ini.proofs.ReadingLemmas.{Loaded}
use Rattle.ini_view.proofs.view.View.load_from_str_opt.Given as goal

abbrev pub invariant-items : goal.invariant-items
invariant-items l = Loaded l.fn.opt (chars l.fn.text) [] l.parser ((None, []) ∷ []) l.loading

abbrev pub decreases-items : goal.decreases-items
decreases-items l = length (chars l.fn.text) - length l.parser.front
