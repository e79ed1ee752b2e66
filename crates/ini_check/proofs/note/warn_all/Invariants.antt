use Rattle.std.proofs.Common.{◌≡◌, ◌++◌, length}
use Rattle.ini.specs.Texts.{Text}
use Rattle.ini_check.specs.Inside.Positions.{IsAt}
use Rattle.ini_check.specs.Warnings.{warned_all}
use Rattle.ini_check.proofs.note.warn_all.Given as goal

abbrev pub decreases-traps : goal.decreases-traps
decreases-traps l = length l.rest

abbrev pub invariant-traps : goal.invariant-traps
invariant-traps l = (b s : Text) → IsAt b l.fn.begins → IsAt (b ++ s) l.fn.ends
    → l.warnings.items ++ warned_all b s l.rest ≡ l.fn.warnings.items ++ warned_all b s l.fn.traps
