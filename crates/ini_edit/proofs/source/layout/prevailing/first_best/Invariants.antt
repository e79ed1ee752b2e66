use Rattle.std.proofs.Common.{◌≡◌, take}
use Rattle.std.specs.List.{best_of}
use Rattle.ini_edit.specs.Prevailing.{prevails}
use Rattle.ini_edit.proofs.source.layout.prevailing.first_best.Given as goal

abbrev pub invariant-loop-other : goal.invariant-loop-other
invariant-loop-other l = l.best ≡ best_of (prevails l.fn.forms) l.fn.first (take l.other-index l.others)
