use Rattle.std.proofs.Common.{◌≡◌, drop}
use Rattle.ini_edit.specs.Prevailing.{comes_first}
use Rattle.ini_edit.proofs.source.layout.prevailing.comes_first.Given as goal

abbrev pub invariant-loop-one : goal.invariant-loop-one
invariant-loop-one l =
    comes_first l.fn.form l.fn.other (drop l.one-index l.forms) ≡ comes_first l.fn.form l.fn.other l.forms
