use Rattle.std.proofs.Common.{◌≡◌, ◌≤◌, take}
use Rattle.ini_edit.specs.Prevailing.{count_of}
use Rattle.ini_edit.proofs.source.layout.prevailing.count_of.Given as goal

abbrev pub invariant-loop-one : goal.invariant-loop-one
invariant-loop-one l = record {
  so_far : l.count ≡ count_of l.fn.form (take l.one-index l.forms);
  few : l.count ≤ l.one-index;
}
