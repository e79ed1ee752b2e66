use Rattle.std.proofs.Common.{◌≡◌, ◌++◌, drop, flat_map}
use Rattle.ini_edit.specs.Prevailing.{forms_of}
use Rattle.ini_edit.proofs.source.layout.prevailing.push_forms.Given as goal

abbrev pub invariant-loop-pair : goal.invariant-loop-pair
invariant-loop-pair l =
    l.forms.items ++ flat_map (forms_of l.fn.aligned) (drop l.pair-index l.pairs)
    ≡ l.initial.forms.items ++ flat_map (forms_of l.fn.aligned) l.pairs
