use Rattle.std.proofs.Common.{◌≡◌, fold}
use Rattle.ini_layers.specs.Layering.{with_layer, with_name}
use Rattle.ini_layers.proofs.layering.merge_document.Given as goal

-- with what is left it is the whole
abbrev pub invariant-loop-name : goal.invariant-loop-name
invariant-loop-name l =
    fold (with_name l.layer) l.merged l.name-iterator ≡ with_layer l.initial.merged l.layer
