use Rattle.std.proofs.Common.{◌≡◌, fold}
use Rattle.ini_layers.specs.Layering.{merged, with_layer}
use Rattle.ini_layers.proofs.layers.Layers.merged.Given as goal

-- with what is left it is the whole
abbrev pub invariant-loop-document : goal.invariant-loop-document
invariant-loop-document l = fold with_layer l.merged l.document-iterator ≡ merged l.self
