use Rattle.std.proofs.Common.{◌≡◌, chars}
use Rattle.std.specs.Iterator.Adapters.{rev_source}
use Rattle.ini.specs.Texts.{str_name}
use Rattle.ini_layers.specs.Layers.{layered_value}
use Rattle.ini_layers.proofs.layers.Layers.get_from.Given as goal

-- what is left decides
abbrev pub invariant-loop-document : goal.invariant-loop-document
invariant-loop-document l =
    (goal.iterator-loop-document).can_next l.document-iterator ×
    (goal.iterator-loop-document).is_finite l.document-iterator ×
    (let value = layered_value (str_name l.name) (chars l.key) in
    value l.self ≡ value (rev_source l.document-iterator))
