use Rattle.std.proofs.Common.{chars}
use Rattle.std.specs.Iterator.Adapters.{rev_source}
use Rattle.ini.specs.Texts.{str_name}
use Rattle.ini_layers.proofs.LookupLemmas.{LooksBack}
use Rattle.ini_layers.proofs.layers.Layers.origin.Given as goal

abbrev pub invariant-loop-document : goal.invariant-loop-document
invariant-loop-document l =
    (goal.iterator-loop-document).can_next l.document-iterator ×
    (goal.iterator-loop-document).is_finite l.document-iterator ×
    LooksBack (str_name l.name) (chars l.key) l.self (rev_source l.document-iterator) l.number
