use Rattle.std.proofs.Common.{◌≡◌, ◌++◌, Some, chars}
use Rattle.std.specs.List.{filter_map}
use Rattle.ini.specs.Properties.{first_value, texts_of}
use Rattle.ini_examples.specs.Walks.{each_first}
use Rattle.ini_examples.proofs.callers.walks.upstreams.Given as goal

abbrev pub invariant-loop-section : goal.invariant-loop-section
invariant-loop-section l =
    texts_of l.found.items ++ filter_map (first_value (chars l.key)) l.section-iterator
    ≡ each_first (Some (chars l.name)) (chars l.key) l.document
