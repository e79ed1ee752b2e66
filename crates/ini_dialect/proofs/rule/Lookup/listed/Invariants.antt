use Rattle.std.proofs.Common.{◌≡◌, ◌++◌, map}
use Rattle.ini_dialect.specs.Flattened.{as_lists, listed}
use Rattle.ini_dialect.specs.Walks.{any_document}
use Rattle.ini_dialect.proofs.rule.Lookup.listed.Given as goal

-- with the lists of what is left it is the whole
abbrev pub invariant-loop-name : goal.invariant-loop-name
invariant-loop-name l =
    l.lists ++ map (λ s. (s.0, as_lists s.1)) l.name-iterator ≡ listed l.fn.self (any_document l.fn.document)
