use Rattle.std.proofs.Common.{◌≡◌, chars}
use Rattle.ini_dialect.specs.Lookups.{has_key}
use Rattle.ini_dialect.specs.Walks.{any_section}
use Rattle.ini_dialect.proofs.rule.Lookup.has_key.Given as goal

-- what is left decides
abbrev pub invariant-loop-other : goal.invariant-loop-other
invariant-loop-other l =
    has_key l.self (chars l.key) l.other-iterator ≡ has_key l.self (chars l.key) (any_section l.fn.section)
