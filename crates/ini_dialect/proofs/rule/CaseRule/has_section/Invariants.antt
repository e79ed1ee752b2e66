use Rattle.std.proofs.Common.{◌≡◌}
use Rattle.ini.specs.Texts.{str_name}
use Rattle.ini_dialect.specs.Lookups.{has_section}
use Rattle.ini_dialect.specs.Walks.{any_document}
use Rattle.ini_dialect.proofs.rule.CaseRule.has_section.Given as goal

-- what is left decides
abbrev pub invariant-loop-other : goal.invariant-loop-other
invariant-loop-other l =
    has_section l.self (str_name l.name) l.other-iterator
    ≡ has_section l.self (str_name l.name) (any_document l.fn.document)
