use Rattle.std.proofs.Common.{◌≡◌, chars}
use Rattle.ini.specs.Texts.{str_name}
use Rattle.ini_dialect.specs.Inside.{value_in_first}
use Rattle.ini_dialect.specs.Walks.{any_document}
use Rattle.ini_dialect.proofs.rule.Lookup.get_in_first.Given as goal

-- what is left decides
abbrev pub invariant-loop-other : goal.invariant-loop-other
invariant-loop-other l =
    (let value = value_in_first l.self (str_name l.name) (chars l.key) in
    value l.other-iterator ≡ value (any_document l.fn.document))
