use Rattle.std.proofs.Common.{◌≡◌, ◌+◌, length}
use Rattle.ini.specs.Texts.{str_name}
use Rattle.ini_dialect.specs.Numbers.{passes_key}
use Rattle.ini_dialect.specs.Walks.{any_document}
use Rattle.ini_dialect.proofs.EditLemmas.{Searches}
use Rattle.ini_dialect.proofs.rule.Lookup.section_number.Given as goal

abbrev pub invariant-loop-number : goal.invariant-loop-number
invariant-loop-number l =
    (l.number + length l.sections ≡ l.len)
    × Searches l.order (passes_key l.self (str_name l.name) (str_name l.key)) (any_document l.fn.document)
    l.sections l.number l.found
