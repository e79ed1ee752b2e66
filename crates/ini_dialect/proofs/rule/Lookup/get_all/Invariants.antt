use Rattle.std.proofs.Common.{◌≡◌, ◌++◌, chars, map}
use Rattle.ini.specs.Texts.{str_name, str_text}
use Rattle.ini_dialect.specs.Lookups.{all_values}
use Rattle.ini_dialect.specs.Walks.{any_document}
use Rattle.ini_dialect.proofs.rule.Lookup.get_all.Given as goal

-- with what is left it is the whole
abbrev pub invariant-loop-other : goal.invariant-loop-other
invariant-loop-other l =
    (let all = all_values l.self (str_name l.name) (chars l.key) in
    map str_text l.values.items ++ all l.other-iterator ≡ all (any_document l.fn.document))
