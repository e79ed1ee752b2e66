use Rattle.std.proofs.Common.{◌≡◌, chars}
use Rattle.ini.specs.Texts.{str_name}
use Rattle.ini_dialect.specs.Inside.{turned, value_in_joined}
use Rattle.ini_dialect.specs.Walks.{any_document}
use Rattle.ini_dialect.proofs.rule.Lookup.get_in_joined.Given as goal

-- what is left decides
abbrev pub invariant-loop-other : goal.invariant-loop-other
invariant-loop-other l =
    (let value = value_in_joined l.self (str_name l.name) (chars l.key) in
    value l.other-iterator ≡ value (turned l.self.values (any_document l.fn.document)))
