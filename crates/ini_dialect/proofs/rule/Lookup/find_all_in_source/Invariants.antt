use Rattle.std.proofs.Common.{◌≡◌, ◌++◌, chars}
use Rattle.ini.specs.Texts.{str_name}
use Rattle.ini_dialect.proofs.KeyEditLemmas.{sections_left}
use Rattle.ini_dialect.proofs.rule.Lookup.find_all_in_source.Given as goal

-- with what is left it is the whole
abbrev pub invariant-loop-number : goal.invariant-loop-number
invariant-loop-number l =
    (let left = sections_left l.self (str_name l.fn.name) (chars l.key) l.sections in
    l.numbers.items ++ left l.number ≡ left 0)
