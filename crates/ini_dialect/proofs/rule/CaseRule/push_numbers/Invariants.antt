use Rattle.std.proofs.Common.{◌≡◌, ◌++◌, chars}
use Rattle.ini_dialect.proofs.KeyEditLemmas.{pairs_left}
use Rattle.ini_dialect.proofs.rule.CaseRule.push_numbers.Given as goal

-- with what is left it is the whole
abbrev pub invariant-loop-pair : goal.invariant-loop-pair
invariant-loop-pair l =
    (let left = pairs_left l.self (chars l.key) l.number l.pairs in
    l.numbers.items ++ left l.pair ≡ l.initial.numbers.items ++ left 0)
