use Rattle.std.proofs.Common.{◌≡◌, ◌+◌, chars, length}
use Rattle.ini_dialect.specs.Lookups.{text_fits}
use Rattle.ini_dialect.specs.Walks.{any_section}
use Rattle.ini_dialect.proofs.EditLemmas.{Searches}
use Rattle.ini_dialect.proofs.rule.Lookup.pair_number.Given as goal

abbrev pub invariant-loop-number : goal.invariant-loop-number
invariant-loop-number l =
    (l.number + length l.pairs ≡ l.len)
    × Searches l.self.values (λ p. text_fits l.self.case (chars l.key) p.0) (any_section l.fn.section)
    l.pairs l.number l.found
