use Rattle.std.proofs.Common.{◌≡◌, ◌++◌, chars}
use Rattle.ini_edit.specs.SourceEditsAt.{at_index}
use Rattle.ini_dialect.proofs.EditLemmas.{at_left}
use Rattle.ini_dialect.proofs.edit.set_pair.Given as goal

-- with what is left it is the whole
abbrev pub invariant-loop-key : goal.invariant-loop-key
invariant-loop-key l =
    l.pairs ++ at_left l.left (λ p. (p.0, chars l.value)) l.key-iterator
    ≡ at_index l.fn.number (λ p. (p.0, chars l.value)) l.fn.section
