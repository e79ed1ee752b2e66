use Rattle.std.proofs.Common.{◌≡◌, ◌++◌, chars}
use Rattle.ini_edit.specs.SourceEditsAt.{at_index}
use Rattle.ini_dialect.specs.Lookups.{with_value}
use Rattle.ini_dialect.proofs.EditLemmas.{at_left}
use Rattle.ini_dialect.proofs.rule.Lookup.set_in_section.Given as goal

-- with what is left it is the whole
abbrev pub invariant-loop-name : goal.invariant-loop-name
invariant-loop-name l =
    l.edited ++ at_left l.left (with_value l.self (chars l.key) (chars l.value)) l.name-iterator
    ≡ at_index l.fn.number (with_value l.self (chars l.key) (chars l.value)) l.fn.document
