use Rattle.std.proofs.Common.{chars}
use Rattle.ini.specs.Texts.{str_name}
use Rattle.ini_edit.proofs.FirstLemmas.{PassedTo}
use Rattle.ini_dialect.specs.SectionEdits.{is_sought}
use Rattle.ini_dialect.proofs.rule.CaseRule.first_name.Given as goal

-- none was sought so far
abbrev pub invariant-loop-section : goal.invariant-loop-section
invariant-loop-section l =
    PassedTo (λ s. is_sought l.self (chars l.name) (str_name l.fn.but) s.name) l.sections l.section-index
