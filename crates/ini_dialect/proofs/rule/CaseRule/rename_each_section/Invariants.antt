use Rattle.std.proofs.Common.{chars}
use Rattle.ini_edit.specs.Sources.{document_in}
use Rattle.ini_dialect.specs.SectionEdits.{is_sought}
use Rattle.ini_dialect.proofs.SectionEditLemmas.{RenamedSoFar, passing_count}
use Rattle.ini_dialect.proofs.rule.CaseRule.rename_each_section.Given as goal
use Rattle.std.proofs.Common.{Some}

abbrev pub invariant-sections : goal.invariant-sections
invariant-sections l = RenamedSoFar l.self l.policy (chars l.old) (chars l.new) l.fn.source l.source

-- so many sections are left to rename
abbrev pub decreases-sections : goal.decreases-sections
decreases-sections l =
    passing_count (λ n. is_sought l.self (chars l.old) (Some (chars l.new)) n) (document_in l.source)
