use Rattle.std.proofs.Common.{chars, length}
use Rattle.ini_edit.specs.Sources.{document_in}
use Rattle.ini_dialect.proofs.SectionEditLemmas.{DeletedSoFar}
use Rattle.ini_dialect.proofs.rule.CaseRule.delete_each_section.Given as goal

abbrev pub invariant-sections : goal.invariant-sections
invariant-sections l = DeletedSoFar l.self (chars l.name) l.fn.source l.source l.found

-- so many sections are left
abbrev pub decreases-sections : goal.decreases-sections
decreases-sections l = length (document_in l.source)
