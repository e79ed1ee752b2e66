use Rattle.ini_dialect.proofs.rule.Lookup.delete_sections.Goals as goal

pub returns-in-First-clause-deleted : goal.returns-in-First-clause-deleted
returns-in-First-clause-deleted c = rw c.in-First.is c.delete_first_section.ensures.deleted

pub returns-in-Joined-clause-deleted : goal.returns-in-Joined-clause-deleted
returns-in-Joined-clause-deleted c = rw c.in-Joined.is c.delete_each_section.ensures.deleted
