use Rattle.ini_dialect.proofs.rule.Lookup.rename_sections.Goals as goal

pub returns-in-First-clause-renamed : goal.returns-in-First-clause-renamed
returns-in-First-clause-renamed c = rw c.in-First.is c.rename_first_section.ensures.renamed

pub returns-in-Joined-clause-renamed : goal.returns-in-Joined-clause-renamed
returns-in-Joined-clause-renamed c = rw c.in-Joined.is c.rename_each_section.ensures.renamed
