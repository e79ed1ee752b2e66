use Rattle.ini_dialect.proofs.SectionLawLemmas.{sections-gone, sections-keep}
use Rattle.ini_dialect.proofs.laws.deleted_sections_are_gone.Goals as goal

pub returns-clause-gone : goal.returns-clause-gone
returns-clause-gone c = sections-gone

pub returns-clause-others : goal.returns-clause-others
returns-clause-others c = sections-keep
