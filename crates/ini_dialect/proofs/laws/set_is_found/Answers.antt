use Rattle.ini_dialect.proofs.LookupLawLemmas.{set-answers, set-keeps}
use Rattle.ini_dialect.proofs.laws.set_is_found.Goals as goal

pub returns-clause-found : goal.returns-clause-found
returns-clause-found c = λ rule name key value. set-answers rule name key value

pub returns-clause-others : goal.returns-clause-others
returns-clause-others c = set-keeps
