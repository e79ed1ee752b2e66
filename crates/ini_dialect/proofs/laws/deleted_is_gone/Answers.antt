use Rattle.ini_dialect.proofs.LookupLawLemmas.{delete-answers, delete-keeps}
use Rattle.ini_dialect.proofs.laws.deleted_is_gone.Goals as goal

pub returns-clause-gone : goal.returns-clause-gone
returns-clause-gone c = λ rule name key. delete-answers rule name key

pub returns-clause-others : goal.returns-clause-others
returns-clause-others c = delete-keeps
