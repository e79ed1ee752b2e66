use Rattle.ini_dialect.proofs.ListLemmas.{list-back, lists-equal}
use Rattle.ini_dialect.proofs.laws.lists_are_read_back.Goals as goal

pub returns-clause-back : goal.returns-clause-back
returns-clause-back c = list-back

pub returns-clause-same : goal.returns-clause-same
returns-clause-same c = lists-equal
