use Rattle.ini_dialect.proofs.KeyLawLemmas.{moves, unrenamed}
use Rattle.ini_dialect.proofs.laws.renamed_keys_are_found.Goals as goal

pub returns-clause-moved : goal.returns-clause-moved
returns-clause-moved c = moves

pub returns-clause-others : goal.returns-clause-others
returns-clause-others c = unrenamed
