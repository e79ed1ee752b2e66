use Rattle.ini_dialect.proofs.DefaultLemmas.{default-answers}
use Rattle.ini_dialect.proofs.laws.default_is_the_crates.Goals as goal

pub returns : goal.returns
returns c = default-answers
