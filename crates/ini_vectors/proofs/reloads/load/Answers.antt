-- The one outcome of a text is what loading answers.
use Rattle.ini_vectors.proofs.ReloadLemmas.{tells}
use Rattle.ini_vectors.proofs.reloads.load.Goals as goal

pub returns : goal.returns
returns c =
    let load = c.load_from_str_opt in
    tells c.one_outcome.ensures load.result load.ensures.document load.ensures.fault load.ensures.only
