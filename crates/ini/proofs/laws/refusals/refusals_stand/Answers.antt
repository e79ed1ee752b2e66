-- By the law of fronts.
use Rattle.ini.proofs.RefusalLemmas.{stands}
use Rattle.ini.proofs.laws.refusals.refusals_stand.Goals as goal

pub returns : goal.returns
returns c = stands c.refusals_stand.ensures
