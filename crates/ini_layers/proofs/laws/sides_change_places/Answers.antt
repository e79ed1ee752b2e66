use Rattle.ini_layers.proofs.MergeLemmas.{change-places}
use Rattle.ini_layers.proofs.laws.sides_change_places.Goals as goal

pub returns : goal.returns
returns c = change-places
