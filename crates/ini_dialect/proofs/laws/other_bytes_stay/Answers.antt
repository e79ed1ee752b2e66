use Rattle.ini_dialect.proofs.EncodingLemmas.{changes_inside}
use Rattle.ini_dialect.proofs.laws.other_bytes_stay.Goals as goal

pub returns : goal.returns
returns c = changes_inside
