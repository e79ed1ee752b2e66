-- The law, of the definitions.
use Rattle.std.proofs.Common.{chars}
use Rattle.ini_edit.proofs.KeptPlaceLemmas.{columns_stay}
use Rattle.ini_edit.proofs.laws.columns_stay.Goals as goal

pub returns : goal.returns
returns c = columns_stay (chars c.args.old.now) (chars c.args.new.now) (chars c.args.line.now)
