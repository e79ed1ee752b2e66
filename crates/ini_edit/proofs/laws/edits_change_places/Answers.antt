-- The law, of the definitions.
use Rattle.std.proofs.Common.{chars}
use Rattle.ini_edit.proofs.ExchangeLemmas.{edits_change}
use Rattle.ini_edit.proofs.laws.edits_change_places.Goals as goal

pub returns : goal.returns
returns c = edits_change c.args.read c.args.policy (chars c.args.text.now)
