-- The outcome of the text that was passed.
use Rattle.std.proofs.Common.{chars}
use Rattle.ini_text.proofs.LawLemmas.OneReadingLemmas.{one_outcome}
use Rattle.ini_text.proofs.laws.one_outcome.Goals as goal

pub returns : goal.returns
returns c = one_outcome c.args.option (chars c.args.text.now)
