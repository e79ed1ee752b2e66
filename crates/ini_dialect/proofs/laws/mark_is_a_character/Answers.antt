use Rattle.ini_dialect.proofs.MarkLemmas.{begins_with_mark}
use Rattle.ini_dialect.proofs.laws.mark_is_a_character.Goals as goal

pub returns : goal.returns
returns c = begins_with_mark
