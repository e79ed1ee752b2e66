-- A stop at a character stands.
use Rattle.ini_text.proofs.LawLemmas.OneRefusalLemmas.{refusal_stands}
use Rattle.ini_text.proofs.laws.readings.refusals_stand.Goals as goal

pub returns : goal.returns
returns c = refusal_stands
