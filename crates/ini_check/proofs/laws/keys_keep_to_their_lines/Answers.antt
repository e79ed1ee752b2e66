use Rattle.std.proofs.Common.{refl}
use Rattle.ini_check.proofs.LoneLineLemmas.{key_joined, nothing_dropped}
use Rattle.ini_check.proofs.laws.keys_keep_to_their_lines.Goals as goal

pub returns-clause-joined : goal.returns-clause-joined
returns-clause-joined c o b k r key keeps front = key_joined o keeps front

pub returns-clause-dropped : goal.returns-clause-dropped
returns-clause-dropped c o b s r keeps element = nothing_dropped keeps refl element
