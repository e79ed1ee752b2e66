-- A part that is exchanged.
use Rattle.ini_text.proofs.LawLemmas.PieceLemmas.{exchanged}
use Rattle.ini_text.proofs.laws.pieces.parts_are_exchanged.Goals as goal

pub returns : goal.returns
returns c = λ o d before old new rest r are may. exchanged before old new rest are may
