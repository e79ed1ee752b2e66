-- What an element depends on.
use Rattle.ini_text.proofs.LawLemmas.LocalLemmas.{Element-before, Element-like}
use Rattle.ini_text.proofs.laws.pieces.elements_are_local.Goals as goal

pub returns-clause-front : goal.returns-clause-front
returns-clause-front c = λ o front other source follows gives a e. Element-like a e

pub returns-clause-follows : goal.returns-clause-follows
returns-clause-follows c = λ o front source follows other gives a e. Element-before a e
