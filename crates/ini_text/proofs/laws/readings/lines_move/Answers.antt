-- A text after whole lines.
use Rattle.ini_text.proofs.LawLemmas.MovedLemmas.{Reads-after, StopsAfter-after}
use Rattle.ini_text.proofs.laws.readings.lines_move.Goals as goal

pub returns-clause-items : goal.returns-clause-items
returns-clause-items c = λ o before text b d items one reads. Reads-after before one reads

pub returns-clause-stop : goal.returns-clause-stop
returns-clause-stop c = λ o before text b kind line column one stop. StopsAfter-after before one stop
