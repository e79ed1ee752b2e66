-- Reading looks one character ahead.
use Rattle.ini_text.proofs.LawLemmas.OneAheadLemmas.{Reads-before}
use Rattle.ini_text.proofs.laws.readings.items_stand.Goals as goal

pub returns : goal.returns
returns c = λ o b d items x follows other reads. Reads-before x follows other reads
