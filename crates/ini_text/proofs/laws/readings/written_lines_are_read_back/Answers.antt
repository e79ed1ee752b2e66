-- Lines as they are written.
use Rattle.ini_text.proofs.PlainLemmas.PlainHeaderLemmas.{header_line}
use Rattle.ini_text.proofs.PlainLemmas.PlainLineLemmas.{element_then_gaps-gives}
use Rattle.ini_text.proofs.PlainLemmas.PlainPairLemmas.{pair_line, pair_line-gives}
use Rattle.ini_text.proofs.laws.readings.written_lines_are_read_back.Goals as goal

pub returns-clause-header : goal.returns-clause-header
returns-clause-header c =
    λ o w twice b name r plain. element_then_gaps-gives (header_line o w twice b name r plain)

pub returns-clause-pair : goal.returns-clause-pair
returns-clause-pair c = λ o w twice b key value r one sep plain follows.
    pair_line-gives (pair_line o w twice b key value r one sep plain follows)
