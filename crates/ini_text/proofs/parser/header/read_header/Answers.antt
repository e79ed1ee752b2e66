use Rattle.std.proofs.Common.{ap}
use Rattle.ini_text.specs.Inside.ElementReader.{header}
use Rattle.ini_text.proofs.ReaderLemmas.ReaderLemmas.{passed}
use Rattle.ini_text.proofs.parser.header.read_header.Goals as goal

pub returns-in_err-name-clause-gives : goal.returns-in_err-name-clause-gives
returns-in_err-name-clause-gives c =
    passed _ _ _ c.from_residual.ensures.1 c.in_err-name.ensures
    (λ r k h. rw c.if-read.false (ap header h))
