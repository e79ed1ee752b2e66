use Rattle.ini_text.proofs.PlaceLemmas.TailLemmas.{at_rests, line_stopped, one_line}
use Rattle.ini_text.proofs.ReaderLemmas.ReaderLemmas.{passed}
use Rattle.ini_text.proofs.ReaderLemmas.LineTurnLemmas.{value_stops}
use Rattle.ini_text.proofs.parser.value.read_value.Goals as goal

pub returns-in_err-value-clause-gives : goal.returns-in_err-value-clause-gives
returns-in_err-value-clause-gives c =
    passed _ _ _ c.from_residual.ensures.1 c.in_err-value.ensures
    (λ r k h. value_stops c.args.read.now _ c.skip-start.ensures (line_stopped c.args.read.now _ _ h))

pub returns-clause-gives : goal.returns-clause-gives
returns-clause-gives c =
    (one_line c.args.read.now c.skip-start.ensures c.in_ok-value.ensures c.past_note.ensures
    c.if-read.false).reads

pub returns-clause-rests : goal.returns-clause-rests
returns-clause-rests c =
    λ places. at_rests c.keep_lines.new.self (c.keep_lines.ensures.start places)
    (c.keep_lines.ensures.tail places)
    (one_line c.args.read.now c.skip-start.ensures c.in_ok-value.ensures c.past_note.ensures c.if-read.false)
