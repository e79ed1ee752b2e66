use Rattle.std.proofs.Common.{◌∙◌, ap, chars}
use Rattle.ini_text.proofs.PlaceLemmas.PairLemmas.{unaltered, value_rests}
use Rattle.ini_text.specs.Inside.ElementReader.{key_string, pair_of_key}
use Rattle.ini_text.proofs.ReaderLemmas.ReaderLemmas.{passed}
use Rattle.ini_text.proofs.parser.pair.read_unindented.Goals as goal

pub returns-in_err-key-clause-gives : goal.returns-in_err-key-clause-gives
returns-in_err-key-clause-gives c =
    passed _ _ _ c.from_residual.ensures.1 c.in_err-key.ensures (λ r k h. ap (pair_of_key c.args.read.now) h)

pub returns-clause-rests : goal.returns-clause-rests
returns-clause-rests c =
    λ places. value_rests c.args.read.now (chars c.args.text.now) c.read_pair.new.rests
    (ap (key_string c.args.read.now) c.requires ∙ (unaltered _ _ c.in_ok-key.ensures).1)
    c.read_pair.result (c.read_pair.ensures.rests places)
