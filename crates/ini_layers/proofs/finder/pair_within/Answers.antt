use Rattle.std.proofs.Common.{◌∙◌, ap, arith, chars, sym}
use Rattle.ini.specs.Texts.{is_text}
use Rattle.ini_layers.specs.Inside.Finding.{is_keyed}
use Rattle.ini_layers.proofs.FindingLemmas.{passes_at}
use Rattle.ini_layers.proofs.finder.pair_within.Goals as goal

pub returns-then-is_same_text : goal.returns-then-is_same_text
returns-then-is_same_text c =
    passes_at (is_keyed (chars c.args.key.now)) c.args.pairs.now c.loop-index.index c.index-pairs-index.result
    (omega (arith, c.loop-index-test.true, c.requires)) c.index-pairs-index.is
    (ap (is_text (chars c.args.key.now)) (sym c.key.ensures) ∙ sym c.if-is_same_text.ensures)
