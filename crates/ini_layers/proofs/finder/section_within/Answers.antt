use Rattle.std.proofs.Common.{◌∙◌, ap, arith, sym}
use Rattle.ini.specs.Texts.{is_name, str_name}
use Rattle.ini_layers.specs.Inside.Finding.{is_named}
use Rattle.ini_layers.proofs.FindingLemmas.{passes_at}
use Rattle.ini_layers.proofs.finder.section_within.Goals as goal

pub returns-then-is_same_value : goal.returns-then-is_same_value
returns-then-is_same_value c =
    passes_at (is_named (str_name c.args.name)) c.args.sections.now c.loop-index.index
    c.index-sections-index.result (omega (arith, c.loop-index-test.true, c.requires))
    c.index-sections-index.is
    (ap (is_name (str_name c.args.name)) (sym c.name.ensures) ∙ sym c.if-is_same_value.ensures)
