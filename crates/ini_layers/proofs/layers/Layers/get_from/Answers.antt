use Rattle.std.proofs.Common.{◌∙◌, sym, chars}
use Rattle.ini.specs.Texts.{str_name}
use Rattle.ini_layers.proofs.LookupLemmas.{layered_value-last, layered_value-rest}
use Rattle.ini_layers.proofs.layers.Layers.get_from.Goals as goal

pub returns-in-Some-get_from : goal.returns-in-Some-get_from
returns-in-Some-get_from c =
    let value = layered_value-last (str_name c.args.name) (chars c.args.key.now) _ _ _ in
    sym (c.loop-document.invariant.2 ∙ value c.in-Some.ensures.steps _ c.in-Some-get_from.ensures)

pub loop-document-preserved : goal.loop-document-preserved
loop-document-preserved c =
    let value = layered_value-rest (str_name c.args.name) (chars c.args.key.now) _ _ _ in
    (tt, tt, c.loop-document.invariant.2 ∙ value c.in-Some.ensures.steps c.in_default.ensures)
