use Rattle.std.proofs.Common.{◌∙◌, ap, chars, refl, subst, sym}
use Rattle.std.proofs.lemmas.Result.{IfErr-weaker}
use Rattle.ini.specs.Texts.{str_name, str_text}
use Rattle.ini_layers.specs.Differences.{setting_change}
use Rattle.ini_layers.specs.SourceChanges.{IsMadeBy}
use Rattle.ini_layers.proofs.MadeLemmas.{default-made, on_both, out-made, set-made, set_refused}
use Rattle.ini_layers.proofs.applying.apply_in_place_by.Goals as goal

pub returns-in_default-clause-made : goal.returns-in_default-clause-made
returns-in_default-clause-made c =
    let out = c.in_ok-delete_each_in_source.ensures in
    out-made c.args.rule c.args.write.now c.args.which (setting_change c.args.change)
    (ap str_name c.in_default.is) out.deleted out.option out.document

pub returns-in-Counting-clause-made : goal.returns-in-Counting-clause-made
returns-in-Counting-clause-made c =
    let change = setting_change c.args.change in
    on_both c.set.result c.set.ensures.set (c.set.ensures.document refl)
    (λ set document.
    subst (λ which. IsMadeBy which c.args.rule c.args.write.now change c.args.source.now c.set.new.self)
    (sym c.in-Counting.is)
    (default-made c.args.rule c.args.write.now change (str_text c.in-Some.value) (ap str_name c.in-Some.is)
    (sym c.is_own.ensures ∙ c.if-is_own.true) set document))

pub returns-in-Counting-2-clause-made : goal.returns-in-Counting-2-clause-made
returns-in-Counting-2-clause-made c =
    let change = setting_change c.args.change in
    on_both c.set_in_source.result c.set_in_source.ensures.set c.set_in_source.ensures.document
    (λ set document.
    subst (λ which. IsMadeBy which c.args.rule c.args.write.now change c.args.source.now
    c.set_in_source.new.source)
    (sym c.in-Counting-2.is)
    (set-made c.args.rule c.args.write.now change (str_text c.in-Some.value) (ap str_name c.in-Some.is)
    (sym c.is_own.ensures ∙ c.if-is_own.false) set document))

pub returns-in-Counting-2-clause-refused : goal.returns-in-Counting-2-clause-refused
returns-in-Counting-2-clause-refused c =
    IfErr-weaker c.set_in_source.result _ _
    (set_refused c.args.rule c.args.write.now c.args.which (str_name c.args.change.name)
    (chars c.args.change.key.now) (str_text c.in-Some.value) (str_name c.args.change.new) c.args.source.now
    c.in-Counting-2.is (ap str_name c.in-Some.is) (sym c.is_own.ensures ∙ c.if-is_own.false))
    c.set_in_source.ensures.refused
