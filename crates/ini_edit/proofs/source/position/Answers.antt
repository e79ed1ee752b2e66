use Rattle.std.proofs.Common.{◌∙◌, ap, sym}
use Rattle.ini.specs.Texts.{is_name, str_name}
use Rattle.ini_edit.proofs.FirstLemmas.{passed_end, passed_found, passed_more, passed_start}
use Rattle.ini_edit.proofs.source.position.Goals as goal

pub loop-i-init : goal.loop-i-init
loop-i-init c = passed_start _ c.args.sections.now

pub returns-then-is_same_name : goal.returns-then-is_same_name
returns-then-is_same_name c =
    let name = str_name c.args.name in
    passed_found (λ s. is_name name s.name) c.loop-i.invariant c.loop-i-test.true c.index-sections-i.is
    (ap (is_name name) (sym c.name.ensures) ∙ sym c.is_same_name.ensures ∙ c.if-is_same_name.true)

pub loop-i-preserved : goal.loop-i-preserved
loop-i-preserved c =
    let name = str_name c.args.name in
    passed_more (λ s. is_name name s.name) c.loop-i.invariant c.loop-i-test.true c.index-sections-i.is
    (ap (is_name name) (sym c.name.ensures) ∙ sym c.is_same_name.ensures ∙ c.if-is_same_name.false)

pub returns : goal.returns
returns c = passed_end _ c.loop-i.invariant c.loop-i-test.false
