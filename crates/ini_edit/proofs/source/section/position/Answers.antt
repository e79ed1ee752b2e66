use Rattle.std.proofs.Common.{◌∙◌, ap, chars, sym}
use Rattle.ini.specs.Texts.{is_text}
use Rattle.ini_edit.proofs.FirstLemmas.{passed_end, passed_found, passed_more, passed_start}
use Rattle.ini_edit.proofs.source.section.position.Goals as goal

pub loop-i-init : goal.loop-i-init
loop-i-init c = passed_start _ c.args.pairs.now

pub returns-then-is_same_text : goal.returns-then-is_same_text
returns-then-is_same_text c =
    let key = chars c.args.key.now in
    passed_found (λ p. is_text key p.key) c.loop-i.invariant c.loop-i-test.true c.index-pairs-i.is
    (ap (is_text key) (sym c.key.ensures) ∙ sym c.is_same_text.ensures ∙ c.if-is_same_text.true)

pub loop-i-preserved : goal.loop-i-preserved
loop-i-preserved c =
    let key = chars c.args.key.now in
    passed_more (λ p. is_text key p.key) c.loop-i.invariant c.loop-i-test.true c.index-pairs-i.is
    (ap (is_text key) (sym c.key.ensures) ∙ sym c.is_same_text.ensures ∙ c.if-is_same_text.false)

pub returns : goal.returns
returns c = passed_end _ c.loop-i.invariant c.loop-i-test.false
