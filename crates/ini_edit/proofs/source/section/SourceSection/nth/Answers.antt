use Rattle.std.proofs.Common.{◌∙◌, ◌+◌, ap, chars, subst, sym}
use Rattle.ini.specs.Texts.{is_text}
use Rattle.ini_edit.proofs.SourcePlaceLemmas.{PassedNth, nth_less, nth_more}
use Rattle.ini_edit.proofs.source.section.SourceSection.nth.Goals.{else-is_same_text}
use Rattle.ini_edit.proofs.source.section.SourceSection.nth.Goals.{then-is_same_text+else-left-eq0}
use Rattle.ini_edit.proofs.source.section.SourceSection.nth.Goals as goal

pub loop-i-preserved : goal.loop-i-preserved
loop-i-preserved c =
    let key = chars c.args.key.now in
    let items = c.deref-pair-items.result.now in
    let fits = ap (is_text key) (sym c.key.ensures) ∙ sym c.is_same_text.ensures in
    elim c.if-is_same_text.branch [
      | then-is_same_text+else-left-eq0 w ↦
          subst (λ m. PassedNth (λ p. is_text key p.key) c.args.n items m (c.loop-i.i + 1)) (sym w.left-is)
          (nth_less (λ p. is_text key p.key) c.loop-i.invariant c.loop-i-test.true c.pair-item.is
          (fits ∙ w.if-is_same_text.true) w.if-left-eq0.false)
      | else-is_same_text w ↦
          subst (λ m. PassedNth (λ p. is_text key p.key) c.args.n items m (c.loop-i.i + 1)) (sym w.left-is)
          (nth_more (λ p. is_text key p.key) c.loop-i.invariant c.loop-i-test.true c.pair-item.is
          (fits ∙ w.if-is_same_text.false))
    ]
