use Rattle.std.proofs.Common.{◌≡◌, ◌∙◌, ◌+◌, ap, chars, drop, subst, sym}
use Rattle.ini.specs.Texts.{is_text}
use Rattle.ini_edit.specs.SourceEditsDelete.{begin_with_blank}
use Rattle.ini_edit.proofs.WithoutLemmas.{WithoutSoFar, without_end, without_kept, without_other, without_out}
use Rattle.ini_edit.proofs.WithoutLemmas.{without_start}
use Rattle.ini_edit.proofs.source.section.SourceSection.without.Goals.{else-is_same_text}
use Rattle.ini_edit.proofs.source.section.SourceSection.without.Goals.{then-is_same_text+else-left-eq0}
use Rattle.ini_edit.proofs.source.section.SourceSection.without.Goals as goal

pub loop-index-init : goal.loop-index-init
loop-index-init c =
    without_start c.args.read c.args.front (chars c.args.key.now) c.args.kept
    (c.deref-pair-items.ensures.value ∙ ap (λ s. s.pairs) c.self.view_is) c.in_ok-new.ensures.copied

pub loop-index-preserved-then-left-eq0 : goal.loop-index-preserved-then-left-eq0
loop-index-preserved-then-left-eq0 c =
    let key = chars c.args.key.now in
    let items = c.deref-pair-items.result.now in
    let later = drop (c.loop-index.index + 1) items in
    let whole : items ≡ c.args.self.now.pairs = c.deref-pair-items.ensures.value
    ∙ ap (λ s. s.pairs) c.self.view_is in
    without_out c.args.read c.args.front key c.args.kept c.loop-index.invariant c.loop-index-test.true
    c.pair-item.is
    (ap (is_text key) (sym c.key.ensures) ∙ sym c.is_same_text.ensures ∙ c.if-is_same_text.true)
    c.if-left-eq0.true (c.in_ok-push_rest_of.ensures.pushed later
    (c.would_be_taken-is_taken.ensures later (c.is_before_blank.ensures
    ∙ ap (λ l. begin_with_blank (drop (c.loop-index.index + 1) l)) (sym whole))))

pub loop-index-preserved : goal.loop-index-preserved
loop-index-preserved c =
    let o = c.args.read in
    let front = c.args.front in
    let key = chars c.args.key.now in
    let kept = c.args.kept in
    let new = c.push.new.self in
    let items = c.deref-pair-items.result.now in
    let fits = ap (is_text key) (sym c.key.ensures) ∙ sym c.is_same_text.ensures in
    elim c.if-is_same_text.branch [
      | then-is_same_text+else-left-eq0 w ↦
          subst (λ m. WithoutSoFar o front key kept c.args.self.now items new m (c.loop-index.index + 1))
          (sym w.left-is)
          (without_kept o front key kept c.loop-index.invariant c.loop-index-test.true c.pair-item.is
          (fits ∙ w.if-is_same_text.true) w.if-left-eq0.false c.in_ok-copy.ensures.copied
          c.in_ok-push.ensures.pushed)
      | else-is_same_text w ↦
          subst (λ m. WithoutSoFar o front key kept c.args.self.now items new m (c.loop-index.index + 1))
          (sym w.left-is)
          (without_other o front key kept c.loop-index.invariant c.loop-index-test.true c.pair-item.is
          (fits ∙ w.if-is_same_text.false) c.in_ok-copy.ensures.copied c.in_ok-push.ensures.pushed)
    ]

pub returns-clause-without : goal.returns-clause-without
returns-clause-without c =
    without_end c.args.read c.args.front (chars c.args.key.now) c.args.kept c.loop-index.invariant
    c.loop-index-test.false
