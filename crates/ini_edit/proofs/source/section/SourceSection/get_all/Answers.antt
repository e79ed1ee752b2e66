use Rattle.std.proofs.Common.{[], ◌∷◌, ◌++◌, ◌∙◌, ap, chars, map, subst, sym}
use Rattle.std.proofs.lemmas.List.{map-append}
use Rattle.ini.specs.Properties.{values}
use Rattle.ini.specs.Texts.{is_text, str_text}
use Rattle.ini_edit.specs.Sources.{given_pair}
use Rattle.ini_edit.proofs.KeyValueLemmas.{GathersTo, gathered_apart, gathered_end, gathered_same}
use Rattle.ini_edit.proofs.KeyValueLemmas.{gathered_start}
use Rattle.ini_edit.proofs.source.section.SourceSection.get_all.Goals as goal

pub loop-pair-init : goal.loop-pair-init
loop-pair-init c =
    subst (λ l. GathersTo (chars c.args.key.now) c.deref-pair-items.result.now 0 (map str_text l))
    (sym c.new-found.ensures.items)
    (gathered_start (chars c.args.key.now) c.deref-pair-items.result.now)

pub loop-pair-preserved-then-not-is_same_text : goal.loop-pair-preserved-then-not-is_same_text
loop-pair-preserved-then-not-is_same_text c =
    let key = chars c.args.key.now in
    gathered_apart key c.deref-pair-items.result.now c.loop-pair.invariant c.loop-pair-test.true
    c.pair-item.is
    (ap (is_text key) (sym c.key.ensures) ∙ sym c.is_same_text.ensures ∙ c.if-not-is_same_text.true)

pub loop-pair-preserved : goal.loop-pair-preserved
loop-pair-preserved c =
    let key = chars c.args.key.now in
    let items = c.deref-pair-items.result.now in
    subst (GathersTo key items _)
    (ap (λ v. map str_text c.loop-pair.found.items ++ v ∷ []) (sym c.value.ensures)
    ∙ sym (map-append str_text c.loop-pair.found.items (c.value.result ∷ []))
    ∙ ap (map str_text) (sym c.in_ok-push.ensures.items))
    (gathered_same key items c.loop-pair.invariant c.loop-pair-test.true c.pair-item.is
    (ap (is_text key) (sym c.key.ensures) ∙ sym c.is_same_text.ensures ∙ c.if-not-is_same_text.false))

pub returns-clause-values : goal.returns-clause-values
returns-clause-values c =
    let key = chars c.args.key.now in
    gathered_end key c.deref-pair-items.result.now c.loop-pair.invariant c.loop-pair-test.false
    ∙ ap (λ l. values key (map given_pair l)) c.deref-pair-items.ensures.value
    ∙ ap (λ s. values key (map given_pair s.pairs)) c.self.view_is
