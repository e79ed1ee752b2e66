use Rattle.std.proofs.Common.{◌≡◌, ◌∙◌, None, Some, ap, chars, map, refl, subst, sym}
use Rattle.ini.specs.Properties.{first_value}
use Rattle.ini.specs.Texts.{is_text}
use Rattle.ini_edit.specs.Inside.SourceSteps.{IsFirstAt}
use Rattle.ini_edit.specs.SourceEdits.{first_fitting}
use Rattle.ini_edit.specs.Sources.{given_pair}
use Rattle.ini_edit.proofs.FirstLemmas.{looked_none, looked_up}
use Rattle.ini_edit.proofs.source.section.SourceSection.get.Goals as goal

pub returns-in-Some : goal.returns-in-Some
returns-in-Some c =
    let key = chars c.args.key.now in
    ap Some c.value.ensures
    ∙ sym (looked_up (λ p. is_text key p.key) (is_text key) given_pair (λ p. refl)
    (subst (λ l. IsFirstAt
    (λ p. is_text key p.key) l c.in-Some.index) c.deref.ensures.value c.in-Some.ensures)
    c.index.ensures)
    ∙ ap (λ s. first_value key (map given_pair s.pairs)) c.self.view_is

pub returns-in-None : goal.returns-in-None
returns-in-None c =
    let key = chars c.args.key.now in
    sym (looked_none (λ p. is_text key p.key) (is_text key) given_pair (λ p. refl) c.self.inside.pairs.items
    (subst (λ l. first_fitting (λ p. is_text key p.key) l ≡ None) c.deref.ensures.value c.in-None.ensures))
    ∙ ap (λ s. first_value key (map given_pair s.pairs)) c.self.view_is
