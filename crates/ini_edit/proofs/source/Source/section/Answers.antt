use Rattle.std.proofs.Common.{◌≡◌, ◌∙◌, None, ap, map, refl, subst, sym}
use Rattle.ini.specs.Documents.{first_section}
use Rattle.ini.specs.Texts.{is_name, str_name}
use Rattle.ini_edit.specs.Inside.SourceSteps.{IsFirstAt}
use Rattle.ini_edit.specs.SourceEdits.{first_fitting}
use Rattle.ini_edit.specs.Sources.{given_section}
use Rattle.ini_edit.proofs.FirstLemmas.{looked_none, looked_up}
use Rattle.ini_edit.proofs.source.Source.section.Goals as goal

pub returns-in-Some : goal.returns-in-Some
returns-in-Some c =
    let name = str_name c.args.name in
    sym (looked_up (λ s. is_name name s.name) (is_name name) given_section (λ s. refl)
    (subst (λ l. IsFirstAt (λ s. is_name name s.name) l c.in-Some.index) c.deref.ensures.value
    c.in-Some.ensures) c.index.ensures)
    ∙ ap (λ v. first_section name (map given_section v.sections)) c.self.view_is

pub returns-in-None : goal.returns-in-None
returns-in-None c =
    let name = str_name c.args.name in
    sym (looked_none (λ s. is_name name s.name) (is_name name) given_section (λ s. refl)
    c.self.inside.sections.items
    (subst (λ l. first_fitting (λ s. is_name name s.name) l ≡ None) c.deref.ensures.value c.in-None.ensures))
    ∙ ap (λ v. first_section name (map given_section v.sections)) c.self.view_is
