use Rattle.std.proofs.Common.{◌≡◌, ◌∙◌, MatchOption, None, ap, subst}
use Rattle.ini.specs.Texts.{is_name, str_name}
use Rattle.ini_edit.specs.Inside.SourceEnds.{IsFound}
use Rattle.ini_edit.specs.SourcePlaces.{section_place}
use Rattle.ini_edit.proofs.SourceFindLemmas.{found_by}
use Rattle.ini_edit.proofs.source.Source.position.Goals as goal

pub returns : goal.returns
returns c =
    let name = str_name c.args.name in
    let found = c.position.result in
    subst (λ ss. MatchOption found (section_place name ss ≡ None) (IsFound ss (section_place name ss)))
    (c.deref.ensures.value ∙ ap (λ v. v.sections) c.self.view_is)
    (found_by (λ s. is_name name s.name) c.deref.result.now found c.position.ensures)
