use Rattle.std.proofs.Common.{◌≡◌, ap, chars, get_or, subst}
use Rattle.ini.specs.Texts.{str_name}
use Rattle.ini_edit.proofs.SourceFindLemmas.{pair_at}
use Rattle.ini_edit.proofs.source.Source.place.Goals as goal

pub returns : goal.returns
returns c =
    let section = c.index.result.now in
    let i = c.in_ok-section.section in
    let read = subst (λ ss. section ≡ get_or ss i section) (ap (λ v. v.sections) c.self.view_is)
    c.index.ensures in
    pair_at (str_name c.args.name) (chars c.args.key.now) c.args.n c.args.self.now.sections
    c.in_ok-section.ensures read c.in_ok-pair.ensures
