use Rattle.std.proofs.Common.{◌∙◌, List, ap, chars, subst, sym}
use Rattle.ini.specs.Texts.{str_name}
use Rattle.ini_edit.specs.Inside.Spans.{AreSections}
use Rattle.ini_edit.specs.SourceEditsDelete.{deleted_from}
use Rattle.ini_edit.specs.SourceEditsList.{with_sections}
use Rattle.ini_edit.specs.Sources.{Pieces, SectionPiece}
use Rattle.ini_edit.proofs.DeletedSourceLemmas.{from_sections}
use Rattle.ini_edit.proofs.DeletedStepLemmas.{from_nowhere, from_set}
use Rattle.ini_edit.proofs.source.Source.delete_from.Goals as goal

pub returns-in_default-clause-deleted : goal.returns-in_default-clause-deleted
returns-in_default-clause-deleted c =
    let old = c.args.self.now in
    ap (with_sections old) (sym (from_nowhere old.option (str_name c.args.name) (chars c.args.key.now)
    c.args.kept old.sections c.in_default.ensures))

pub returns-clause-deleted : goal.returns-clause-deleted
returns-clause-deleted c =
    let name = str_name c.args.name in
    let key = chars c.args.key.now in
    let put : List SectionPiece → Pieces = λ ss. record { option = c.self.inside.option; sections = ss } in
    ap put (from_set name key c.args.kept c.self.view_is c.in-Some.ensures c.index.ensures _
    c.last_before-front.result c.last_before-front.ensures c.in_ok-new.ensures.without)
    ∙ ap (λ v. with_sections v (deleted_from v.option name key c.args.kept v.sections)) c.self.view_is

pub invariant_of-self : goal.invariant_of-self
invariant_of-self c =
    let name = str_name c.args.name in
    let key = chars c.args.key.now in
    subst (AreSections c.self.inside.option)
    (sym (from_set name key c.args.kept c.self.view_is c.in-Some.ensures c.index.ensures _
    c.last_before-front.result c.last_before-front.ensures c.in_ok-new.ensures.without))
    (from_sections c.self.inside.option name key c.args.kept c.self.inside.sections.items c.self.invariant)
