use Rattle.std.proofs.Common.{◌∙◌, List, ap, chars, subst, sym}
use Rattle.ini.specs.Texts.{str_name}
use Rattle.ini_edit.specs.Inside.Spans.{AreSections}
use Rattle.ini_edit.specs.SourceEditsDelete.{deleted_nth}
use Rattle.ini_edit.specs.SourceEditsList.{with_sections}
use Rattle.ini_edit.specs.Sources.{Pieces, SectionPiece}
use Rattle.ini_edit.proofs.DeletedSourceLemmas.{nth_sections}
use Rattle.ini_edit.proofs.DeletedStepLemmas.{nth_nowhere, nth_set, pair_within_section}
use Rattle.ini_edit.proofs.source.Source.delete_nth.Goals as goal

pub returns-in_default-clause-deleted : goal.returns-in_default-clause-deleted
returns-in_default-clause-deleted c =
    let old = c.args.self.now in
    ap (with_sections old) (sym (nth_nowhere old.option (str_name c.args.name) (chars c.args.key.now) c.args.n
    old.sections c.in_default.ensures))

pub take_out-requires : goal.take_out-requires
take_out-requires c =
    pair_within_section (str_name c.args.name) (chars c.args.key.now) c.args.n c.self.view_is
    c.in-Some.ensures
    c.index_mut.ensures.value

pub returns-clause-deleted : goal.returns-clause-deleted
returns-clause-deleted c =
    let name = str_name c.args.name in
    let key = chars c.args.key.now in
    let put : List SectionPiece → Pieces = λ ss. record { option = c.self.inside.option; sections = ss } in
    ap put (nth_set name key c.args.n c.self.view_is c.in-Some.ensures c.index_mut.ensures.value
    c.take_out.new.self
    c.last_before-front.result c.last_before-front.ensures c.in_ok-take_out.ensures.deleted)
    ∙ ap (λ v. with_sections v (deleted_nth v.option name key c.args.n v.sections)) c.self.view_is

pub invariant_of-self-2 : goal.invariant_of-self-2
invariant_of-self-2 c =
    let name = str_name c.args.name in
    let key = chars c.args.key.now in
    subst (AreSections c.self.inside.option)
    (sym (nth_set name key c.args.n c.self.view_is c.in-Some.ensures c.index_mut.ensures.value
    c.take_out.new.self
    c.last_before-front.result c.last_before-front.ensures c.in_ok-take_out.ensures.deleted))
    (nth_sections c.self.inside.option name key c.args.n c.self.inside.sections.items c.self.invariant)
