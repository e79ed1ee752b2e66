use Rattle.std.proofs.Common.{◌∙◌, List, ap, arith, map, subst, sym}
use Rattle.std.specs.List.{remove}
use Rattle.ini_edit.specs.Inside.SourceEnds.{IsPairAt, last_before}
use Rattle.ini_edit.specs.SourceEditsAt.{at_section, deleted_at_index, indexed_pair}
use Rattle.ini_edit.specs.SourceEditsList.{with_sections}
use Rattle.ini_edit.specs.Sources.{Pieces, SectionPiece, given_section}
use Rattle.ini_edit.proofs.SourceIndexLemmas.{pair_read, taken_document, taken_indexed, taken_stands}
use Rattle.ini_edit.proofs.SourcePlaceLemmas.{place_within}
use Rattle.ini_edit.proofs.source.Source.delete_at.Goals as goal

pub last_before-front-requires : goal.last_before-front-requires
last_before-front-requires c =
    let at = c.has_at.ensures.there c.if-not-has_at.false in
    let within = place_within at.section in
    omega (arith, within)

pub index_mut-requires : goal.index_mut-requires
index_mut-requires c =
    let at = subst (λ (v : Pieces). IsPairAt (indexed_pair c.args.section c.args.pair v.sections) v.sections
    c.args.section c.args.pair) (sym c.self.view_is) (c.has_at.ensures.there c.if-not-has_at.false) in
    let within = place_within at.section in
    omega (arith, c.self.inside.sections.ok.0)

pub take_out-requires : goal.take_out-requires
take_out-requires c =
    let at = subst (λ (v : Pieces). IsPairAt (indexed_pair c.args.section c.args.pair v.sections) v.sections
    c.args.section c.args.pair) (sym c.self.view_is) (c.has_at.ensures.there c.if-not-has_at.false) in
    place_within (pair_read at c.index_mut.ensures.value)

pub returns-clause-deleted : goal.returns-clause-deleted
returns-clause-deleted c =
    let at = subst (λ (v : Pieces). IsPairAt (indexed_pair c.args.section c.args.pair v.sections) v.sections
    c.args.section c.args.pair) (sym c.self.view_is) (c.has_at.ensures.there c.if-not-has_at.false) in
    let before = c.last_before-front.ensures
    ∙ ap (λ (v : Pieces). last_before v.sections c.args.section) (sym c.self.view_is) in
    let put : List SectionPiece → Pieces = λ ss. record { option = c.self.inside.option; sections = ss } in
    ap put (taken_indexed at c.index_mut.ensures.value c.self.inside.option c.take_out.new.self
    c.last_before-front.result before c.in_ok-take_out.ensures.deleted)
    ∙ ap (λ (v : Pieces). with_sections v (deleted_at_index v.option c.args.section c.args.pair v.sections))
    c.self.view_is

pub returns-clause-document : goal.returns-clause-document
returns-clause-document c = λ done.
    let at = subst (λ (v : Pieces). IsPairAt (indexed_pair c.args.section c.args.pair v.sections) v.sections
    c.args.section c.args.pair) (sym c.self.view_is) (c.has_at.ensures.there c.if-not-has_at.false) in
    let before = c.last_before-front.ensures
    ∙ ap (λ (v : Pieces). last_before v.sections c.args.section) (sym c.self.view_is) in
    taken_document at c.index_mut.ensures.value c.self.inside.option c.take_out.new.self
    c.last_before-front.result before c.in_ok-take_out.ensures.deleted
    ∙ ap (λ (v : Pieces). at_section c.args.section (λ pairs. remove pairs c.args.pair)
    (map given_section v.sections)) c.self.view_is

pub invariant_of-self-2 : goal.invariant_of-self-2
invariant_of-self-2 c =
    let at = subst (λ (v : Pieces). IsPairAt (indexed_pair c.args.section c.args.pair v.sections) v.sections
    c.args.section c.args.pair) (sym c.self.view_is) (c.has_at.ensures.there c.if-not-has_at.false) in
    let before = c.last_before-front.ensures
    ∙ ap (λ (v : Pieces). last_before v.sections c.args.section) (sym c.self.view_is) in
    taken_stands at c.index_mut.ensures.value c.self.inside.option c.take_out.new.self
    c.last_before-front.result before c.in_ok-take_out.ensures.deleted c.self.invariant
