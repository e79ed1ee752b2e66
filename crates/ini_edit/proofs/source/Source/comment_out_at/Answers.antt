use Rattle.std.proofs.Common.{ap, arith, set, subst}
use Rattle.std.proofs.lemmas.Result.{err_from_is_err_and}
use Rattle.std.specs.Option.{option_map}
use Rattle.ini_edit.specs.Inside.SourceEnds.{PutsOr}
use Rattle.ini_edit.specs.SourceEditsAt.{IsCommentedOutAtIndex, RefusesToCommentOutAtIndex, indexed_pair}
use Rattle.ini_edit.specs.SourceEditsComments.{pair_commented_out}
use Rattle.ini_edit.specs.SourcePlaces.{section_exchanged}
use Rattle.ini_edit.specs.Sources.{Pieces}
use Rattle.ini_edit.specs.declared.error.EditError.TheVariants.{NoPlace}
use Rattle.ini_edit.proofs.SourceCommentLemmas.{out_sections, out_there, pair_read, pair_there}
use Rattle.ini_edit.proofs.SourceIndexLemmas.{out_indexed}
use Rattle.ini_edit.proofs.SourcePlaceLemmas.{place_within}
use Rattle.ini_edit.proofs.SourceWrittenLemmas.{pair_within}
use Rattle.ini_edit.proofs.source.Source.comment_out_at.Goals as goal

pub last_before-front-requires : goal.last_before-front-requires
last_before-front-requires c =
    let at = c.has_at.ensures.there c.if-not-has_at.false in
    let within = place_within at.section in
    omega (arith, within)

pub index_mut-requires : goal.index_mut-requires
index_mut-requires c =
    let at = pair_there (indexed_pair c.args.section c.args.pair) c.self.view_is
    (c.has_at.ensures.there c.if-not-has_at.false) in
    let within = place_within at.section in
    omega (arith, c.self.inside.sections.ok.0)

pub comment_out-requires : goal.comment_out-requires
comment_out-requires c =
    let at = pair_there (indexed_pair c.args.section c.args.pair) c.self.view_is
    (c.has_at.ensures.there c.if-not-has_at.false) in
    pair_within at c.index_mut.ensures.value

pub returns-in_err-comment_out-clause-refused : goal.returns-in_err-comment_out-clause-refused
returns-in_err-comment_out-clause-refused c =
    let p = err_from_is_err_and c.from_residual.result c.from_residual.ensures.1 in
    rw (p.1, p.2, c.in_err-comment_out.ensures.only) RefusesToCommentOutAtIndex.no_memory_at

pub returns-clause-refused : goal.returns-clause-refused
returns-clause-refused c =
    let find = indexed_pair c.args.section c.args.pair in
    let found = c.has_at.ensures.there c.if-not-has_at.false in
    let there = pair_there find c.self.view_is found in
    let read = c.index_mut.ensures.value in
    let is = c.in_ok-comment_out.ensures.commented there.place.pair
    (pair_read find c.self.view_is found read) in
    let none = (subst (PutsOr (pair_commented_out c.self.inside.option c.last_before-front.result
    c.index_mut.result.now there.place.pair) c.index_mut.result.now c.comment_out.new.self) c.if-branch.false
    is).0 in
    subst (λ (v : Pieces). RefusesToCommentOutAtIndex v.option v.sections c.args.section c.args.pair NoPlace)
    c.self.view_is
    (RefusesToCommentOutAtIndex.no_place_at there.is
    (ap (option_map (section_exchanged there.place))
    (out_there find c.self.view_is found read c.last_before-front.ensures none)))

pub invariant_of-self-then-branch : goal.invariant_of-self-then-branch
invariant_of-self-then-branch c =
    let find = indexed_pair c.args.section c.args.pair in
    let found = c.has_at.ensures.there c.if-not-has_at.false in
    let there = pair_there find c.self.view_is found in
    let read = c.index_mut.ensures.value in
    let is = c.in_ok-comment_out.ensures.commented there.place.pair
    (pair_read find c.self.view_is found read) in
    let put = subst (PutsOr (pair_commented_out c.self.inside.option c.last_before-front.result
    c.index_mut.result.now there.place.pair) c.index_mut.result.now c.comment_out.new.self) c.if-branch.true
    is in
    out_sections c.self.inside.option c.self.inside.sections.items there
    (out_there find c.self.view_is found read c.last_before-front.ensures put) c.self.invariant

pub returns-then-branch-clause-commented : goal.returns-then-branch-clause-commented
returns-then-branch-clause-commented c =
    let find = indexed_pair c.args.section c.args.pair in
    let found = c.has_at.ensures.there c.if-not-has_at.false in
    let there = pair_there find c.self.view_is found in
    let read = c.index_mut.ensures.value in
    let is = c.in_ok-comment_out.ensures.commented there.place.pair
    (pair_read find c.self.view_is found read) in
    let put = subst (PutsOr (pair_commented_out c.self.inside.option c.last_before-front.result
    c.index_mut.result.now there.place.pair) c.index_mut.result.now c.comment_out.new.self) c.if-branch.true
    is in
    let after : Pieces = record {
      option = c.self.inside.option;
      sections = set c.self.inside.sections.items c.args.section c.comment_out.new.self;
    } in
    subst (λ (v : Pieces). IsCommentedOutAtIndex v.option v after c.args.section c.args.pair) c.self.view_is
    (out_indexed c.self.inside.option c.self.inside.sections.items there
    (out_there find c.self.view_is found read c.last_before-front.ensures put))
