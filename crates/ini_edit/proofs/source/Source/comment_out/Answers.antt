use Rattle.std.proofs.Common.{ap, chars, set, subst}
use Rattle.std.proofs.lemmas.Result.{err_from_is_err_and}
use Rattle.std.specs.Option.{option_map}
use Rattle.ini.specs.Texts.{str_name}
use Rattle.ini_edit.specs.Inside.SourceEnds.{PutsOr}
use Rattle.ini_edit.specs.SourceEditsComments.{IsCommentedOut, RefusesToCommentOut, pair_commented_out}
use Rattle.ini_edit.specs.SourcePlaces.{pair_place, section_exchanged}
use Rattle.ini_edit.specs.Sources.{Pieces}
use Rattle.ini_edit.specs.declared.error.EditError.TheVariants.{NoPlace}
use Rattle.ini_edit.proofs.SourceCommentLemmas.{out_made, out_sections, out_there, pair_read, pair_there}
use Rattle.ini_edit.proofs.source.Source.comment_out.Goals as goal

pub returns-in_err-comment_out-clause-refused : goal.returns-in_err-comment_out-clause-refused
returns-in_err-comment_out-clause-refused c =
    let p = err_from_is_err_and c.from_residual.result c.from_residual.ensures.1 in
    rw (p.1, p.2, c.in_err-comment_out.ensures.only) RefusesToCommentOut.no_memory_out

pub returns-clause-refused : goal.returns-clause-refused
returns-clause-refused c =
    let name = str_name c.args.name in
    let key = chars c.args.key.now in
    let there = pair_there (pair_place name key 0) c.self.view_is c.in-Some.ensures in
    let read = c.index_mut.ensures.value in
    let is = c.in_ok-comment_out.ensures.commented there.place.pair
    (pair_read (pair_place name key 0) c.self.view_is c.in-Some.ensures read) in
    let none = (subst (PutsOr (pair_commented_out c.self.inside.option c.last_before-front.result
    c.index_mut.result.now there.place.pair) c.index_mut.result.now c.comment_out.new.self) c.if-branch.false
    is).0 in
    subst (λ v. RefusesToCommentOut v.option v.sections name key NoPlace) c.self.view_is
    (RefusesToCommentOut.no_place_out there.is
    (ap (option_map (section_exchanged there.place))
    (out_there (pair_place name key 0) c.self.view_is c.in-Some.ensures read c.last_before-front.ensures none)))

pub invariant_of-self-then-branch : goal.invariant_of-self-then-branch
invariant_of-self-then-branch c =
    let name = str_name c.args.name in
    let key = chars c.args.key.now in
    let there = pair_there (pair_place name key 0) c.self.view_is c.in-Some.ensures in
    let read = c.index_mut.ensures.value in
    let is = c.in_ok-comment_out.ensures.commented there.place.pair
    (pair_read (pair_place name key 0) c.self.view_is c.in-Some.ensures read) in
    let put = subst (PutsOr (pair_commented_out c.self.inside.option c.last_before-front.result
    c.index_mut.result.now there.place.pair) c.index_mut.result.now c.comment_out.new.self) c.if-branch.true
    is in
    out_sections c.self.inside.option c.self.inside.sections.items there
    (out_there (pair_place name key 0) c.self.view_is c.in-Some.ensures read c.last_before-front.ensures put)
    c.self.invariant

pub returns-then-branch-clause-commented : goal.returns-then-branch-clause-commented
returns-then-branch-clause-commented c =
    let name = str_name c.args.name in
    let key = chars c.args.key.now in
    let there = pair_there (pair_place name key 0) c.self.view_is c.in-Some.ensures in
    let read = c.index_mut.ensures.value in
    let is = c.in_ok-comment_out.ensures.commented there.place.pair
    (pair_read (pair_place name key 0) c.self.view_is c.in-Some.ensures read) in
    let put = subst (PutsOr (pair_commented_out c.self.inside.option c.last_before-front.result
    c.index_mut.result.now there.place.pair) c.index_mut.result.now c.comment_out.new.self) c.if-branch.true
    is in
    let after : Pieces = record {
      option = c.self.inside.option;
      sections = set c.self.inside.sections.items c.in-Some.section c.comment_out.new.self;
    } in
    subst (λ v. IsCommentedOut v.option v after name key) c.self.view_is
    (out_made c.self.inside.option c.self.inside.sections.items name key there
    (out_there (pair_place name key 0) c.self.view_is c.in-Some.ensures read c.last_before-front.ensures put))
