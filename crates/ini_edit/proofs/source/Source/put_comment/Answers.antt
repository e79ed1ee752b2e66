use Rattle.std.proofs.Common.{ap, arith, chars, set, subst}
use Rattle.std.proofs.lemmas.Result.{err_from_is_err_and}
use Rattle.std.specs.Option.{option_map}
use Rattle.ini_edit.specs.SourceEditsAt.{IsCommentedAtIndex, RefusesCommentAtIndex, indexed_pair}
use Rattle.ini_edit.specs.SourcePlaces.{section_exchanged}
use Rattle.ini_edit.specs.Sources.{Pieces}
use Rattle.ini_edit.specs.declared.error.EditError.TheVariants.{NoPlace}
use Rattle.ini_edit.proofs.SourceCommentLemmas.{comment_ended, comment_sections, comment_told, pair_there}
use Rattle.ini_edit.proofs.SourceIndexLemmas.{comment_indexed}
use Rattle.ini_edit.proofs.source.Source.put_comment.Goals as goal

pub returns-in_err-new-clause-refused : goal.returns-in_err-new-clause-refused
returns-in_err-new-clause-refused c =
    let p = err_from_is_err_and c.from_residual.result c.from_residual.ensures.1 in
    rw (p.1, p.2, c.in_err-new.ensures.only) (RefusesCommentAtIndex.no_memory_above c.requires.text)

pub returns-in_default-clause-refused : goal.returns-in_default-clause-refused
returns-in_default-clause-refused c =
    let find = indexed_pair c.args.section c.args.pair in
    let comment = chars c.args.comment.now in
    let there = pair_there find c.self.view_is c.requires.there in
    subst (λ (v : Pieces). RefusesCommentAtIndex v.option c.args.write.now v.sections c.args.section
    c.args.pair comment NoPlace) c.self.view_is
    (RefusesCommentAtIndex.no_place_bare_at c.requires.text there.is
    (ap (option_map (section_exchanged there.place))
    (comment_told find c.self.view_is c.requires.there c.index.ensures c.args.write.now comment
    c.last_before-front.ensures c.line_end-end.ensures c.in_ok-new.ensures.put c.in_default.is)))

pub invariant_of-self : goal.invariant_of-self
invariant_of-self c =
    let find = indexed_pair c.args.section c.args.pair in
    let comment = chars c.args.comment.now in
    let there = pair_there find c.self.view_is c.requires.there in
    comment_sections c.self.inside.option c.args.write.now c.self.inside.sections.items there comment
    c.requires.text
    (comment_ended find c.self.view_is c.requires.there c.index.ensures c.args.write.now comment
    c.last_before-front.ensures c.line_end-end.ensures c.in_ok-new.ensures.put c.in-Some.is
    c.index_mut.ensures.value c.put_new_end.ensures) c.self.invariant

pub returns-clause-put : goal.returns-clause-put
returns-clause-put c =
    let find = indexed_pair c.args.section c.args.pair in
    let comment = chars c.args.comment.now in
    let there = pair_there find c.self.view_is c.requires.there in
    let after : Pieces = record {
      option = c.self.inside.option;
      sections = set c.self.inside.sections.items c.args.section c.put_new_end.new.self;
    } in
    subst (λ (v : Pieces). IsCommentedAtIndex v.option c.args.write.now v after c.args.section c.args.pair
    comment) c.self.view_is
    (comment_indexed c.self.inside.option c.args.write.now c.self.inside.sections.items there comment
    c.requires.text
    (comment_ended find c.self.view_is c.requires.there c.index.ensures c.args.write.now comment
    c.last_before-front.ensures c.line_end-end.ensures c.in_ok-new.ensures.put c.in-Some.is
    c.index_mut.ensures.value c.put_new_end.ensures))
