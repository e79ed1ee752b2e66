use Rattle.std.proofs.Common.{arith, chars, set, subst, true}
use Rattle.ini_edit.specs.SourceEditsAt.{RenamesAtIndex, indexed_pair}
use Rattle.ini_edit.specs.Sources.{Pieces}
use Rattle.ini_edit.proofs.SourceCommentLemmas.{pair_there}
use Rattle.ini_edit.proofs.SourceIndexLemmas.{renamed_indexed, renamed_stands}
use Rattle.ini_edit.proofs.SourcePlaceLemmas.{place_within}
use Rattle.ini_edit.proofs.SourceWrittenLemmas.{pair_within, place_in}
use Rattle.ini_edit.proofs.source.Source.rename_key_at.Goals as goal

pub index_mut-requires : goal.index_mut-requires
index_mut-requires c =
    let at = pair_there (indexed_pair c.args.section c.args.pair) c.self.view_is
    (c.has_at.ensures.there c.if-not-has_at.false) in
    let within = place_within at.section in
    omega (arith, c.self.inside.sections.ok.0)

pub rename_at-requires : goal.rename_at-requires
rename_at-requires c =
    let at = pair_there (indexed_pair c.args.section c.args.pair) c.self.view_is
    (c.has_at.ensures.there c.if-not-has_at.false) in
    pair_within at c.index_mut.ensures.value

pub returns-clause-renamed : goal.returns-clause-renamed
returns-clause-renamed c =
    let at = pair_there (indexed_pair c.args.section c.args.pair) c.self.view_is
    (c.has_at.ensures.there c.if-not-has_at.false) in
    let is = c.in_ok-rename_at.ensures.renamed at.place.pair (place_in at c.index_mut.ensures.value) in
    let after : Pieces = record {
      option = c.self.inside.option;
      sections = set c.self.inside.sections.items c.args.section c.rename_at.new.self;
    } in
    subst (λ (v : Pieces). RenamesAtIndex v.option c.args.policy v after c.args.section c.args.pair
    (chars c.args.key.now) true) c.self.view_is (renamed_indexed at c.index_mut.ensures.value is)

pub invariant_of-self-2 : goal.invariant_of-self-2
invariant_of-self-2 c =
    let at = pair_there (indexed_pair c.args.section c.args.pair) c.self.view_is
    (c.has_at.ensures.there c.if-not-has_at.false) in
    let is = c.in_ok-rename_at.ensures.renamed at.place.pair (place_in at c.index_mut.ensures.value) in
    renamed_stands at c.index_mut.ensures.value is
    (c.is_plain_bare_key.ensures.0 c.if-not-is_plain_bare_key.false) c.self.invariant
