use Rattle.std.proofs.Common.{arith, chars, set, subst, sym, true}
use Rattle.ini_edit.specs.Inside.SourceEnds.{IsPairAt}
use Rattle.ini_edit.specs.SourceEditsAt.{SetsAtIndex, indexed_pair}
use Rattle.ini_edit.specs.Sources.{Pieces}
use Rattle.ini_edit.proofs.SourceIndexLemmas.{set_indexed}
use Rattle.ini_edit.proofs.SourcePlaceLemmas.{place_within}
use Rattle.ini_edit.proofs.SourceWrittenLemmas.{own_read, pair_within, place_in, sections_set_read}
use Rattle.ini_edit.proofs.source.Source.set_at.Goals as goal

pub index_mut-requires : goal.index_mut-requires
index_mut-requires c =
    let at = subst (λ (v : Pieces). IsPairAt (indexed_pair c.args.section c.args.pair v.sections) v.sections
    c.args.section c.args.pair) (sym c.self.view_is) (c.has_at.ensures.there c.if-not-has_at.false) in
    let within = place_within at.section in
    omega (arith, c.self.inside.sections.ok.0)

pub set_at-requires-clause-index : goal.set_at-requires-clause-index
set_at-requires-clause-index c =
    let at = subst (λ (v : Pieces). IsPairAt (indexed_pair c.args.section c.args.pair v.sections) v.sections
    c.args.section c.args.pair) (sym c.self.view_is) (c.has_at.ensures.there c.if-not-has_at.false) in
    pair_within at c.index_mut.ensures.value

pub set_at-requires-clause-own : goal.set_at-requires-clause-own
set_at-requires-clause-own c =
    let at = subst (λ (v : Pieces). IsPairAt (indexed_pair c.args.section c.args.pair v.sections) v.sections
    c.args.section c.args.pair) (sym c.self.view_is) (c.has_at.ensures.there c.if-not-has_at.false) in
    own_read at c.index_mut.ensures.value c.self.invariant

pub returns-clause-set : goal.returns-clause-set
returns-clause-set c =
    let at = subst (λ (v : Pieces). IsPairAt (indexed_pair c.args.section c.args.pair v.sections) v.sections
    c.args.section c.args.pair) (sym c.self.view_is) (c.has_at.ensures.there c.if-not-has_at.false) in
    let is = c.in_ok-set_at.ensures.set at.place.pair (place_in at c.index_mut.ensures.value) in
    let after : Pieces = record {
      option = c.self.inside.option;
      sections = set c.self.inside.sections.items c.args.section c.set_at.new.self;
    } in
    subst (λ (v : Pieces). SetsAtIndex v.option c.args.policy v after c.args.section c.args.pair
    (chars c.args.value.now) true) c.self.view_is (set_indexed at c.index_mut.ensures.value is)

pub invariant_of-self-2 : goal.invariant_of-self-2
invariant_of-self-2 c =
    let at = subst (λ (v : Pieces). IsPairAt (indexed_pair c.args.section c.args.pair v.sections) v.sections
    c.args.section c.args.pair) (sym c.self.view_is) (c.has_at.ensures.there c.if-not-has_at.false) in
    let is = c.in_ok-set_at.ensures.set at.place.pair (place_in at c.index_mut.ensures.value) in
    sections_set_read at c.index_mut.ensures.value is c.self.invariant
