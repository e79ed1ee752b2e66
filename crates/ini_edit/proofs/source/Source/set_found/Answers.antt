use Rattle.std.proofs.Common.{arith, chars, refl, set, subst, sym, true}
use Rattle.ini.specs.Texts.{str_name}
use Rattle.ini_edit.specs.Inside.SourceEnds.{IsPairAt}
use Rattle.ini_edit.specs.SourceEditsSet.{SetsNth}
use Rattle.ini_edit.specs.SourcePlaces.{pair_place}
use Rattle.ini_edit.specs.Sources.{Pieces}
use Rattle.ini_edit.proofs.SourcePlaceLemmas.{place_within}
use Rattle.ini_edit.proofs.SourceWrittenLemmas.{nth_set_read, own_read, pair_within, place_in}
use Rattle.ini_edit.proofs.SourceWrittenLemmas.{sections_set_read}
use Rattle.ini_edit.proofs.source.Source.set_found.Goals as goal

pub returns-in_default-clause-set : goal.returns-in_default-clause-set
returns-in_default-clause-set c = (refl, c.in_default.ensures)

pub index_mut-requires : goal.index_mut-requires
index_mut-requires c =
    let name = str_name c.args.name in
    let at = subst (λ v. IsPairAt (pair_place name (chars c.args.key.now) c.args.n v.sections) v.sections
    c.in-Some.section c.in-Some.pair) (sym c.self.view_is) c.in-Some.ensures in
    let within = place_within at.section in
    omega (arith, c.self.inside.sections.ok.0)

pub set_at-requires-clause-index : goal.set_at-requires-clause-index
set_at-requires-clause-index c =
    let name = str_name c.args.name in
    let at = subst (λ v. IsPairAt (pair_place name (chars c.args.key.now) c.args.n v.sections) v.sections
    c.in-Some.section c.in-Some.pair) (sym c.self.view_is) c.in-Some.ensures in
    pair_within at c.index_mut.ensures.value

pub set_at-requires-clause-own : goal.set_at-requires-clause-own
set_at-requires-clause-own c =
    let name = str_name c.args.name in
    let at = subst (λ v. IsPairAt (pair_place name (chars c.args.key.now) c.args.n v.sections) v.sections
    c.in-Some.section c.in-Some.pair) (sym c.self.view_is) c.in-Some.ensures in
    own_read at c.index_mut.ensures.value c.self.invariant

pub returns-clause-set : goal.returns-clause-set
returns-clause-set c =
    let name = str_name c.args.name in
    let at = subst (λ v. IsPairAt (pair_place name (chars c.args.key.now) c.args.n v.sections) v.sections
    c.in-Some.section c.in-Some.pair) (sym c.self.view_is) c.in-Some.ensures in
    let is = c.in_ok-set_at.ensures.set at.place.pair (place_in at c.index_mut.ensures.value) in
    let after : Pieces = record {
      option = c.self.inside.option;
      sections = set c.self.inside.sections.items c.in-Some.section c.set_at.new.self;
    } in
    subst (λ v. SetsNth v.option c.args.policy v after name (chars c.args.key.now) c.args.n
    (chars c.args.value.now) true) c.self.view_is
    (refl, nth_set_read at c.index_mut.ensures.value is refl)

pub invariant_of-self-2 : goal.invariant_of-self-2
invariant_of-self-2 c =
    let name = str_name c.args.name in
    let at = subst (λ v. IsPairAt (pair_place name (chars c.args.key.now) c.args.n v.sections) v.sections
    c.in-Some.section c.in-Some.pair) (sym c.self.view_is) c.in-Some.ensures in
    let is = c.in_ok-set_at.ensures.set at.place.pair (place_in at c.index_mut.ensures.value) in
    sections_set_read at c.index_mut.ensures.value is c.self.invariant
