use Rattle.std.proofs.Common.{◌∙◌, ap, arith, chars, refl, set, subst, sym, true}
use Rattle.ini.specs.Texts.{str_name}
use Rattle.ini_edit.specs.Inside.SourceEnds.{IsPairAt, IsSetAlone, last_before}
use Rattle.ini_edit.specs.SourceEditsSet.{SetsFirst}
use Rattle.ini_edit.specs.SourcePlaces.{pair_place}
use Rattle.ini_edit.specs.Sources.{Pieces}
use Rattle.ini_edit.specs.declared.source.set.LaterPairs.TheVariants.{TakenOut}
use Rattle.ini_edit.proofs.SetAloneLemmas.{first_alone, sections_alone}
use Rattle.ini_edit.proofs.SourcePlaceLemmas.{place_within}
use Rattle.ini_edit.proofs.SourceWrittenLemmas.{here_read, own_read, pair_within, place_in}
use Rattle.ini_edit.proofs.source.Source.set_alone.Goals as goal

pub returns-in_default-clause-set : goal.returns-in_default-clause-set
returns-in_default-clause-set c = (refl, c.in_default.ensures)

pub last_before-front-requires : goal.last_before-front-requires
last_before-front-requires c =
    let within = place_within c.in-Some.ensures.section in
    omega arith

pub index_mut-requires : goal.index_mut-requires
index_mut-requires c =
    let name = str_name c.args.name in
    let key = chars c.args.key.now in
    let at = subst (λ v. IsPairAt (pair_place name key 0 v.sections) v.sections c.in-Some.section
    c.in-Some.pair) (sym c.self.view_is) c.in-Some.ensures in
    let within = place_within at.section in
    omega (arith, c.self.inside.sections.ok.0)

pub set_alone_at-requires-clause-index : goal.set_alone_at-requires-clause-index
set_alone_at-requires-clause-index c =
    let name = str_name c.args.name in
    let key = chars c.args.key.now in
    let at = subst (λ v. IsPairAt (pair_place name key 0 v.sections) v.sections c.in-Some.section
    c.in-Some.pair) (sym c.self.view_is) c.in-Some.ensures in
    pair_within at c.index_mut.ensures.value

pub set_alone_at-requires-clause-own : goal.set_alone_at-requires-clause-own
set_alone_at-requires-clause-own c =
    let name = str_name c.args.name in
    let key = chars c.args.key.now in
    let at = subst (λ v. IsPairAt (pair_place name key 0 v.sections) v.sections c.in-Some.section
    c.in-Some.pair) (sym c.self.view_is) c.in-Some.ensures in
    own_read at c.index_mut.ensures.value c.self.invariant

pub returns-clause-set : goal.returns-clause-set
returns-clause-set c =
    let name = str_name c.args.name in
    let key = chars c.args.key.now in
    let at = subst (λ v. IsPairAt (pair_place name key 0 v.sections) v.sections c.in-Some.section
    c.in-Some.pair) (sym c.self.view_is) c.in-Some.ensures in
    let there = at.place.pair in
    let before = c.last_before-front.ensures
    ∙ ap (λ v. last_before v.sections c.in-Some.section) (sym c.self.view_is) in
    let new = c.set_alone_at.new.self in
    let is = subst (λ s. IsSetAlone c.self.inside.option c.args.policy c.last_before-front.result key
    (chars c.args.value.now) s new there) (here_read at c.index_mut.ensures.value)
    (c.in_ok-set_alone_at.ensures.set there (place_in at c.index_mut.ensures.value)) in
    let after : Pieces = record {
      option = c.self.inside.option;
      sections = set c.self.inside.sections.items c.in-Some.section new;
    } in
    subst (λ v. SetsFirst v.option c.args.policy TakenOut v after name key (chars c.args.value.now) true)
    c.self.view_is (refl, first_alone name key at.place at.is at.section at.pair is before)

pub invariant_of-self-2 : goal.invariant_of-self-2
invariant_of-self-2 c =
    let name = str_name c.args.name in
    let key = chars c.args.key.now in
    let at = subst (λ v. IsPairAt (pair_place name key 0 v.sections) v.sections c.in-Some.section
    c.in-Some.pair) (sym c.self.view_is) c.in-Some.ensures in
    let there = at.place.pair in
    let before = c.last_before-front.ensures
    ∙ ap (λ v. last_before v.sections c.in-Some.section) (sym c.self.view_is) in
    let is = subst (λ s. IsSetAlone c.self.inside.option c.args.policy c.last_before-front.result key
    (chars c.args.value.now) s c.set_alone_at.new.self there) (here_read at c.index_mut.ensures.value)
    (c.in_ok-set_alone_at.ensures.set there (place_in at c.index_mut.ensures.value)) in
    sections_alone name key at.place at.is at.section at.pair is before c.self.invariant
