use Rattle.std.proofs.Common.{◌<◌, IsSome, refl, sym, ◌∙◌, ap, subst, arith, length, is_some, true≢false}
use Rattle.ini_multimap.specs.Slots.{Columns, with_value}
use Rattle.ini_multimap.specs.Inside.Fits.{value_in}
use Rattle.ini_multimap.proofs.SlotLemmas.{some_within, value_read}
use Rattle.ini_multimap.proofs.PairedLemmas.{filled_set}
use Rattle.ini_multimap.proofs.slots.Slots.value_mut.Goals as goal

pub index_mut-requires : goal.index_mut-requires
index_mut-requires g c =
    let m = c.self.inside in
    omega (
      arith,
      some_within c.args.self.now.values c.args.s c.requires,
      ap (λ d. length d.values) c.self.view_is,
      m.values.ok.0,
    )

pub unreachable-requires : goal.unreachable-requires
unreachable-requires g c =
    let m = c.self.inside in
    let P : Columns g.row.K.Denot g.row.V.Denot → Type 0 = λ d. IsSome (value_in d.values c.args.s) in
    let there = subst P (sym c.self.view_is) c.requires in
    true≢false (sym there ∙ ap is_some (value_read m.values.items c.args.s c.index_mut.result.now
    (some_within m.values.items c.args.s there) c.index_mut.ensures.value ∙ sym c.in-None.ensures.value))

pub invariant_of-self-lent : goal.invariant_of-self-lent
invariant_of-self-lent g c w =
    let m = c.self.inside in
    let P : Columns g.row.K.Denot g.row.V.Denot → Type 0 = λ d. IsSome (value_in d.values c.args.s) in
    filled_set g.K.PartialEq.eq g.K.MapKey.key_code m c.args.s w _ refl
    (subst P (sym c.self.view_is) c.requires) c.self.invariant

pub returns : goal.returns
returns g c =
    let m = c.self.inside in
    let s = c.args.s in
    let within : s < length m.values.items = omega (
      arith,
      some_within c.args.self.now.values s c.requires,
      ap (λ d. length d.values) c.self.view_is,
    ) in (
      (refl, λ w. ap (λ d. with_value d s w) c.self.view_is),
      record {
        writes_back = tt;
        value = sym (c.in-Some.ensures.value
            ∙ sym (value_read m.values.items s c.index_mut.result.now within c.index_mut.ensures.value)
            ∙ ap (λ d. value_in d.values s) c.self.view_is);
      },
    )
