use Rattle.std.proofs.Common.{◌≡◌, ◌<◌, Some, IsSome, sym, ◌∙◌, ap, subst, arith, length, List, Option, None}
use Rattle.std.proofs.Math.ListN.{set, length-set}
use Rattle.std.proofs.lemmas.Bool.{OnTrue_at, OnTrue_from}
use Rattle.ini_multimap.specs.Slots.{Columns}
use Rattle.ini_multimap.specs.Inside.Fits.{ArePaired, HasLeadingHoles, code_at, value_in}
use Rattle.ini_multimap.specs.Inside.Chains.{IsIndexed}
use Rattle.ini_multimap.proofs.SlotLemmas.{code_within, holes_le, holes_set, map_some, some_within}
use Rattle.ini_multimap.proofs.SlotLemmas.{value_read}
use Rattle.ini_multimap.proofs.InjectiveLemmas.{injective_without}
use Rattle.ini_multimap.proofs.LeadingLemmas.{leading_without}
use Rattle.ini_multimap.proofs.PairedLemmas.{paired_without}
use Rattle.ini_multimap.proofs.TagLemmas.{tagged_without}
use Rattle.ini_multimap.proofs.slots.Slots.take.Goals as goal

pub index_mut-requires : goal.index_mut-requires
index_mut-requires g c =
    let m = c.self.inside in
    omega (
      arith,
      code_within g.K.MapKey.key_code c.args.self.now.keys c.args.s c.args.code c.requires.key,
      ap (λ d. length d.keys) c.self.view_is,
      m.keys.ok.0,
    )

pub overflow_add-self : goal.overflow_add-self
overflow_add-self g c =
    let m = c.self.inside in
    let s = c.args.s in
    let code = g.K.MapKey.key_code in
    let key : code_at code m.keys.items s ≡ Some c.args.code =
    ap (λ d. code_at code d.keys s) c.self.view_is ∙ c.requires.key in
    omega (
      arith,
      c.self.invariant.counted,
      holes_set m.keys.items s (map_some code (value_in m.keys.items s) c.args.code key),
      holes_le (set m.keys.items s None),
      length-set m.keys.items s None,
      m.keys.ok.0,
      m.keys.ok.1,
      m.keys.small,
    )

pub count_leading-self-inside-requires : goal.count_leading-self-inside-requires
count_leading-self-inside-requires g c =
    let m = c.self.inside in
    rw c.as_slice-2.ensures.value (leading_without m.keys.items m.leading c.args.s c.self.invariant.leads)

pub index_mut-requires-2 : goal.index_mut-requires-2
index_mut-requires-2 g c =
    omega (
      arith,
      some_within c.args.self.now.values c.args.s c.requires.value,
      ap (λ d. length d.values) c.self.view_is,
      c.self.inside.values.ok.0,
    )

pub invariant_of-self : goal.invariant_of-self
invariant_of-self g c =
    let m = c.self.inside in
    let s = c.args.s in
    let code = g.K.MapKey.key_code in
    let key : code_at code m.keys.items s ≡ Some c.args.code =
    ap (λ d. code_at code d.keys s) c.self.view_is ∙ c.requires.key in
    let is = map_some code (value_in m.keys.items s) c.args.code key in
    let S : Columns g.row.K.Denot g.row.V.Denot → Type 0 = λ d. IsSome (value_in d.values s) in
    let there = subst S (sym c.self.view_is) c.requires.value in
    let P : List (Option g.row.K.Denot) → Type 0 = λ l. IsIndexed code (set l s None) c.unlink.new.index in
    let L : List (Option g.row.K.Denot) → Type 0 =
    λ l. HasLeadingHoles l c.count_leading-self-inside.result in
    let R : Option g.row.V.Denot → Type 0 =
    λ v. ArePaired (set m.keys.items s None) (set m.values.items s v) in
    record {
      long =
          length-set m.values.items s c.take.new.self ∙ c.self.invariant.long
          ∙ sym (length-set m.keys.items s None);
      indexed = subst P c.as_slice.ensures.value c.unlink.ensures;
      tagged = tagged_without code m.keys.items m.tags.of s c.self.invariant.tagged;
      counted = omega (arith, c.self.invariant.counted, holes_set m.keys.items s is);
      leads = subst L c.as_slice-2.ensures.value c.count_leading-self-inside.ensures;
      paired = OnTrue_from m.is_paired _
          (λ e. subst R (sym c.take.ensures.after)
          (paired_without m.keys.items m.values.items s is there (OnTrue_at e c.self.invariant.paired)));
      injective = OnTrue_from m.is_injective _
          (λ e. injective_without g.K.PartialEq.eq code m.keys.items s
          (OnTrue_at e c.self.invariant.injective));
    }

pub returns-clause-value : goal.returns-clause-value
returns-clause-value g c =
    let m = c.self.inside in
    let s = c.args.s in
    let within : s < length m.values.items =
    omega (
      arith,
      some_within c.args.self.now.values s c.requires.value,
      ap (λ d. length d.values) c.self.view_is,
    ) in
    c.take.ensures.value ∙ sym
    (value_read m.values.items s c.index_mut-2.result.now within c.index_mut-2.ensures.value)
    ∙ ap (λ d. value_in d.values s) c.self.view_is
