use Rattle.std.proofs.Common.{◌≡◌, ◌-◌, ◌∙◌, ap, arith, length}
use Rattle.std.proofs.lemmas.Bool.{OnTrue_at, OnTrue_from}
use Rattle.std.proofs.lemmas.Bool.Decides.{Decides-eqb}
use Rattle.ini_multimap.specs.Slots.{pairs_in}
use Rattle.ini_multimap.specs.Inside.Fits.{holes_in}
use Rattle.ini_multimap.proofs.InjectiveLemmas.{injective_moved}
use Rattle.ini_multimap.proofs.LeadingLemmas.{no_leading}
use Rattle.ini_multimap.proofs.SlotLemmas.{holes_le}
use Rattle.ini_multimap.proofs.slots.Slots.close_if_sparse.Goals as goal

pub overflow_sub-len : goal.overflow_sub-len
overflow_sub-len g c =
    let keys = c.self.inside.keys in
    omega (arith, c.self.invariant.counted, holes_le keys.items, c.len.ensures, keys.ok.0)

pub overflow_sub-self : goal.overflow_sub-self
overflow_sub-self g c =
    let ks = c.as_slice.result.now in
    omega (
      arith,
      c.count_holes-self-inside.ensures,
      holes_le ks,
      ap length c.as_slice.ensures.value,
      c.len-then-len-self.ensures,
      c.close_holes.new.keys.ok.0,
    )

pub invariant_of-self : goal.invariant_of-self
invariant_of-self g c =
    let ks = c.close_holes.new.keys.items in
    let vs = c.close_holes.new.values.items in
    let holes = c.count_holes-self-inside.result in
    let pairs = c.count_pairs-pairs.result in
    let counted : holes ≡ holes_in ks =
    c.count_holes-self-inside.ensures ∙ ap holes_in c.as_slice.ensures.value in
    let all : pairs ≡ length (pairs_in ks vs) = c.count_pairs-pairs.ensures
    ∙ (λ j. length (pairs_in (c.as_slice-then-len-self.ensures.value j)
    (c.as_slice-then-len-self-2.ensures.value j))) in
    record {
      long = c.close_holes.ensures.long;
      indexed = c.close_holes.ensures.indexed;
      tagged = rw (← c.as_slice-then-len-self-3.ensures.value) c.of_keys-self-inside.ensures;
      counted = counted;
      leads = no_leading ks;
      paired =
          OnTrue_from _ _ (λ e. let same = (Decides-eqb pairs (c.len-then-len-self.result - holes)).0 e in
          omega (
            arith,
            same,
            all,
            counted,
            holes_le ks,
            c.len-then-len-self.ensures,
            c.close_holes.new.keys.ok.0,
          ));
      injective = OnTrue_from c.self.inside.is_injective _
          (λ e. injective_moved g.K.PartialEq.eq g.K.MapKey.key_code c.self.inside.keys.items ks
          c.close_holes.ensures.moves
          (OnTrue_at e c.self.invariant.injective));
    }
