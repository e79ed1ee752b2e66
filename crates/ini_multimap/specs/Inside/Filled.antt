-- What holds of the fields of slots. Their invariant says it.
use Rattle.std.specs.Prelude.{◌≡◌, ℕ, Bool, length}
use Rattle.std.specs.Bool.{OnTrue}
use Rattle.ini_multimap.specs.Inside.Fits.{ArePaired, HasLeadingHoles, IsInjective, holes_in}
use Rattle.ini_multimap.specs.Inside.Chains.{IsIndexed}
use Rattle.ini_multimap.specs.Inside.Tags.{AreTagged}
use Rattle.ini_multimap.specs.declared.slots.Slots.TheInside.{Inside}

pub record AreFilled {K V : Type 0} (eq : K → K → Bool) (code : K → ℕ) (slots : Inside K V) : Type 0 where
  pub long : length slots.values.items ≡ length slots.keys.items
  pub indexed : IsIndexed code slots.keys.items slots.index
  pub tagged : AreTagged code slots.keys.items slots.tags.of
  pub counted : slots.holes ≡ holes_in slots.keys.items
  pub leads : HasLeadingHoles slots.keys.items slots.leading
  pub paired : OnTrue slots.is_paired (ArePaired slots.keys.items slots.values.items)
  pub injective : OnTrue slots.is_injective (IsInjective eq code slots.keys.items)
