-- What slots end as, once a `&mut` to a value in them has ended.
use Rattle.std.specs.Prelude.{ℕ}
use Rattle.std.specs.Borrow.{Fml, RattleType, MutBor, Lends}
use Rattle.ini_multimap.specs.Lends.{KeyMembers}
use Rattle.ini_multimap.specs.Slots.{Columns, with_value}
use Rattle.ini_multimap.specs.contracts.slots.Slots.{the_row}

-- the type of slots, as the logic names it
abbrev pub slots_row : (K V : RattleType) → KeyMembers K.Denot → RattleType
slots_row K V g = the_row K V (record { key_code = g.key_code }) (record { eq = g.eq })

-- slot s has the value that was last written
abbrev pub lends_slot : (K V : RattleType) → KeyMembers K.Denot → MutBor (Columns K.Denot V.Denot) → ℕ
    → MutBor V.Denot → Fml
lends_slot K V key m s r = Lends (slots_row K V key) V m r (with_value m.now s)
