-- What properties and a document end as, once a `&mut` into them has ended: one part is what was last
-- written there, and the rest stays.
use Rattle.std.specs.Prelude.{Option, String}
use Rattle.std.specs.Borrow.{Fml, RattleType, MutBor, Lends, LendsIf}
use Rattle.std.specs.Map.{set_value}
use Rattle.std.specs.Option.{option_copied_mut, option_map}
use Rattle.std.specs.contracts.string.String as string
use Rattle.std.specs.contracts.alloc.Global as global
use Rattle.std.specs.contracts.impls.GlobalAllocator.TheImpl.{ghosts}
use Rattle.ini.specs.Texts.{Text, is_name, text_of}
use Rattle.ini.specs.Properties.{Pairs}
use Rattle.ini.specs.Documents.{Document}
use Rattle.ini.specs.Edits.{replace_in}
use Rattle.ini.specs.contracts.document.Ini as document
use Rattle.ini.specs.contracts.properties.Properties as properties

-- the type `String`, as the logic names it
abbrev pub string_row : RattleType
string_row = string.the_row global.the_row ghosts

-- the text of the string that is lent, if one is
abbrev pub lent_text : {Z : Type 0} → Option (MutBor (String Z)) → Option Text
lent_text r = option_map text_of (option_copied_mut r)

-- the first section of the name
abbrev pub lends_section : MutBor Document → Option Text → Option (MutBor Pairs) → Fml
lends_section d name r =
    LendsIf document.the_row properties.the_row d r (set_value (is_name name) d.now) d.now

-- the same, where it is there
abbrev pub lends_found_section : MutBor Document → Option Text → MutBor Pairs → Fml
lends_found_section d name r = Lends document.the_row properties.the_row d r (set_value (is_name name) d.now)

-- the first value of the key in the first section of the name
abbrev pub lends_value_in : MutBor Document → Option Text → Text → Option (MutBor string_row.Denot) → Fml
lends_value_in d name key r =
    LendsIf document.the_row string_row d r (λ w. replace_in name key (text_of w) d.now) d.now
