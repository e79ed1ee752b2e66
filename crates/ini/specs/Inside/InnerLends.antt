-- What is lent to the functions that make the public edits.
use Rattle.std.specs.Prelude.{◌-◌, [], ◌∷◌, ◌++◌, length, Option, Result}
use Rattle.std.specs.Borrow.{Fml, MutBor, Lends, LendsIf, LendsIfOk}
use Rattle.std.specs.Map.{set_value}
use Rattle.ini_multimap.specs.Pairs.{with_value_at}
use Rattle.ini.specs.Texts.{Text, is_text, text_of}
use Rattle.ini.specs.Properties.{Pairs}
use Rattle.ini.specs.Documents.{Document}
use Rattle.ini.specs.contracts.document.Ini as document
use Rattle.ini.specs.contracts.properties.Properties as properties
use Rattle.ini.specs.Lends.{string_row}

-- the first value of the key
abbrev pub lends_value : MutBor Pairs → Text → Option (MutBor string_row.Denot) → Fml
lends_value p key r =
    LendsIf properties.the_row string_row p r (λ w. set_value (is_text key) p.now (text_of w)) p.now

-- the last section
abbrev pub lends_last_section : MutBor Document → MutBor Pairs → Fml
lends_last_section d r =
    Lends document.the_row properties.the_row d r (with_value_at d.now (length d.now - 1))

-- the section that was opened last; refused, the document stays
abbrev pub lends_new_section : {E : Type 0} → MutBor Document → Option Text → Result (MutBor Pairs) E → Fml
lends_new_section d name r =
    LendsIfOk document.the_row properties.the_row d r (λ w. d.now ++ (name, w) ∷ []) d.now
