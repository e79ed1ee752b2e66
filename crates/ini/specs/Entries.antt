-- What an entry holds, and what its document ends as.
use Rattle.std.specs.Prelude.{◌≡◌, Option, Result}
use Rattle.std.specs.Borrow.{Fml, MutBor, follows, follows_if, name_if_ok}
use Rattle.ini.specs.Texts.{Text, name_of}
use Rattle.ini.specs.Properties.{Pairs}
use Rattle.ini.specs.Documents.{Document, first_section}
use Rattle.ini.specs.Edits.{with_section}
use Rattle.ini.specs.declared.entry.SectionEntry.{SectionEntry}
use Rattle.ini.specs.declared.entry.SectionEntry.TheVariants.{Occupied, Vacant}
use Rattle.ini.specs.declared.entry.SectionOccupiedEntry.{SectionOccupiedEntry}
use Rattle.ini.specs.declared.entry.SectionVacantEntry.{SectionVacantEntry}
use Rattle.ini.specs.contracts.document.Ini as document
use Rattle.ini.specs.contracts.properties.Properties as properties

-- a place that is vacant, or occupied
abbrev pub vacant : SectionVacantEntry → SectionEntry
vacant e = Vacant e

abbrev pub occupied : SectionOccupiedEntry → SectionEntry
occupied e = Occupied e

-- the document that it borrows
abbrev pub entry_document : SectionEntry → MutBor Document
entry_document (Vacant e) = e.ini
entry_document (Occupied e) = e.ini

-- the name that it is a place of
abbrev pub entry_name : SectionEntry → Option Text
entry_name (Vacant e) = name_of e.name
entry_name (Occupied e) = name_of e.name

-- the document as it is now
abbrev pub entry_now : SectionEntry → Document
entry_now e = (entry_document e).now

-- the first section of the name, if there is one
abbrev pub entry_section : SectionEntry → Option Pairs
entry_section e = first_section (entry_name e) (entry_now e)

-- both are places of the same document
abbrev pub InSameDocument : SectionEntry → SectionEntry → Type 0
InSameDocument old new = (entry_document new).ghost_name ≡ (entry_document old).ghost_name

-- P where it is vacant, Q where it is occupied
abbrev pub MatchEntry : SectionEntry → Type 0 → Type 0 → Type 0
MatchEntry (Vacant e) P Q = P
MatchEntry (Occupied e) P Q = Q

-- the section at that place is what was left after r
abbrev pub entry_lends : SectionEntry → MutBor Pairs → Fml
entry_lends e r =
    follows document.the_row properties.the_row (entry_document e).ghost_name r.ghost_name
    (with_section (entry_name e) (entry_now e))

-- the same, and refused the document stays
abbrev pub entry_lends_ok : {E : Type 0} → SectionEntry → Result (MutBor Pairs) E → Fml
entry_lends_ok e r =
    follows_if document.the_row properties.the_row (entry_document e).ghost_name
    (name_if_ok (λ x. x.ghost_name) r)
    (with_section (entry_name e) (entry_now e)) (entry_now e)
