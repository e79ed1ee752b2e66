-- What a setter holds, and what its document ends as.
use Rattle.std.specs.Prelude.{◌≡◌, if◌then◌else◌, Option, Some, None, Result, chars}
use Rattle.std.specs.Borrow.{Fml, MutBor, follows_if, name_if_ok}
use Rattle.ini.specs.Texts.{Text}
use Rattle.ini.specs.Documents.{Document}
use Rattle.ini.specs.declared.name.LentName.{LentName}
use Rattle.ini.specs.declared.setter.SectionSetter.{SectionSetter}
use Rattle.ini.specs.contracts.document.Ini.{the_row}

-- the name that is lent
abbrev pub lent_name : LentName → Option Text
lent_name n = if n.named then Some (chars n.text.now) else None

-- the document that a setter edits
abbrev pub setter_document : {N : Type 0} → SectionSetter N → MutBor Document
setter_document s = s.ini

-- the document as it is now
abbrev pub setter_now : {N : Type 0} → SectionSetter N → Document
setter_now s = (setter_document s).now

-- both edit the same document
abbrev pub EditsSameDocument : {N : Type 0} → SectionSetter N → SectionSetter N → Type 0
EditsSameDocument old new = (setter_document new).ghost_name ≡ (setter_document old).ghost_name

-- the name that it edits the sections of
abbrev pub setter_name : {N : Type 0} → SectionSetter N → N
setter_name s = s.name

-- refused, the document stays; else it ends as what the setter that is handed on leaves
abbrev pub rests_if_refused : {N E : Type 0} → MutBor Document → Result (SectionSetter N) E → Fml
rests_if_refused d r = follows_if the_row the_row d.ghost_name
    (name_if_ok (λ s. (setter_document s).ghost_name) r) (λ w. w) d.now
