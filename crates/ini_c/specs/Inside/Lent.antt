-- What a handle, a document and a text end as, once what was lent of them for writing is back.
use Rattle.std.specs.Prelude.{Option, Some}
use Rattle.std.specs.Borrow.{Fml, MutBor, Lends, LendsIf}
use Rattle.ini.specs.Documents.{Document as IniDocument}
use Rattle.ini.specs.contracts.document.Ini as Ini
use Rattle.ini_c.specs.declared.document.Document.{Document}
use Rattle.ini_c.specs.declared.document.Kept.{Kept}
use Rattle.ini_c.specs.declared.document.Text.{Text}
use Rattle.ini_c.specs.declared.handle.Handle.{Handle}
use Rattle.ini_c.specs.declared.tied.Tied.{Tied}
use Rattle.ini_c.specs.contracts.document.Document as DocumentRow
use Rattle.ini_c.specs.contracts.document.Kept as KeptRow
use Rattle.ini_c.specs.contracts.document.Text as TextRow
use Rattle.ini_c.specs.contracts.handle.Handle as HandleRow
use Rattle.ini_c.specs.contracts.tied.Tied as TiedRow

-- the handle keeps what was last written
abbrev pub lends_kept : MutBor Handle → MutBor Kept → Fml
lends_kept h r = Lends HandleRow.the_row KeptRow.the_row h r (λ kept. record h.now { value = kept })

-- with another document in place of the one that is loaded
abbrev pub with_loaded : Document → IniDocument → Document
with_loaded d x = record d { handle = record d.handle { value = record d.handle.value { document = x } } }

-- what was last written is loaded
abbrev pub lends_document : MutBor Document → Option (MutBor IniDocument) → Fml
lends_document d r = LendsIf DocumentRow.the_row Ini.the_row d r (with_loaded d.now) d.now

-- with another text in place of the one that is open
abbrev pub with_opened : Text → Tied → Text
with_opened t x = record t { handle = record t.handle { value = record t.handle.value { text = Some x } } }

-- what was last made of the text is open
abbrev pub lends_text : MutBor Text → Option (MutBor Tied) → Fml
lends_text t r = LendsIf TextRow.the_row TiedRow.the_row t r (with_opened t.now) t.now
