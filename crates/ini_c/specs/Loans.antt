-- What becomes of a document, and of a text, once a loan of something in it is over.
use Rattle.std.specs.Prelude.{◌≡◌, ⊤}
use Rattle.std.specs.Borrow.{Fml, MutBor, follows_so}
use mathlib.Core.Option.{none}
use Rattle.ini_c.specs.declared.document.Document.{Document}
use Rattle.ini_c.specs.declared.document.Text.{Text}
use Rattle.ini_c.specs.contracts.document.Document.{the_row}
use Rattle.ini_c.specs.contracts.document.Text as TextRow
use Rattle.ini_c.specs.Held.{document_in, pieces_of}

-- what is loaded is as it was
abbrev pub document_stays : MutBor Document → Fml
document_stays d =
    follows_so the_row the_row d.ghost_name none (λ _ _. ⊤) (λ after. document_in after ≡ document_in d.now)

-- what is open is as it was
abbrev pub text_stays : MutBor Text → Fml
text_stays t = follows_so TextRow.the_row TextRow.the_row t.ghost_name none (λ _ _. ⊤)
    (λ after. pieces_of after ≡ pieces_of t.now)
