use Rattle.ini_edit.proofs.SetDocumentLemmas.{first_set_document}
use Rattle.ini_edit.proofs.source.Source.set_existing.Goals as goal

pub returns-clause-document : goal.returns-clause-document
returns-clause-document c = λ taken made.
    first_set_document (rw taken at (rw made at c.set_writable.ensures.set).1)
