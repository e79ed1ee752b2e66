-- What is looked up in a text, and found.
use Rattle.std.specs.Prelude.{◌≡◌, ◌↔◌, ◌∷◌, ℕ, List, [], IsTrue, None, Some}
use Rattle.std.specs.Str.{chars}
use Rattle.ini.specs.Documents.{value_in}
use Rattle.ini_edit.specs.Sources.{Pieces, document_in}
use Rattle.ini_c.specs.LookUps.{AreTexts, name_if, utf8_of}
use Rattle.ini_c.specs.Statuses.{absent, is_among, not_utf8, ok}
use Rattle.ini_c.specs.declared.tied.Asked.{Asked}

-- the bytes of the value that is asked for, and the status
pub record IsFound (a : Asked) (p : Pieces) (bytes : List ℕ) (status : ℕ) : Type 0 where
  pub refused : status ≡ not_utf8 ↔ ¬ (AreTexts a.section.now a.key.now)
  pub lacking : status ≡ absent
      → value_in (name_if a.named a.section.now) (chars a.key.now) (document_in p) ≡ None
  pub found : status ≡ ok
      → utf8_of (value_in (name_if a.named a.section.now) (chars a.key.now) (document_in p)) ≡ Some bytes
  pub among : IsTrue (is_among status (ok ∷ absent ∷ not_utf8 ∷ []))
