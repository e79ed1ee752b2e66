-- What a text becomes whose pieces are edited.
use Rattle.std.specs.Prelude.{◌≡◌}
use Rattle.ini_text.specs.declared.option.ParseOption.{ParseOption}
use Rattle.ini.specs.Loading.{IsDocumentOf}
use Rattle.ini.specs.Texts.{Text}
use Rattle.ini_edit.specs.Sources.{Pieces, document_in, text_in}
use Rattle.ini_edit.specs.WholeTexts.{IsReadInPieces}

-- The text U is that of other pieces, which an edit makes of those of T, and it has their document.
pub record IsRemadeText (o : ParseOption) (T U : Text) (makes : Pieces → Pieces → Type 0) : Type 0 where
  pub old : Pieces
  pub new : Pieces
  pub is_read : IsReadInPieces o T old
  pub made : makes old new
  pub text : U ≡ text_in new
  pub loads : IsDocumentOf o U (document_in new)
