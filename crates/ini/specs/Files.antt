-- What is known of the bytes of files: of some file, that the runtime gave.
use Rattle.std.specs.Prelude.{ℕ, true, List, Option}
use Rattle.ini_text.specs.declared.error.ParseError.{ParseError}
use Rattle.ini_text.specs.declared.option.ParseOption.{ParseOption}
use Rattle.ini.specs.Texts.{Text}
use Rattle.ini.specs.Documents.{Document}
use Rattle.ini.specs.Loading.{AreNoText, IsDocumentOfBytes, IsStopOfBytes}
use Rattle.ini.specs.WrittenTo.{IsWrittenTo}

module _ {F : Type 0} (remaining : F → Option (List ℕ)) where
  -- it is the document of a file's bytes, without a mark at their front
  abbrev pub IsDocumentOfFile : ParseOption → Document → Type 0
  IsDocumentOfFile o d = (file : F) × IsDocumentOfBytes o true (remaining file) d

  -- reading the text of a file stops where the error says
  abbrev pub IsStopOfFile : ParseOption → ParseError → Type 0
  IsStopOfFile o e = (file : F) × IsStopOfBytes o true (remaining file) e

  -- the bytes of a file are no text
  abbrev pub IsNoTextOfFile : Type 0
  IsNoTextOfFile = (file : F) × AreNoText true (remaining file)

module _ {F : Type 0} (contents : F → Option (List ℕ)) where
  -- the text's bytes were appended to those of a file
  abbrev pub IsWrittenToFile : Text → Type 0
  IsWrittenToFile text = (old : F) × (new : F) × IsWrittenTo contents old new text
