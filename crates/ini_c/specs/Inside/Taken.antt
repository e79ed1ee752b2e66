-- What is taken out for a call.
use Rattle.std.specs.Prelude.{Option, Some, None}
use Rattle.std.specs.Global.{Box}
use Rattle.ini.specs.Documents.{Document}
use Rattle.ini_edit.specs.Sources.{Pieces}
use Rattle.ini_c.specs.Held.{pieces_kept}
use Rattle.ini_c.specs.declared.document.Kept.{Kept}

-- the document of a box, if it is there
abbrev pub kept_document : Option (Box Kept) → Option Document
kept_document (Some kept) = Some kept.value.document
kept_document None = None

-- the pieces of a box, if it is there
abbrev pub kept_text : Option (Box Kept) → Option Pieces
kept_text (Some kept) = pieces_kept kept.value
kept_text None = None
