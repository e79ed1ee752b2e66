-- What C keeps between calls.
use Rattle.std.specs.Option.{option_map}
use Rattle.std.specs.Prelude.{Bool, true, false, Option, Some, None}
use Rattle.ini.specs.Documents.{Document as IniDocument}
use Rattle.ini_c.specs.declared.document.Document.{Document}
use Rattle.ini_c.specs.declared.document.Kept.{Kept}
use Rattle.ini_c.specs.declared.document.Text.{Text}
use Rattle.ini_c.specs.declared.tied.Tied.{Tied}
use Rattle.ini_edit.specs.Sources.{Pieces, document_in as document_in_pieces}

abbrev pub kept_if : Bool → Kept → Option IniDocument
kept_if true kept = Some kept.document
kept_if false kept = None

-- the document that is loaded, if one is
abbrev pub document_in : Document → Option IniDocument
document_in d = kept_if d.is_open d.handle.value

-- the pieces of the text that is kept, if one is
abbrev pub pieces_kept : Kept → Option Pieces
pieces_kept kept = option_map (λ (t : Tied). t.value) kept.text

abbrev pub opened_if : Bool → Kept → Option Pieces
opened_if true kept = pieces_kept kept
opened_if false kept = None

-- the pieces of the text that is open, if one is, and the document that they mean
abbrev pub pieces_of : Text → Option Pieces
pieces_of t = opened_if t.is_open t.handle.value

abbrev pub document_of : Text → Option IniDocument
document_of t = option_map document_in_pieces (pieces_of t)
