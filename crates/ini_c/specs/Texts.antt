-- A text in pieces that stays open: what it is once it is opened, and what a call makes of it.
use Rattle.std.specs.Prelude.{◌≡◌, ℕ, List, Option, Some}
use Rattle.std.specs.Option.{option_map}
use Rattle.ini_text.specs.declared.option.ParseOption.{ParseOption}
use Rattle.ini_text.specs.declared.write.option.WriteOption.{WriteOption}
use Rattle.ini.specs.Loading.{IsDocumentOf}
use Rattle.ini.specs.Texts.{Text}
use Rattle.ini_edit.specs.SourceEditsComments.{comments_above}
use Rattle.ini_edit.specs.SourceElements.{value_position}
use Rattle.ini_edit.specs.SourcePlaces.{pair_place}
use Rattle.ini_edit.specs.SourceReads.{AreRead}
use Rattle.ini_edit.specs.Sources.{Pieces, document_in, text_in}
use Rattle.ini_edit.specs.declared.source.elements.Position.{Position}
use Rattle.ini_c.specs.Choices.{IsWriteOption}
use Rattle.ini_c.specs.LookUps.{utf8_of}
use Rattle.ini_c.specs.declared.options.WriteChoice.{WriteChoice}
use Rattle.ini_c.specs.declared.pieces.look_ups.Place.{Place}

-- the pieces in which the text T is read
pub record IsOpened (o : ParseOption) (T : Text) (p : Pieces) : Type 0 where
  pub option : p.option ≡ o
  pub text : text_in p ≡ T
  pub document : IsDocumentOf o T (document_in p)
  pub are_read : AreRead o p.sections

-- a text is open before and after, and so the pieces change
abbrev pub Changes : (Pieces → Pieces → Type 0) → Option Pieces → Option Pieces → Type 0
Changes P (Some old) (Some new) = P old new
Changes P _ _ = ⊥

-- this holds of an option that the choice asks for
pub record Asks (choice : WriteChoice) (P : WriteOption → Type 0) : Type 0 where
  pub option : WriteOption
  pub asked : IsWriteOption choice option
  pub holds : P option

-- the bytes of the text that is open
abbrev pub bytes_in : Option Pieces → Option (List ℕ)
bytes_in pieces = utf8_of (option_map text_in pieces)

-- the comments directly above the first pair of the key, where that is there
abbrev pub comments_in : Option Text → Text → Pieces → Option Text
comments_in name key p = option_map comments_above (pair_place name key 0 p.sections)

-- where the value of the first pair of the key stands
abbrev pub value_place : Option Text → Text → Pieces → Option Position
value_place name key p = value_position name key p.sections

-- so C is told
pub record TellsPlace (position : Position) (place : Place) : Type 0 where
  pub line : place.line ≡ position.line
  pub column : place.column ≡ position.column
