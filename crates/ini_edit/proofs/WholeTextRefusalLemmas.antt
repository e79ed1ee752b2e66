-- What an edit of a text is refused with, from what reading it is, or the same edit of its pieces.
use Rattle.std.proofs.Common.{Option, None, Some, List, MatchOption, subst, inl, inr}
use Rattle.std.specs.Prelude.{Err}
use Rattle.std.specs.declared.alloc.AllocError.{AllocError}
use Rattle.ini_text.specs.Laws.Readings.{HasOneReading}
use Rattle.ini_text.specs.declared.error.Error.{Error}
use Rattle.ini_text.specs.declared.error.Error.TheVariants.{Io, Memory, NoProgress, NotUtf8, Parse}
use Rattle.ini_text.specs.declared.error.ParseError.{ParseError}
use Rattle.ini_text.specs.declared.option.ParseOption.{ParseOption}
use Rattle.ini_text.specs.declared.write.option.WriteOption.{WriteOption}
use Rattle.ini_text.proofs.LawLemmas.ExportedLemmas as text_laws
use Rattle.ini.specs.Documents.{Document}
use Rattle.ini.specs.Loading.{IfParse, IsDocumentOf, IsParseOrMemory, IsStopOf}
use Rattle.ini.specs.Texts.{Text}
use Rattle.ini_edit.specs.Editings.{Editing, Set, SetExisting, Add, Delete, RenameKey}
use Rattle.ini_edit.specs.Editings.{DeleteSection, RenameSection}
use Rattle.ini_edit.specs.Made.{HasNothing}
use Rattle.ini_edit.specs.SourceEditsAdded.{RefusesAdding, RefusesToSetIn}
use Rattle.ini_edit.specs.SourceWritten.{IsWritableNew}
use Rattle.ini_edit.specs.Sources.{Pieces, SectionPiece}
use Rattle.ini_edit.specs.WholeTexts.{IsEditedText, IsMadeText, IsReadInPieces, IsRefusalOf, RefusesOfText}
use Rattle.ini_edit.specs.WholeTexts.{RefusesToAddTo, RefusesToSetOf}
use Rattle.ini_edit.specs.declared.error.EditError.{EditError}
use Rattle.ini_edit.specs.declared.error.EditError.TheVariants as refusals

-- how reading is refused
pub refusal_of : (o : ParseOption) (T : Text) (e : Error) → IsParseOrMemory e
    → IfParse {X = Text} (Err e) (IsStopOf o T) → IsRefusalOf o T e
refusal_of o T (Parse e) only stop = stop
refusal_of o T (Memory e) only stop = tt
refusal_of o T (Io e) only stop = only
refusal_of o T NoProgress only stop = only
refusal_of o T NotUtf8 only stop = only

module _ {o : ParseOption} (w : WriteOption) (name : Option Text) (key value : Text) where
  -- nothing is refused so that was read
  adding_read : {ss : List SectionPiece} (e : ParseError)
      → RefusesAdding o w ss name key value (refusals.Text (Parse e)) → ⊥
  adding_read e (RefusesAdding.unwritable none) = none

  pub text_refuses_adding : {T : Text} (e : Error) → IsWritableNew o w key value → IsRefusalOf o T e
      → RefusesToAddTo o w T name key value (refusals.Text e)
  text_refuses_adding (Parse e) new stop = RefusesToAddTo.fault new stop
  text_refuses_adding (Memory e) new stop = RefusesToAddTo.words tt
  text_refuses_adding (Io e) new none = absurd none
  text_refuses_adding NoProgress new none = absurd none
  text_refuses_adding NotUtf8 new none = absurd none

  module _ {T : Text} {p : Pieces} (read : IsReadInPieces o T p) where
    pub pieces_refuse_adding : {e : EditError} → RefusesAdding p.option w p.sections name key value e
        → RefusesToAddTo o w T name key value e
    pieces_refuse_adding {e} refused = RefusesToAddTo.pieces (record {
      pieces = p;
      is_read = read;
      refused = subst (λ x. RefusesAdding x w p.sections name key value e) read.option refused;
    })

    pieces_refuse : (e : EditError) → RefusesToSetIn o w p.sections name key value e
        → RefusesToSetOf o w T name key value e
    pieces_refuse refusals.Value refused = refused
    pieces_refuse (refusals.Text (Parse e)) refused = absurd (adding_read e refused.1.1)
    pieces_refuse (refusals.Text (Memory e)) refused = tt
    pieces_refuse (refusals.Text (Io e)) refused = record { pieces = p; is_read = read; refused = refused }
    pieces_refuse (refusals.Text NoProgress) refused =
        record { pieces = p; is_read = read; refused = refused }
    pieces_refuse (refusals.Text NotUtf8) refused = record { pieces = p; is_read = read; refused = refused }
    pieces_refuse refusals.Name refused = record { pieces = p; is_read = read; refused = refused }
    pieces_refuse refusals.Key refused = record { pieces = p; is_read = read; refused = refused }
    pieces_refuse refusals.Separator refused = record { pieces = p; is_read = read; refused = refused }
    pieces_refuse refusals.NoPlace refused = record { pieces = p; is_read = read; refused = refused }

    pub pieces_refuse_setting : (e : EditError) → RefusesToSetIn p.option w p.sections name key value e
        → RefusesToSetOf o w T name key value e
    pieces_refuse_setting e refused =
        pieces_refuse e (subst (λ x. RefusesToSetIn x w p.sections name key value e) read.option refused)

-- a text that has a document isn't refused
pub loads_or_stops : {o : ParseOption} {T : Text} {d : Document} {e : ParseError} → IsDocumentOf o T d
    → IsStopOf o T e → ⊥
loads_or_stops {o} {T} {e = e} is stop = at (text_laws.one_outcome o T)
  where
    at : HasOneReading o T → ⊥
    at (inl (items, just)) = just.never_stops e.kind stop.front stop.stops
    at (inr (kind, front, just)) = just.derives_nothing is.items is.derives

-- one that was edited, or has nothing to edit, has a document
abbrev HasDocument : ParseOption → Text → Type 0
HasDocument o T = (d : Document) × IsDocumentOf o T d

edited_has : {o : ParseOption} {T U : Text} {makes : Pieces → Pieces → Type 0} {edit : Document → Document}
    → IsEditedText o T U makes edit → HasDocument o T
edited_has edited = (edited.loads.document, edited.loads.was)

module _ (o : ParseOption) (w : WriteOption) (T : Text) where
  made_has : (U : Text) (e : Editing) → IsMadeText o w e T U → HasDocument o T
  made_has U (Set name key value) made = edited_has made
  made_has U (SetExisting name key value) made = edited_has made
  made_has U (Add name key value) made = edited_has made
  made_has U (Delete name key) made = edited_has made
  made_has U (RenameKey name old new) made = edited_has made
  made_has U (DeleteSection name) made = edited_has made
  made_has U (RenameSection old new) made = edited_has made

  nothing_has : (e : Editing) → HasNothing o e T → HasDocument o T
  nothing_has (Set name key value) none = absurd none
  nothing_has (SetExisting name key value) lacks = (lacks.document, lacks.is_document)
  nothing_has (Add name key value) none = absurd none
  nothing_has (Delete name key) lacks = (lacks.document, lacks.is_document)
  nothing_has (RenameKey name old new) lacks = (lacks.document, lacks.is_document)
  nothing_has (DeleteSection name) lacks = (lacks.document, lacks.is_document)
  nothing_has (RenameSection old new) lacks = (lacks.document, lacks.is_document)

  pub answered_has : {X : Type 0} (text : X → Text) (e : Editing) (answer : Option X)
      → MatchOption answer (HasNothing o e T) (λ new. IsMadeText o w e T (text new)) → HasDocument o T
  answered_has text e None nothing = nothing_has e nothing
  answered_has text e (Some new) made = made_has (text new) e made

  -- so where the edit of a text is made, reading it is refused for want of memory alone
  memory_refused : (e : Editing) {m : AllocError} → RefusesOfText o w e T (refusals.Text (Memory m))
  memory_refused (Set name key value) = tt
  memory_refused (SetExisting name key value) = tt
  memory_refused (Add name key value) = RefusesToAddTo.words tt
  memory_refused (Delete name key) = tt
  memory_refused (RenameKey name old new) = tt
  memory_refused (DeleteSection name) = tt
  memory_refused (RenameSection old new) = tt

  pub refused_reading : (e : Editing) (refusal : Error) → HasDocument o T → IsRefusalOf o T refusal
      → RefusesOfText o w e T (refusals.Text refusal)
  refused_reading e (Parse stop) has is = absurd (loads_or_stops has.1 is)
  refused_reading e (Memory m) has is = memory_refused e
  refused_reading e (Io x) has none = absurd none
  refused_reading e NoProgress has none = absurd none
  refused_reading e NotUtf8 has none = absurd none
