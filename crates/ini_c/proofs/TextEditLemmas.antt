-- Where a text that is edited is refused, and with what.
use Rattle.std.proofs.Common.{◌≡◌, subst}
use Rattle.std.specs.Prelude.{List, Option, Result, Ok, Err, IfErr, OnOk}
use Rattle.ini.specs.Loading.{IsStopOf}
use Rattle.ini.specs.Texts.{Text}
use Rattle.ini_edit.specs.Edited.{IfEditParse}
use Rattle.ini_edit.specs.SourceEditsAdded.{RefusesAdding}
use Rattle.ini_edit.specs.SourceWritten.{HasForm, IsWritableNew, RefusesNew}
use Rattle.ini_edit.specs.Sources.{SectionPiece}
use Rattle.ini_edit.specs.WholeTexts.{RefusesToAddTo, RefusesToSetOf}
use Rattle.ini_edit.specs.declared.error.EditError.{EditError}
use Rattle.ini_edit.specs.declared.error.EditError.TheVariants as refusals
use Rattle.ini_c.specs.TextEdits.{HasUnwritableKey}
use Rattle.ini_edit.specs.Made.{IsWritableLine}
use Rattle.ini_text.specs.declared.error.Error.TheVariants.{Io, Memory, NoProgress, NotUtf8, Parse}
use Rattle.ini_text.specs.declared.error.ParseError.{ParseError}
use Rattle.ini_text.specs.declared.option.ParseOption.{ParseOption}
use Rattle.ini_text.specs.declared.write.option.WriteOption.{WriteOption}

module _ (o : ParseOption) (w : WriteOption) (T : Text) (name : Option Text) (key value : Text) where
  -- setting a key is refused for its value, or for the text, only where it is to be
  pub value_of_setting : {X : Type 0} (answer : Result X EditError)
      → IfErr answer (RefusesToSetOf o w T name key value) → answer ≡ Err refusals.Value
      → ¬ HasForm o w.escape_policy value
  value_of_setting answer refused is = subst (λ a. IfErr a (RefusesToSetOf o w T name key value)) is refused

  pub stop_of_setting : {X : Type 0} (answer : Result X EditError)
      → IfErr answer (RefusesToSetOf o w T name key value)
      → IfEditParse answer (λ e. HasForm o w.escape_policy value × IsStopOf o T e)
  stop_of_setting (Ok new) refused = tt
  stop_of_setting (Err (refusals.Text (Parse e))) refused = refused
  stop_of_setting (Err (refusals.Text (Memory e))) refused = tt
  stop_of_setting (Err (refusals.Text (Io e))) refused = tt
  stop_of_setting (Err (refusals.Text NoProgress)) refused = tt
  stop_of_setting (Err (refusals.Text NotUtf8)) refused = tt
  stop_of_setting (Err refusals.Value) refused = tt
  stop_of_setting (Err refusals.Name) refused = tt
  stop_of_setting (Err refusals.Key) refused = tt
  stop_of_setting (Err refusals.Separator) refused = tt
  stop_of_setting (Err refusals.NoPlace) refused = tt

  -- a new pair that can be written has a line of its own
  pub line_of : IsWritableNew o w key value → IsWritableLine o w.escape_policy key value
  line_of new = record {
    has_form = new.has_form;
    plain_key = new.plain_key;
    key_no_note = new.key_no_note;
    key_read_back = new.key_read_back;
  }

  -- what adding a pair is refused with
  no_form : RefusesNew o w key value refusals.Value → ¬ HasForm o w.escape_policy value
  no_form refused = refused.1

  no_line : RefusesNew o w key value refusals.Key → HasUnwritableKey o w.escape_policy key value
  no_line refused = record {
    has_form = refused.1.0;
    no_line = λ line. refused.1.1 (record {
      plain_separator = refused.0;
      has_form = line.has_form;
      plain_key = line.plain_key;
      key_no_note = line.key_no_note;
      key_read_back = line.key_read_back;
    });
  }

  value_refused : RefusesToAddTo o w T name key value refusals.Value → ¬ HasForm o w.escape_policy value
  value_refused (RefusesToAddTo.words refused) = no_form refused
  value_refused (RefusesToAddTo.pieces found) = at found.refused
    where
      at : {ss : List SectionPiece} → RefusesAdding o w ss name key value refusals.Value
          → ¬ HasForm o w.escape_policy value
      at (RefusesAdding.unwritable refused) = no_form refused

  key_refused : RefusesToAddTo o w T name key value refusals.Key
      → HasUnwritableKey o w.escape_policy key value
  key_refused (RefusesToAddTo.words refused) = no_line refused
  key_refused (RefusesToAddTo.pieces found) = at found.refused
    where
      at : {ss : List SectionPiece} → RefusesAdding o w ss name key value refusals.Key
          → HasUnwritableKey o w.escape_policy key value
      at (RefusesAdding.unwritable refused) = no_line refused

  name_refused : RefusesToAddTo o w T name key value refusals.Name
      → IsWritableLine o w.escape_policy key value
  name_refused (RefusesToAddTo.words none) = absurd none
  name_refused (RefusesToAddTo.pieces found) = at found.refused
    where
      at : {ss : List SectionPiece} → RefusesAdding o w ss name key value refusals.Name
          → IsWritableLine o w.escape_policy key value
      at (RefusesAdding.unwritable none) = absurd none
      at (RefusesAdding.unplain_name new lacks) = line_of new

  place_refused : RefusesToAddTo o w T name key value refusals.NoPlace
      → IsWritableLine o w.escape_policy key value
  place_refused (RefusesToAddTo.words none) = absurd none
  place_refused (RefusesToAddTo.pieces found) = at found.refused
    where
      at : {ss : List SectionPiece} → RefusesAdding o w ss name key value refusals.NoPlace
          → IsWritableLine o w.escape_policy key value
      at (RefusesAdding.unwritable none) = absurd none
      at (RefusesAdding.no_place new there first none) = line_of new

  text_refused : (e : ParseError) → RefusesToAddTo o w T name key value (refusals.Text (Parse e))
      → IsWritableLine o w.escape_policy key value × IsStopOf o T e
  text_refused e (RefusesToAddTo.words none) = absurd none
  text_refused e (RefusesToAddTo.fault new stop) = (line_of new, stop)
  text_refused e (RefusesToAddTo.pieces found) = at found.refused
    where
      at : {ss : List SectionPiece} → RefusesAdding o w ss name key value (refusals.Text (Parse e))
          → IsWritableLine o w.escape_policy key value × IsStopOf o T e
      at (RefusesAdding.unwritable none) = absurd none

  -- so what a call answers that adds one
  module _ {X : Type 0} (answer : Result X EditError)
      (refused : IfErr answer (RefusesToAddTo o w T name key value)) where
    of : {e : EditError} → answer ≡ Err e → RefusesToAddTo o w T name key value e
    of is = subst (λ a. IfErr a (RefusesToAddTo o w T name key value)) is refused

    pub value_of_adding : answer ≡ Err refusals.Value → ¬ HasForm o w.escape_policy value
    value_of_adding is = value_refused (of is)

    pub key_of_adding : answer ≡ Err refusals.Key → HasUnwritableKey o w.escape_policy key value
    key_of_adding is = key_refused (of is)

    pub name_of_adding : answer ≡ Err refusals.Name → IsWritableLine o w.escape_policy key value
    name_of_adding is = name_refused (of is)

    pub place_of_adding : answer ≡ Err refusals.NoPlace → IsWritableLine o w.escape_policy key value
    place_of_adding is = place_refused (of is)

  pub stop_of_adding : {X : Type 0} (answer : Result X EditError)
      → IfErr answer (RefusesToAddTo o w T name key value)
      → IfEditParse answer (λ e. IsWritableLine o w.escape_policy key value × IsStopOf o T e)
  stop_of_adding (Ok new) refused = tt
  stop_of_adding (Err (refusals.Text (Parse e))) refused = text_refused e refused
  stop_of_adding (Err (refusals.Text (Memory e))) refused = tt
  stop_of_adding (Err (refusals.Text (Io e))) refused = tt
  stop_of_adding (Err (refusals.Text NoProgress)) refused = tt
  stop_of_adding (Err (refusals.Text NotUtf8)) refused = tt
  stop_of_adding (Err refusals.Value) refused = tt
  stop_of_adding (Err refusals.Name) refused = tt
  stop_of_adding (Err refusals.Key) refused = tt
  stop_of_adding (Err refusals.Separator) refused = tt
  stop_of_adding (Err refusals.NoPlace) refused = tt

  pub line_of_adding : {X : Type 0} (answer : Result X EditError)
      → OnOk answer (IsWritableNew o w key value) → OnOk answer (IsWritableLine o w.escape_policy key value)
  line_of_adding (Ok new) writable = line_of writable
  line_of_adding (Err e) writable = tt
