-- No edit is refused as if the file were no text.
use Rattle.std.proofs.Common.{◌≡◌, refl, ℕ, Bool, true, false, List, Option}
use Rattle.ini_text.specs.declared.error.Error.TheVariants.{Io, Memory, NoProgress, NotUtf8, Parse}
use Rattle.ini_text.specs.declared.option.ParseOption.{ParseOption}
use Rattle.ini_text.specs.declared.write.option.WriteOption.{WriteOption}
use Rattle.ini.specs.Texts.{Text}
use Rattle.ini_edit.specs.Editings.{Editing}
use Rattle.ini_edit.specs.SourceEditsAdded.{RefusesAdding, RefusesOneValue}
use Rattle.ini_edit.specs.SourceEditsAt.{RefusesAtIndex, RefusesToCommentOutAtIndex}
use Rattle.ini_edit.specs.Sources.{Pieces, SectionPiece}
use Rattle.ini_edit.specs.WholeTexts.{RefusesOfText, RefusesToAddTo}
use Rattle.ini_edit.specs.declared.error.EditError.{EditError}
use Rattle.ini_edit.specs.declared.error.EditError.TheVariants.{Text as TextError}
use Rattle.ini_dialect.specs.KeyEdits.{RefusesToCommentOutUnder}
use Rattle.ini_dialect.specs.RuledTexts.{RefusesInText, RefusesMadeUnder}
use Rattle.ini_dialect.specs.SourceLookups.{RefusesToPutUnder, RefusesUnder}
use Rattle.ini_dialect.specs.declared.rule.Lookup.{Lookup}
use Rattle.ini_file.specs.Edits.{RefusesMadeBy}
use Rattle.ini_dialect.specs.Rules.{is_own}
use Rattle.ini_file.specs.ValueLists.{RefusesReplaced, RefusesValuesBy}
use Rattle.ini_file.specs.Further.{FurtherEditing, RefusesFurtherText}
use Rattle.ini_file.specs.Uncomment.{RefusesToUncomment}

adding : {o : ParseOption} {w : WriteOption} {ss : List SectionPiece} {name : Option Text} {key value : Text}
    → RefusesAdding o w ss name key value (TextError NotUtf8) → ⊥
adding (RefusesAdding.unwritable h) = h

to_add : {o : ParseOption} {w : WriteOption} {T : Text} {name : Option Text} {key value : Text}
    → RefusesToAddTo o w T name key value (TextError NotUtf8) → ⊥
to_add (RefusesToAddTo.words h) = h
to_add (RefusesToAddTo.pieces r) = adding r.refused

no_text : (o : ParseOption) (w : WriteOption) (T : Text) (e : Editing)
    → RefusesOfText o w e T (TextError NotUtf8) → ⊥
no_text o w T (Editing.Set name key value) r = adding r.refused.1.1
no_text o w T (Editing.SetExisting name key value) h = h
no_text o w T (Editing.Add name key value) r = to_add r
no_text o w T (Editing.Delete name key) h = h
no_text o w T (Editing.RenameKey name old new) h = h
no_text o w T (Editing.DeleteSection name) h = h
no_text o w T (Editing.RenameSection old new) h = h

-- nor is one under a rule
at_index : {o : ParseOption} {w : WriteOption} {ss : List SectionPiece} {section : ℕ} {key value : Text}
    → RefusesAtIndex o w ss section key value (TextError NotUtf8) → ⊥
at_index (RefusesAtIndex.unwritable_there h) = h

adding_under : {rule : Lookup} {name : Option Text} {key : Text} {o : ParseOption} {w : WriteOption}
    {p : Pieces} {value : Text} → RefusesUnder rule name key o w p value (TextError NotUtf8) → ⊥
adding_under (RefusesUnder.in_section takes r) = at_index r
adding_under (RefusesUnder.in_new_section lacks r) = adding r

putting_under : {rule : Lookup} {name : Option Text} {key : Text} {o : ParseOption} {w : WriteOption}
    {p : Pieces} {value : Text} → RefusesToPutUnder rule name key o w p value (TextError NotUtf8) → ⊥
putting_under (RefusesToPutUnder.in_place h) = h
putting_under (RefusesToPutUnder.in_new_pair none r) = adding_under r

module _ (rule : Lookup) (o : ParseOption) (w : WriteOption) (T : Text) where
  no_text_under : (e : Editing) → RefusesMadeUnder rule o T w e (TextError NotUtf8) → ⊥
  no_text_under (Editing.Set name key value) (RefusesInText.reading h) = h
  no_text_under (Editing.Set name key value) (RefusesInText.pieces r) = putting_under r.refused
  no_text_under (Editing.SetExisting name key value) (RefusesInText.reading h) = h
  no_text_under (Editing.SetExisting name key value) (RefusesInText.pieces r) = r.refused
  no_text_under (Editing.Add name key value) (RefusesInText.reading h) = h
  no_text_under (Editing.Add name key value) (RefusesInText.pieces r) = adding_under r.refused
  no_text_under (Editing.Delete name key) (RefusesInText.reading h) = h
  no_text_under (Editing.Delete name key) (RefusesInText.pieces r) = r.refused
  no_text_under (Editing.RenameKey name old new) (RefusesInText.reading h) = h
  no_text_under (Editing.RenameKey name old new) (RefusesInText.pieces r) = r.refused
  no_text_under (Editing.DeleteSection name) (RefusesInText.reading h) = h
  no_text_under (Editing.DeleteSection name) (RefusesInText.pieces r) = r.refused
  no_text_under (Editing.RenameSection old new) (RefusesInText.reading h) = h
  no_text_under (Editing.RenameSection old new) (RefusesInText.pieces r) = r.refused

pub no_text_by : (own : Bool) (rule : Lookup) (o : ParseOption) (w : WriteOption) (T : Text) (e : Editing)
    → RefusesMadeBy own rule o w e T (TextError NotUtf8) → ⊥
no_text_by true rule o w T e r = no_text o w T e r
no_text_by false rule o w T e r = no_text_under rule o w T e r

-- nor one that is none of the list
commenting_at : {o : ParseOption} {ss : List SectionPiece} {section pair : ℕ} {e : EditError}
    → RefusesToCommentOutAtIndex o ss section pair e → e ≡ TextError NotUtf8 → ⊥
commenting_at (RefusesToCommentOutAtIndex.no_place_at was none) is = cc
commenting_at RefusesToCommentOutAtIndex.no_memory_at is = cc

commenting : {rule : Lookup} {name : Option Text} {key : Text} {p : Pieces}
    → RefusesToCommentOutUnder rule name key p (TextError NotUtf8) → ⊥
commenting (RefusesToCommentOutUnder.there counts r) = commenting_at r refl

values_by : (own : Bool) (rule : Lookup) (w : WriteOption) (name : Option Text) (key : Text)
    (values : List Text) (p : Pieces) → RefusesValuesBy rule w name key own values p (TextError NotUtf8) → ⊥
values_by true rule w name key values p (RefusesOneValue.refused_value after value is are_put r) =
    adding r.1.1
values_by false rule w name key values p (RefusesReplaced.memory h) = h
values_by false rule w name key values p (RefusesReplaced.adding option out r) = adding_under r.is_refused

pub no_text_further : (rule : Lookup) (o : ParseOption) (w : WriteOption) (T : Text) (e : FurtherEditing)
    → RefusesFurtherText rule o w e T (TextError NotUtf8) → ⊥
no_text_further rule o w T (FurtherEditing.DeleteAll name key) r =
    no_text_under rule o w T (Editing.Delete name key) r
no_text_further rule o w T (FurtherEditing.SetAll name key values) (RefusesInText.reading h) = h
no_text_further rule o w T (FurtherEditing.SetAll name key values) (RefusesInText.pieces r) =
    values_by (is_own rule) rule w name key values r.pieces r.refused
no_text_further rule o w T (FurtherEditing.AddSection name) (RefusesInText.reading h) = h
no_text_further rule o w T (FurtherEditing.AddSection name) (RefusesInText.pieces r) = r.refused
no_text_further rule o w T (FurtherEditing.CommentOut name key) (RefusesInText.reading h) = h
no_text_further rule o w T (FurtherEditing.CommentOut name key) (RefusesInText.pieces r) =
    commenting r.refused
no_text_further rule o w T (FurtherEditing.Uncomment name key) (RefusesToUncomment.reading h) = h
