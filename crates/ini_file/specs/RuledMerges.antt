-- What settings make of a text under a rule, one after another in its pieces.
use Rattle.std.specs.Prelude.{◌≡◌, Bool, true, false, List, [], ◌∷◌, ◌++◌, flat_map, length}
use Rattle.ini_text.specs.declared.error.Error.{Error}
use Rattle.ini_text.specs.declared.option.ParseOption.{ParseOption}
use Rattle.ini_text.specs.declared.write.option.WriteOption.{WriteOption}
use Rattle.ini.specs.Documents.{Document}
use Rattle.ini.specs.Texts.{Text}
use Rattle.ini_edit.specs.Editings.{Editing, Set}
use Rattle.ini_edit.specs.Sources.{Pieces}
use Rattle.ini_edit.specs.WholeTexts.{IsRefusalOf, MakesText, RefuseInPieces, RefusesText}
use Rattle.ini_edit.specs.declared.edit_list.RefusedEdit.{RefusedEdit}
use Rattle.ini_edit.specs.declared.error.EditError.{EditError}
use Rattle.ini_edit.specs.declared.error.EditError.TheVariants.{Text as TextError}
use Rattle.ini_dialect.specs.RuledLayers.{settings_in_layers}
use Rattle.ini_dialect.specs.SourceLookups.{IsPutUnder, RefusesToPutUnder}
use Rattle.ini_dialect.specs.declared.rule.Lookup.{Lookup}
use Rattle.ini_file.specs.Remade.{IsRemadeText}
use Rattle.ini_file.specs.Settings.{settings_of}

module _ (rule : Lookup) (w : WriteOption) where
  -- the key has the value; another edit than setting it isn't made
  abbrev pub MakesSetting : Editing → Pieces → Pieces → Type 0
  MakesSetting (Set name key value) p q = IsPutUnder rule name key p.option w p q value
  MakesSetting _ p q = q ≡ p

  abbrev pub RefusesSetting : Editing → Pieces → EditError → Type 0
  RefusesSetting (Set name key value) p e = RefusesToPutUnder rule name key p.option w p value e
  RefusesSetting _ p e = ⊥

  -- so it is with each, one after another
  pub data AreSettingsMade : List Editing → Pieces → Pieces → Type 0 where
    none_made : {p : Pieces} → AreSettingsMade [] p p
    then_made : {edits : List Editing} {p q r : Pieces} → AreSettingsMade edits p q → (e : Editing)
        → MakesSetting e q r → AreSettingsMade (edits ++ e ∷ []) p r

  -- those before the one at the index are made, and that is refused
  pub record RefusesOneSetting (edits : List Editing) (p : Pieces) (refused : RefusedEdit) : Type 0 where
    pub before : List Editing
    pub edit : Editing
    pub following : List Editing
    pub whole : edits ≡ before ++ edit ∷ following
    pub is_at : refused.index ≡ length before
    pub mid : Pieces
    pub are_made : AreSettingsMade before p mid
    pub is_refused : RefusesSetting edit mid refused.refusal

  -- the text is refused, or memory is; or one of them is
  pub data RefusesSettings (o : ParseOption) (edits : List Editing) (T : Text) : RefusedEdit → Type 0 where
    reading : {e : Error} → IsRefusalOf o T e
        → RefusesSettings o edits T (record { index = 0; refusal = TextError e })
    pieces : {refused : RefusedEdit} → RefuseInPieces o T (λ p. RefusesOneSetting edits p refused)
        → RefusesSettings o edits T refused

-- what documents set: by the crate's own rule as `settings_of` has it
abbrev pub settings_by : Bool → Lookup → List Document → List Editing
settings_by true rule documents = flat_map settings_of documents
settings_by false rule documents = settings_in_layers rule documents

-- the text U is T with the settings: by that rule as `make_edits` of `ini_edit` makes them
abbrev pub HasSettings : Bool → Lookup → ParseOption → WriteOption → List Editing → (T U : Text) → Type 0
HasSettings true rule o w edits T U = (found : List Bool) × MakesText o w edits T found U
HasSettings false rule o w edits T U = IsRemadeText o T U (AreSettingsMade rule w edits)

abbrev pub RefusesSettingsBy : Bool → Lookup → ParseOption → WriteOption → List Editing → Text → RefusedEdit
    → Type 0
RefusesSettingsBy true rule o w edits T refused = RefusesText o w edits T refused
RefusesSettingsBy false rule o w edits T refused = RefusesSettings rule w o edits T refused
