-- Changes of settings put into a text in pieces under a rule: which edits make them, and what they are
-- refused with.
use Rattle.std.specs.Prelude.{◌≡◌, Bool, true, false, List, [], ◌∷◌, ◌++◌, Option, None, Some, alloc_error}
use Rattle.std.specs.Prelude.{length}
use Rattle.ini_text.specs.declared.error.Error.TheVariants.{Memory}
use Rattle.ini_text.specs.declared.write.option.WriteOption.{WriteOption}
use Rattle.ini.specs.Texts.{Text}
use Rattle.ini_edit.specs.SourceEditsAdded.{IsSetIn, RefusesToSetIn}
use Rattle.ini_edit.specs.Sources.{Pieces, document_in}
use Rattle.ini_edit.specs.declared.edit_list.RefusedEdit.{RefusedEdit}
use Rattle.ini_edit.specs.declared.error.EditError.{EditError}
use Rattle.ini_edit.specs.declared.error.EditError.TheVariants.{Text as TextError}
use Rattle.ini_edit.specs.declared.source.set.LaterPairs.TheVariants.{TakenOut}
use Rattle.ini_dialect.specs.ListEdits.{AreAllSetUnder, RefusesToSetAll}
use Rattle.ini_dialect.specs.Lists.{list_values}
use Rattle.ini_dialect.specs.Rules.{is_own}
use Rattle.ini_dialect.specs.SourceLookups.{AreDeletedUnder, IsPutUnder, RefusesToPutUnder}
use Rattle.ini_dialect.specs.declared.rule.Lookup.{Lookup}
use Rattle.ini_layers.specs.Applying.{KeepsOthersBy, meant_value}
use Rattle.ini_layers.specs.Differences.{SettingChange}
use Rattle.ini_layers.specs.Settings.{value_by}
use Rattle.ini_layers.specs.declared.change.SettingValue.{SettingValue}
use Rattle.ini_layers.specs.declared.change.SettingValue.TheVariants.{Counting, List as WholeList}

-- one of two, by what a setting's value is
abbrev pub made_by : SettingValue → (counting whole : Type 0) → Type 0
made_by Counting counting whole = counting
made_by WholeList counting whole = whole

module _ (rule : Lookup) (w : WriteOption) where
  -- A setting gets a value: by the default rule as `Source::set` sets it, in one pair; by another as the rule
  -- does, in the pair that counts, while others stay.
  abbrev pub GetsValue : Bool → Option Text → (key value : Text) → (old new : Pieces) → Type 0
  GetsValue true name key value old new = IsSetIn old.option w TakenOut old new name key value
  GetsValue false name key value old new = IsPutUnder rule name key old.option w old new value

  abbrev pub RefusesToGet : Bool → Option Text → (key value : Text) → Pieces → EditError → Type 0
  RefusesToGet true name key value p = RefusesToSetIn p.option w p.sections name key value
  RefusesToGet false name key value p = RefusesToPutUnder rule name key p.option w p value

module _ (which : SettingValue) (rule : Lookup) (w : WriteOption) where
  -- a setting that is to have a value gets it, or its key gets the values of a list; one that is to have none
  -- loses its pairs
  abbrev pub MakesValue : Option Text → Text → Option Text → (old new : Pieces) → Type 0
  MakesValue name key None old new = AreDeletedUnder rule name key old.option old.sections new.sections
  MakesValue name key (Some value) old new =
      made_by which (GetsValue rule w (is_own rule) name key value old new)
      (AreAllSetUnder rule name key w old new (list_values value))

  -- the change is made: its setting has the new value, and every other what it had
  pub record IsMadeBy (c : SettingChange) (old new : Pieces) : Type 0 where
    pub made : MakesValue c.name c.key c.new old new
    pub option : new.option ≡ old.option
    pub value : value_by which rule c.name c.key (document_in new) ≡ meant_value which c.new
    pub others : KeepsOthersBy which rule c.name c.key (document_in old) (document_in new)

  -- the changes are made one after another
  pub data AreMadeBy (old : Pieces) : List SettingChange → Pieces → Type 0 where
    none : AreMadeBy old [] old
    then : {changes : List SettingChange} {mid new : Pieces} (c : SettingChange) → AreMadeBy old changes mid
        → IsMadeBy c mid new → AreMadeBy old (changes ++ c ∷ []) new

  -- what making one is refused with
  abbrev pub RefusesValueBy : Option Text → Text → Option Text → Pieces → EditError → Type 0
  RefusesValueBy name key None p e = e ≡ TextError (Memory alloc_error)
  RefusesValueBy name key (Some value) p e =
      made_by which (RefusesToGet rule w (is_own rule) name key value p e)
      (RefusesToSetAll rule name key w p (list_values value) e)

  abbrev pub RefusesFirst : List SettingChange → Pieces → EditError → Type 0
  RefusesFirst [] p e = e ≡ TextError (Memory alloc_error)
  RefusesFirst (c ∷ changes) p e = RefusesValueBy c.name c.key c.new p e

  -- the changes before the one at the index make these pieces, and there this one is refused, or memory is
  pub record RefusesOneBy (old : Pieces) (changes : List SettingChange) (refused : RefusedEdit) : Type 0 where
    pub before : List SettingChange
    pub following : List SettingChange
    pub mid : Pieces
    pub whole : changes ≡ before ++ following
    pub index : refused.index ≡ length before
    pub are_made : AreMadeBy old before mid
    pub is_refused : RefusesFirst following mid refused.refusal

-- the same where the value that counts is a setting's
module _ (rule : Lookup) (w : WriteOption) where
  abbrev pub IsMade : SettingChange → (old new : Pieces) → Type 0
  IsMade c old new = IsMadeBy Counting rule w c old new

  abbrev pub AreMade : (old : Pieces) → List SettingChange → (new : Pieces) → Type 0
  AreMade old changes new = AreMadeBy Counting rule w old changes new

  abbrev pub RefusesValue : Option Text → Text → Option Text → Pieces → EditError → Type 0
  RefusesValue name key new p e = RefusesValueBy Counting rule w name key new p e

  abbrev pub RefusesOne : (old : Pieces) → List SettingChange → RefusedEdit → Type 0
  RefusesOne old changes refused = RefusesOneBy Counting rule w old changes refused
