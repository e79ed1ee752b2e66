-- All values of a key, set in a text in pieces.
use Rattle.std.specs.Prelude.{◌≡◌, Bool, true, false, List, [], ◌∷◌, ◌++◌, Option, chars, map, String}
use Rattle.std.specs.Prelude.{string_bytes}
use Rattle.std.specs.declared.alloc.Global.{Global}
use Rattle.ini_text.specs.declared.option.ParseOption.{ParseOption}
use Rattle.ini_text.specs.declared.write.option.WriteOption.{WriteOption}
use Rattle.ini.specs.Texts.{Text}
use Rattle.ini_edit.specs.SourceEditsAdded.{AreAllSet, RefusesOneValue}
use Rattle.ini_edit.specs.SourceEditsSet.{IsMemoryRefusal}
use Rattle.ini_edit.specs.Sources.{Pieces}
use Rattle.ini_edit.specs.declared.error.EditError.{EditError}
use Rattle.ini_dialect.specs.SourceLookups.{AreDeletedUnder, IsAddedUnder, RefusesUnder}
use Rattle.ini_dialect.specs.declared.rule.Lookup.{Lookup}
use Rattle.ini_dialect.specs.Rules.{is_own}
use Rattle.ini_file.specs.Remade.{IsRemadeText}

-- the texts of words
abbrev pub texts_in : List (String Global) → List Text
texts_in words = map chars (map string_bytes words)

module _ (rule : Lookup) (w : WriteOption) (name : Option Text) (key : Text) where
  -- pairs with these values were added, one after another, where the rule has new ones
  pub data AreAddedUnder : List Text → Pieces → Pieces → Type 0 where
    none_added : {p : Pieces} → AreAddedUnder [] p p
    then_added : {values : List Text} {p q r : Pieces} → AreAddedUnder values p q → (value : Text)
        → IsAddedUnder rule name key q.option w q r value → AreAddedUnder (values ++ value ∷ []) p r

  -- those before a value are added, and that is refused
  pub record RefusesAdded (values : List Text) (p : Pieces) (e : EditError) : Type 0 where
    pub before : List Text
    pub value : Text
    pub following : List Text
    pub whole : values ≡ before ++ value ∷ following
    pub mid : Pieces
    pub are_added : AreAddedUnder before p mid
    pub is_refused : RefusesUnder rule name key mid.option w mid value e

  -- the pairs of the key that are looked at are out, and those with the values are added
  pub record AreReplacedUnder (values : List Text) (p q : Pieces) : Type 0 where
    pub mid : Pieces
    pub option : mid.option ≡ p.option
    pub are_out : AreDeletedUnder rule name key p.option p.sections mid.sections
    pub are_added : AreAddedUnder values mid q

  pub data RefusesReplaced (values : List Text) (p : Pieces) (e : EditError) : Type 0 where
    memory : IsMemoryRefusal e → RefusesReplaced values p e
    adding : {mid : Pieces} → mid.option ≡ p.option
        → AreDeletedUnder rule name key p.option p.sections mid.sections
        → RefusesAdded values mid e → RefusesReplaced values p e

  -- The key has the values: by the crate's own rule as a list of them is set in the pieces.
  abbrev pub HaveValues : Bool → List Text → Pieces → Pieces → Type 0
  HaveValues true values p q = AreAllSet p.option w p q name key values
  HaveValues false values p q = AreReplacedUnder values p q

  abbrev pub RefusesValuesBy : Bool → List Text → Pieces → EditError → Type 0
  RefusesValuesBy true values p e = RefusesOneValue p.option w p name key values e
  RefusesValuesBy false values p e = RefusesReplaced values p e

  abbrev pub RefusesValues : List Text → Pieces → EditError → Type 0
  RefusesValues values p e = RefusesValuesBy (is_own rule) values p e

-- so it has in the text U, which is T otherwise
abbrev pub HasValuesText : Lookup → ParseOption → WriteOption → Option Text → Text → List Text → (T U : Text)
    → Type 0
HasValuesText rule o w name key values T U =
    IsRemadeText o T U (λ p q. HaveValues rule w name key (is_own rule) values p q)
