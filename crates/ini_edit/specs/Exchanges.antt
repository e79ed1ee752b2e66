-- Two edits that change places: in either order they make texts that load as one document.
use Rattle.std.specs.Prelude.{◌≡◌, ◌⊎◌, false, Option, Some, None}
use Rattle.ini_text.specs.declared.option.ParseOption.{ParseOption}
use Rattle.ini_text.specs.declared.write.policy.EscapePolicy.{EscapePolicy}
use Rattle.ini.specs.Texts.{Text, is_name, is_text}
use Rattle.ini.specs.Documents.{Document}
use Rattle.ini.specs.Loading.{IsDocumentOf}
use Rattle.ini_edit.specs.WholeTexts.{IsDeletedText, IsSetThereText}

-- The text U is T with a pair edited that is there, the first of the key in the first section of the name:
-- it has another value, or is taken out.
abbrev pub IsPairEdited : ParseOption → EscapePolicy → Text → Option Text → Text → Option Text → Text
    → Type 0
IsPairEdited o policy T name key (Some value) U = IsSetThereText o policy T name key value U
IsPairEdited o policy T name key None U = IsDeletedText o T name key U

-- the keys are different ones, or those of sections with different names
abbrev pub AreApart : Option Text → Text → Option Text → Text → Type 0
AreApart name key other_name other_key = (is_name name other_name ≡ false) ⊎ (is_text key other_key ≡ false)

-- both texts load as one document
pub record LoadAlike (o : ParseOption) (T U : Text) : Type 0 where
  pub document : Document
  pub first : IsDocumentOf o T document
  pub second : IsDocumentOf o U document

-- Two pairs that are there are edited, in either order: T to U to V, and T to X to Y.
pub record EditsBoth (o : ParseOption) (policy : EscapePolicy) (T V Y : Text)
    (name : Option Text) (key : Text) (value : Option Text)
    (other_name : Option Text) (other_key : Text) (other_value : Option Text) : Type 0 where
  pub U : Text
  pub X : Text
  pub first : IsPairEdited o policy T name key value U
  pub then : IsPairEdited o policy U other_name other_key other_value V
  pub other_first : IsPairEdited o policy T other_name other_key other_value X
  pub other_then : IsPairEdited o policy X name key value Y

-- Edits of two pairs change places where their keys or names are different ones.
abbrev pub EditsChangePlaces : ParseOption → EscapePolicy → Text → Type 0
EditsChangePlaces o policy T =
    (name : Option Text) (key : Text) (value : Option Text)
    → (other_name : Option Text) (other_key : Text) (other_value : Option Text)
    → AreApart name key other_name other_key
    → (V Y : Text) → EditsBoth o policy T V Y name key value other_name other_key other_value
    → LoadAlike o V Y
