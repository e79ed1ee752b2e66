-- What an edit of a text gives, as C gets it.
use Rattle.std.specs.Prelude.{◌≡◌, ℕ, List, Option, length, chars, ⊤}
use Rattle.std.specs.Str.{IsUtf8}
use Rattle.ini.specs.Texts.{Text}
use Rattle.ini_text.specs.declared.error.Error.TheVariants.{Parse}
use Rattle.ini_text.specs.declared.error.ParseError.{ParseError}
use Rattle.ini_text.specs.declared.option.ParseOption.{ParseOption}
use Rattle.ini_text.specs.declared.write.option.WriteOption.{WriteOption}
use Rattle.ini_text.specs.declared.write.policy.EscapePolicy.{EscapePolicy}
use Rattle.ini_edit.specs.Made.{IsWritableLine}
use Rattle.ini_edit.specs.SourceWritten.{HasForm}
use Rattle.ini_edit.specs.WholeTexts.{IsAddedText, IsSetText, RefusesToAddTo, RefusesToSetOf}
use Rattle.ini_edit.specs.declared.error.EditError.{EditError}
use Rattle.ini_edit.specs.declared.error.EditError.TheVariants.{Text as TextError}
use Rattle.ini_c.specs.Choices.{IsWriteOption}
use Rattle.ini_c.specs.Faults.{TellsParseError}
use Rattle.ini_c.specs.LookUps.{AreTexts}
use Rattle.ini_c.specs.declared.fault.Fault.{Fault}
use Rattle.ini_c.specs.declared.options.WriteChoice.{WriteChoice}

-- a text, a section's name and a key are UTF-8
abbrev pub AreEdit : List ℕ → List ℕ → List ℕ → Type 0
AreEdit text section key = IsUtf8 text × AreTexts section key

-- a line of the key and the value can't be written, and not for the value
pub record HasUnwritableKey (o : ParseOption) (policy : EscapePolicy) (key value : Text) : Type 0 where
  pub has_form : HasForm o policy value
  pub no_line : ¬ IsWritableLine o policy key value

-- a text of which P holds has so many bytes
pub record IsCountOfText (P : Text → Type 0) (count : ℕ) : Type 0 where
  pub bytes : List ℕ
  pub is_utf8 : IsUtf8 bytes
  pub holds : P (chars bytes)
  pub is_length : count ≡ length bytes

-- an edit is refused since the text breaks the grammar
abbrev pub IsTextFault : EditError → Type 0
IsTextFault (TextError (Parse stop)) = ⊤
IsTextFault _ = ⊥

-- so it is, and the fault for C tells where and why
pub record TellsEditError (refusal : EditError) (f : Fault) : Type 0 where
  pub stop : ParseError
  pub is : refusal ≡ TextError (Parse stop)
  pub tells : TellsParseError stop f

-- the text U is T with the key set, by the option that the choice asks for
pub record IsSetBy (o : ParseOption) (choice : WriteChoice) (T : Text) (name : Option Text)
    (key value U : Text) : Type 0 where
  pub option : WriteOption
  pub asked : IsWriteOption choice option
  pub is_set : IsSetText o option T name key value U

-- setting the key, by the option that the choice asks for, is refused so
pub record RefusesToSetBy (o : ParseOption) (choice : WriteChoice) (T : Text) (name : Option Text)
    (key value : Text) (e : EditError) : Type 0 where
  pub option : WriteOption
  pub asked : IsWriteOption choice option
  pub refuses : RefusesToSetOf o option T name key value e

-- the text U is T to which the pair is added, by the option that the choice asks for
pub record IsAddedBy (o : ParseOption) (choice : WriteChoice) (T : Text) (name : Option Text)
    (key value U : Text) : Type 0 where
  pub option : WriteOption
  pub asked : IsWriteOption choice option
  pub is_added : IsAddedText o option T name key value U

-- adding the pair, by the option that the choice asks for, is refused so
pub record RefusesToAddBy (o : ParseOption) (choice : WriteChoice) (T : Text) (name : Option Text)
    (key value : Text) (e : EditError) : Type 0 where
  pub option : WriteOption
  pub asked : IsWriteOption choice option
  pub refuses : RefusesToAddTo o option T name key value e
