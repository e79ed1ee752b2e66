-- Edits under a rule of a text in pieces: which pieces change, and the document afterwards.
use Rattle.std.specs.Prelude.{◌≡◌, Bool, true, false, ℕ, List, [], map, Option, None}
use Rattle.ini.specs.Documents.{Document}
use Rattle.ini.specs.Texts.{Text}
use Rattle.ini_text.specs.declared.option.ParseOption.{ParseOption}
use Rattle.ini_text.specs.declared.write.option.WriteOption.{WriteOption}
use Rattle.ini_text.specs.declared.write.policy.EscapePolicy.{EscapePolicy}
use Rattle.ini_edit.specs.SourceEditsAdded.{IsAddedIn, RefusesAdding}
use Rattle.ini_edit.specs.SourceEditsAt.{IsAddedAtIndex, IsSetAtIndex, RefusesAtIndex, deleted_at_index}
use Rattle.ini_edit.specs.SourceEditsSet.{IsMemoryRefusal}
use Rattle.ini_edit.specs.SourceWritten.{HasForm}
use Rattle.ini_edit.specs.Sources.{Pieces, SectionPiece, document_in, given_section}
use Rattle.ini_edit.specs.declared.error.EditError.{EditError}
use Rattle.ini_edit.specs.declared.error.EditError.TheVariants.{Value}
use Rattle.ini_dialect.specs.Lookups.{add_under, all_values, set_under, value_under}
use Rattle.ini_dialect.specs.Numbers.{CountsAt, NonePasses, PairCounts, new_order, passes_key}
use Rattle.ini_dialect.specs.declared.rule.Lookup.{Lookup}
use Rattle.ini_dialect.specs.declared.rule.ValueRule.TheVariants.{First as FirstValue}
use Rattle.ini_dialect.specs.declared.source.PairNumber.{PairNumber}

-- the rule by which the first value counts
abbrev pub by_first : Lookup → Lookup
by_first rule = record { sections = rule.sections; values = FirstValue; case = rule.case }

-- a value is refused that can't be written, whatever the text is; or memory is
abbrev pub RefusesValue : ParseOption → EscapePolicy → Text → EditError → Type 0
RefusesValue o policy value Value = ¬ HasForm o policy value
RefusesValue o policy value e = IsMemoryRefusal e

module _ (rule : Lookup) (name : Option Text) (key : Text) where
  -- the pair is at the place from which `get` answers
  abbrev pub IsCountingPair : Document → PairNumber → Type 0
  IsCountingPair d at = PairCounts rule name key d at.section at.pair

  -- The pair that counts has the value, in its place.
  pub record IsSetUnder (o : ParseOption) (policy : EscapePolicy) (old new : Pieces)
      (value : Text) : Type 0 where
    pub at : PairNumber
    pub counts : IsCountingPair (document_in old) at
    pub is_set : IsSetAtIndex o policy old new at.section at.pair value
    pub document : document_in new ≡ set_under rule name key value (document_in old)

  -- it has, or there is no such pair, and all stays
  abbrev pub SetsUnder : ParseOption → EscapePolicy → Pieces → Pieces → Text → Bool → Type 0
  SetsUnder o policy old new value true = IsSetUnder o policy old new value
  SetsUnder o policy old new value false =
      (new ≡ old) × (value_under rule name key (document_in old) ≡ None)

  -- the section of this number takes new pairs; or there is none, and a new one does
  abbrev pub TakesNew : Document → ℕ → Type 0
  TakesNew d section = CountsAt (new_order rule) (passes_key rule name None) d section

  abbrev pub LacksName : Document → Type 0
  LacksName d = NonePasses (passes_key rule name None) d

  module _ (o : ParseOption) (w : WriteOption) where
    pub data AddsPair (old new : Pieces) (value : Text) : Type 0 where
      in_section : {section : ℕ} → TakesNew (document_in old) section
          → IsAddedAtIndex o w old new section key value → AddsPair old new value
      in_new_section : LacksName (document_in old) → IsAddedIn o w old new name key value
          → AddsPair old new value

    -- The pair is added there.
    pub record IsAddedUnder (old new : Pieces) (value : Text) : Type 0 where
      pub adds : AddsPair old new value
      pub document : document_in new ≡ add_under rule name key value (document_in old)

    -- what adding it is refused with
    pub data RefusesUnder (old : Pieces) (value : Text) : EditError → Type 0 where
      in_section : {section : ℕ} {e : EditError} → TakesNew (document_in old) section
          → RefusesAtIndex o w old.sections section key value e → RefusesUnder old value e
      in_new_section : {e : EditError} → LacksName (document_in old)
          → RefusesAdding o w old.sections name key value e → RefusesUnder old value e

    -- the pair that counts has the value; where there is none a new one
    pub data IsPutUnder (old new : Pieces) (value : Text) : Type 0 where
      in_place : IsSetUnder o w.escape_policy old new value → IsPutUnder old new value
      in_new_pair : value_under rule name key (document_in old) ≡ None → IsAddedUnder old new value
          → IsPutUnder old new value

    pub data RefusesToPutUnder (old : Pieces) (value : Text) : EditError → Type 0 where
      in_place : {e : EditError} → RefusesValue o w.escape_policy value e → RefusesToPutUnder old value e
      in_new_pair : {e : EditError} → value_under rule name key (document_in old) ≡ None
          → RefusesUnder old value e → RefusesToPutUnder old value e

  -- The first pair of the key that is looked at was taken out, as often as there was one.
  pub data AreDeletedUnder (o : ParseOption) : List SectionPiece → List SectionPiece → Type 0 where
    none_left : {ss : List SectionPiece} → all_values rule name key (map given_section ss) ≡ []
        → AreDeletedUnder o ss ss
    first_out : {ss new : List SectionPiece} {section pair : ℕ}
        → PairCounts (by_first rule) name key (map given_section ss) section pair
        → AreDeletedUnder o (deleted_at_index o section pair ss) new → AreDeletedUnder o ss new
