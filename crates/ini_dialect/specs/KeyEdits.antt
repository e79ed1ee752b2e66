-- Edits under a rule of the keys of a text in pieces: which pairs get another key, which becomes a comment,
-- and the document afterwards.
use Rattle.std.specs.Prelude.{◌≡◌, Bool, true, false, ℕ, suc, if◌then◌else◌, List, [], ◌∷◌, map, Option, None}
use Rattle.ini.specs.Documents.{Document}
use Rattle.ini.specs.Properties.{Pairs}
use Rattle.ini.specs.Texts.{Text}
use Rattle.ini_text.specs.declared.option.ParseOption.{ParseOption}
use Rattle.ini_text.specs.declared.write.policy.EscapePolicy.{EscapePolicy}
use Rattle.ini_edit.specs.Renamed.{IsPlainBareKey}
use Rattle.ini_edit.specs.SourceEditsAt.{IsCommentedOutAtIndex, RefusesToCommentOutAtIndex, RenamesAtIndex}
use Rattle.ini_edit.specs.SourceEditsSet.{IsMemoryRefusal}
use Rattle.ini_edit.specs.Sources.{Pieces, document_in}
use Rattle.ini_edit.specs.declared.error.EditError.{EditError}
use Rattle.ini_edit.specs.declared.error.EditError.TheVariants.{Key}
use Rattle.ini_dialect.specs.Lookups.{at_first, is_named, joined, name_fits, text_fits, value_under}
use Rattle.ini_dialect.specs.SourceLookups.{IsCountingPair}
use Rattle.ini_dialect.specs.declared.rule.CaseRule.{CaseRule}
use Rattle.ini_dialect.specs.declared.rule.Lookup.{Lookup}
use Rattle.ini_dialect.specs.declared.rule.SectionRule.{SectionRule}
use Rattle.ini_dialect.specs.declared.rule.SectionRule.TheVariants.{First as FirstSection, Joined}
use Rattle.ini_dialect.specs.declared.source.PairNumber.{PairNumber}

-- where the pairs of the key stand in a section of this number, of which these are left from a pair's number
-- on
abbrev pub numbers_in : CaseRule → Text → (section pair : ℕ) → Pairs → List PairNumber
numbers_in case key section pair [] = []
numbers_in case key section pair (p ∷ ps) =
    if text_fits case key p.0
    then record { section = section; pair = pair } ∷ numbers_in case key section (suc pair) ps
    else numbers_in case key section (suc pair) ps

module _ (rule : Lookup) (name : Option Text) (key : Text) where
  -- and in the sections that are looked at, of which these are left from a section's number on
  abbrev pub numbers_by : SectionRule → (section : ℕ) → Document → List PairNumber
  numbers_by sections section [] = []
  numbers_by sections section (s ∷ d) =
      if name_fits rule.case name s.0
      then joined sections (numbers_in rule.case key section 0 s.1) (numbers_by sections (suc section) d)
      else numbers_by sections (suc section) d

  -- where the pairs of the key stand that are looked at, in order
  abbrev pub numbers_under : Document → List PairNumber
  numbers_under d = numbers_by rule.sections 0 d

-- The pairs of these numbers got the other key, one after another.
pub data AreKeysRenamed (policy : EscapePolicy) (other : Text) : List PairNumber → Pieces → Pieces → Type 0
  where
    none_left : {p : Pieces} → AreKeysRenamed policy other [] p p
    first_of : {at : PairNumber} {numbers : List PairNumber} {p mid q : Pieces} (there : Bool)
        → RenamesAtIndex p.option policy p mid at.section at.pair other there
        → AreKeysRenamed policy other numbers mid q → AreKeysRenamed policy other (at ∷ numbers) p q

-- the new key is refused that can't be written, whatever the text is; or memory is
abbrev pub RefusesKey : ParseOption → EscapePolicy → Text → EditError → Type 0
RefusesKey o policy key Key = ¬ IsPlainBareKey o policy key
RefusesKey o policy key e = IsMemoryRefusal e

module _ (rule : Lookup) (name : Option Text) (key : Text) where
  -- every pair of the key in a section has the other one
  abbrev pub with_other_key : (other : Text) → Option Text × Pairs → Option Text × Pairs
  with_other_key other s = (s.0, map (λ p. if text_fits rule.case key p.0 then (other, p.1) else p) s.1)

  -- in each section that is looked at
  abbrev pub keys_renamed_by : SectionRule → (other : Text) → Document → Document
  keys_renamed_by FirstSection other d = at_first (is_named rule name) (with_other_key other) d
  keys_renamed_by Joined other d = map (λ s. if is_named rule name s then with_other_key other s else s) d

  abbrev pub keys_renamed : (other : Text) → Document → Document
  keys_renamed other d = keys_renamed_by rule.sections other d

  -- the pairs that are looked at got the other key
  abbrev pub AreRenamedUnder : EscapePolicy → (other : Text) → Pieces → Pieces → Type 0
  AreRenamedUnder policy other old new =
      AreKeysRenamed policy other (numbers_under rule name key (document_in old)) old new

  -- The pair that counts is a comment.
  pub record IsCommentedOutUnder (old new : Pieces) : Type 0 where
    pub at : PairNumber
    pub counts : IsCountingPair rule name key (document_in old) at
    pub commented : IsCommentedOutAtIndex old.option old new at.section at.pair

  -- it is, or there is no such pair, and all stays
  abbrev pub CommentsOutUnder : Pieces → Pieces → Bool → Type 0
  CommentsOutUnder old new true = IsCommentedOutUnder old new
  CommentsOutUnder old new false = (new ≡ old) × (value_under rule name key (document_in old) ≡ None)

  -- that is refused where no comment may stand in its place, or for memory
  pub data RefusesToCommentOutUnder (old : Pieces) : EditError → Type 0 where
    there : {at : PairNumber} {e : EditError} → IsCountingPair rule name key (document_in old) at
        → RefusesToCommentOutAtIndex old.option old.sections at.section at.pair e
        → RefusesToCommentOutUnder old e
