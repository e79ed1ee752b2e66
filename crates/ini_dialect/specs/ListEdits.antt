-- All values of a key set under a rule in a text in pieces: which pairs get them, which go and which are new,
-- the document afterwards, and what look-ups answer then.
use Rattle.std.specs.Prelude.{◌≡◌, Bool, false, ◌&&◌, if◌then◌else◌, List, [], ◌∷◌, ◌++◌, drop, length}
use Rattle.std.specs.Prelude.{Option}
use Rattle.ini_multimap.specs.Pairs.{values_at, without}
use Rattle.ini.specs.Documents.{Document}
use Rattle.ini.specs.Properties.{Pairs}
use Rattle.ini.specs.Texts.{Text}
use Rattle.ini_text.specs.declared.option.ParseOption.{ParseOption}
use Rattle.ini_text.specs.declared.write.option.WriteOption.{WriteOption}
use Rattle.ini_text.specs.declared.write.policy.EscapePolicy.{EscapePolicy}
use Rattle.ini_edit.specs.SourceEditsAt.{SetsAtIndex, deleted_at_index}
use Rattle.ini_edit.specs.SourceEditsList.{with_sections}
use Rattle.ini_edit.specs.SourceEditsSet.{IsMemoryRefusal}
use Rattle.ini_edit.specs.Sources.{Pieces, document_in}
use Rattle.ini_edit.specs.declared.error.EditError.{EditError}
use Rattle.ini_dialect.specs.KeyEdits.{numbers_under}
use Rattle.ini_dialect.specs.Lookups.{add_under, all_values, at_first, is_named, name_fits, text_fits}
use Rattle.ini_dialect.specs.SourceLookups.{IsAddedUnder, RefusesUnder, RefusesValue}
use Rattle.ini_dialect.specs.declared.rule.CaseRule.{CaseRule}
use Rattle.ini_dialect.specs.declared.rule.Lookup.{Lookup}
use Rattle.ini_dialect.specs.declared.rule.SectionRule.{SectionRule}
use Rattle.ini_dialect.specs.declared.rule.SectionRule.TheVariants.{First as FirstSection, Joined}
use Rattle.ini_dialect.specs.declared.source.PairNumber.{PairNumber}

-- The pairs of these numbers got these values, one after another, as far as there are both.
pub data AreValuesSet (policy : EscapePolicy) : List PairNumber → List Text → Pieces → Pieces → Type 0 where
  no_number : {values : List Text} {p : Pieces} → AreValuesSet policy [] values p p
  no_value : {numbers : List PairNumber} {p : Pieces} → AreValuesSet policy numbers [] p p
  first_set : {at : PairNumber} {numbers : List PairNumber} {value : Text} {values : List Text}
      {p mid q : Pieces} (there : Bool)
      → SetsAtIndex p.option policy p mid at.section at.pair value there
      → AreValuesSet policy numbers values mid q
      → AreValuesSet policy (at ∷ numbers) (value ∷ values) p q

-- The pairs of these numbers were taken out, the last one first.
pub data AreTakenOut : List PairNumber → Pieces → Pieces → Type 0 where
  none_out : {p : Pieces} → AreTakenOut [] p p
  later_out : {at : PairNumber} {numbers : List PairNumber} {p mid : Pieces} → AreTakenOut numbers p mid
      → AreTakenOut (at ∷ numbers) p
      (with_sections mid (deleted_at_index mid.option at.section at.pair mid.sections))

-- one of the values is refused
pub data RefusesOneValue (o : ParseOption) (policy : EscapePolicy) (values : List Text) : EditError → Type 0
  where
    refused_value : (before after : List Text) (value : Text) {e : EditError}
        → values ≡ before ++ value ∷ after → RefusesValue o policy value e
        → RefusesOneValue o policy values e

-- the pairs of the key in a section have the values, one after another; those for which none is left go
abbrev pub pairs_given : CaseRule → Text → List Text → Pairs → Pairs
pairs_given case key [] ps = without (text_fits case key) ps
pairs_given case key (v ∷ vs) [] = []
pairs_given case key (v ∷ vs) (p ∷ ps) =
    if text_fits case key p.0 then (p.0, v) ∷ pairs_given case key vs ps
    else p ∷ pairs_given case key (v ∷ vs) ps

module _ (rule : Lookup) (name : Option Text) (key : Text) where
  -- so in the sections that are looked at
  abbrev pub given_by : SectionRule → List Text → Document → Document
  given_by FirstSection values d =
      at_first (is_named rule name) (λ s. (s.0, pairs_given rule.case key values s.1)) d
  given_by Joined values [] = []
  given_by Joined values (s ∷ d) =
      if is_named rule name s
      then (s.0, pairs_given rule.case key values s.1)
      ∷ given_by Joined (drop (length (values_at (text_fits rule.case key) s.1)) values) d
      else s ∷ given_by Joined values d

  -- pairs with these values added, one after another
  abbrev pub all_added : List Text → Document → Document
  all_added [] d = d
  all_added (value ∷ values) d = all_added values (add_under rule name key value d)

  -- the pairs that are looked at have the values, and those more stand in new pairs
  abbrev pub all_set_under : List Text → Document → Document
  all_set_under values d =
      all_added (drop (length (all_values rule name key d)) values) (given_by rule.sections values d)

  module _ (w : WriteOption) where
    -- Pairs with these values were added, one after another.
    pub data AreAdded : List Text → Pieces → Pieces → Type 0 where
      none_new : {p : Pieces} → AreAdded [] p p
      first_new : {value : Text} {values : List Text} {p mid q : Pieces}
          → IsAddedUnder rule name key p.option w p mid value → AreAdded values mid q
          → AreAdded (value ∷ values) p q

    -- those before one were, and adding that is refused
    pub data RefusesToAdd (old : Pieces) (values : List Text) : EditError → Type 0 where
      refused_new : {before : List Text} (after : List Text) (value : Text) {mid : Pieces} {e : EditError}
          → values ≡ before ++ value ∷ after → AreAdded before old mid
          → RefusesUnder rule name key mid.option w mid value e → RefusesToAdd old values e

    -- The pairs that are looked at were given the values; each more of them went, and each value more is new.
    pub record AreAllSetUnder (old new : Pieces) (values : List Text) : Type 0 where
      pub set : Pieces
      pub out : Pieces
      pub are_set : AreValuesSet w.escape_policy (numbers_under rule name key (document_in old)) values
          old set
      pub are_out : AreTakenOut
          (drop (length values) (numbers_under rule name key (document_in old))) set out
      pub are_new : AreAdded (drop (length (numbers_under rule name key (document_in old))) values) out new
      pub option : new.option ≡ old.option
      pub document : document_in new ≡ all_set_under values (document_in old)
      -- the look-up answers the values, and one by another name or another key what it answered
      pub answers : all_values rule name key (document_in new) ≡ values
      pub others : (n : Option Text) (k : Text)
          → (name_fits rule.case n name && text_fits rule.case k key) ≡ false
          → all_values rule n k (document_in new) ≡ all_values rule n k (document_in old)

    -- a value is refused that can't be written, or a new pair after the edits before it; or memory is
    pub data RefusesToSetAll (old : Pieces) (values : List Text) : EditError → Type 0 where
      no_memory : {e : EditError} → IsMemoryRefusal e → RefusesToSetAll old values e
      not_set : {e : EditError} → RefusesOneValue old.option w.escape_policy values e
          → RefusesToSetAll old values e
      not_added : {set out : Pieces} {e : EditError}
          → AreValuesSet w.escape_policy (numbers_under rule name key (document_in old)) values old set
          → AreTakenOut (drop (length values) (numbers_under rule name key (document_in old))) set out
          → RefusesToAdd out (drop (length (numbers_under rule name key (document_in old))) values) e
          → RefusesToSetAll old values e
