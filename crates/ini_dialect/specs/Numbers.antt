-- Where the pair that counts stands, and where a new one goes: numbers from 0, of a section in a document,
-- and of a pair in its section.
use Rattle.std.specs.Prelude.{◌≡◌, ℕ, Bool, true, false, ◌&&◌, List, ◌∷◌, ◌++◌, length, Option, None, Some}
use Rattle.std.specs.List.{list_any}
use Rattle.ini.specs.Texts.{Text}
use Rattle.ini.specs.Properties.{Pairs}
use Rattle.ini.specs.Documents.{Document}
use Rattle.ini_dialect.specs.Lookups.{has_key, name_fits, text_fits}
use Rattle.ini_dialect.specs.declared.rule.Lookup.{Lookup}
use Rattle.ini_dialect.specs.declared.rule.SectionRule.{SectionRule}
use Rattle.ini_dialect.specs.declared.rule.SectionRule.TheVariants.{First as FirstSection, Joined}
use Rattle.ini_dialect.specs.declared.rule.ValueRule.{ValueRule}
use Rattle.ini_dialect.specs.declared.rule.ValueRule.TheVariants.{First as FirstValue, Last}

-- no item passes
abbrev pub NonePasses : {X : Type 0} → (X → Bool) → List X → Type 0
NonePasses test xs = list_any test xs ≡ false

-- none before the item that counts passes, or none after it
abbrev pub IsCounting : {X : Type 0} → ValueRule → (X → Bool) → List X → List X → Type 0
IsCounting FirstValue test before after = NonePasses test before
IsCounting Last test before after = NonePasses test after

-- the item of this number passes and counts
pub record CountsAt {X : Type 0} (order : ValueRule) (test : X → Bool) (xs : List X)
    (number : ℕ) : Type 0 where
  pub before : List X
  pub item : X
  pub after : List X
  pub split : xs ≡ before ++ item ∷ after
  pub place : number ≡ length before
  pub passes : test item ≡ true
  pub counts : IsCounting order test before after

-- the pairs have the key, where one is given
abbrev pub has_key_or_any : Lookup → Option Text → Pairs → Bool
has_key_or_any rule None ps = true
has_key_or_any rule (Some key) ps = has_key rule key ps

-- a section of the name, with the key where one is given
abbrev pub passes_key : Lookup → Option Text → Option Text → Option Text × Pairs → Bool
passes_key rule name key s = name_fits rule.case name s.0 && has_key_or_any rule key s.1

-- The section of the pair that counts is the first of the name; where sections are joined, the first or the
-- last of those with the key.
abbrev pub holder_key_by : SectionRule → Text → Option Text
holder_key_by FirstSection key = None
holder_key_by Joined key = Some key

abbrev pub holder_order_by : SectionRule → ValueRule → ValueRule
holder_order_by FirstSection values = FirstValue
holder_order_by Joined values = values

abbrev pub holder_key : Lookup → Text → Option Text
holder_key rule key = holder_key_by rule.sections key

abbrev pub holder_order : Lookup → ValueRule
holder_order rule = holder_order_by rule.sections rule.values

-- the pair of the second number, in the section of the first, is the one that counts
pub record PairCounts (rule : Lookup) (name : Option Text) (key : Text) (d : Document)
    (section pair : ℕ) : Type 0 where
  pub in_document : CountsAt (holder_order rule) (passes_key rule name (holder_key rule key)) d section
  pub in_section : CountsAt rule.values (λ p. text_fits rule.case key p.0) in_document.item.1 pair

-- a new pair goes into the first section of the name; where sections are joined, into the last
abbrev pub new_order_by : SectionRule → ValueRule
new_order_by FirstSection = FirstValue
new_order_by Joined = Last

abbrev pub new_order : Lookup → ValueRule
new_order rule = new_order_by rule.sections
