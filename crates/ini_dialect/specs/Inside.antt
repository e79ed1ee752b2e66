-- Words of private functions: sections and pairs from the end that counts, their numbers, and copies.
use Rattle.std.specs.Prelude.{◌≡◌, ℕ, zero, suc, Bool, true, false, if◌then◌else◌, List, [], ◌∷◌, ◌++◌}
use Rattle.std.specs.Prelude.{reverse, Option, None, Some}
use Rattle.std.specs.List.{list_any, remove}
use Rattle.std.specs.Map.{lookup}
use Rattle.std.specs.Option.{option_or}
use Rattle.ini.specs.Texts.{Text}
use Rattle.ini.specs.Documents.{Document}
use Rattle.ini.specs.Properties.{Pairs}
use Rattle.ini_edit.specs.SourceEdits.{first_fitting}
use Rattle.ini_edit.specs.SourceEditsAt.{at_index, at_section}
use Rattle.ini_edit.specs.Sources.{SectionPiece}
use Rattle.ini_dialect.specs.Flattened.{put_by, put_last}
use Rattle.ini_dialect.specs.Lookups.{name_fits, set_under, text_fits, with_value}
use Rattle.ini_dialect.specs.SectionEdits.{IsFirstNamed}
use Rattle.ini_dialect.specs.declared.flattened.WhichPairs.{WhichPairs}
use Rattle.ini_dialect.specs.declared.flattened.WhichPairs.TheVariants.{Counting, All as AllPairs}
use Rattle.ini_dialect.specs.declared.rule.Lookup.{Lookup}
use Rattle.ini_dialect.specs.declared.rule.SectionRule.{SectionRule}
use Rattle.ini_dialect.specs.declared.rule.SectionRule.TheVariants.{First as FirstSection, Joined}
use Rattle.ini_dialect.specs.declared.rule.ValueRule.{ValueRule}
use Rattle.ini_dialect.specs.declared.rule.ValueRule.TheVariants.{First as FirstValue, Last}
use Rattle.ini_dialect.specs.declared.source.PairNumber.{PairNumber}
pub mod Coding

-- a list from its front, or from its back
abbrev pub turned : {X : Type 0} → ValueRule → List X → List X
turned FirstValue xs = xs
turned Last xs = reverse xs

module _ (rule : Lookup) (name : Option Text) (key : Text) where
  -- the value that counts in the first section of the name
  abbrev pub value_in_first : Document → Option Text
  value_in_first [] = None
  value_in_first (s ∷ d) =
      if name_fits rule.case name s.0 then lookup (text_fits rule.case key) (turned rule.values s.1)
      else value_in_first d

  -- in the first one that has the key
  abbrev pub value_in_joined : Document → Option Text
  value_in_joined [] = None
  value_in_joined (s ∷ d) =
      if name_fits rule.case name s.0
      then option_or (lookup (text_fits rule.case key) (turned rule.values s.1)) (value_in_joined d)
      else value_in_joined d

-- the keys so far, and that of the pair, unless it fits one of them
abbrev pub kept : {K V : Type 0} → (K → K → Bool) → List K → K × V → List K
kept eq keys p = if list_any (λ k. eq k p.0) keys then keys else keys ++ p.0 ∷ []

-- the first one counts
abbrev pub takes_first_value : ValueRule → Bool
takes_first_value FirstValue = true
takes_first_value Last = false

-- the first section alone is looked at
abbrev pub takes_first : SectionRule → Bool
takes_first FirstSection = true
takes_first Joined = false

-- whether the item of the number that is left comes now, and what is left after it
abbrev pub is_here : Option ℕ → Bool
is_here None = false
is_here (Some zero) = true
is_here (Some (suc n)) = false

abbrev pub less : Option ℕ → Option ℕ
less None = None
less (Some zero) = None
less (Some (suc n)) = Some n

-- the section that a value is set in has this number; or a new one is opened
abbrev pub IsSettingAt : Lookup → Option Text → Text → Document → Option ℕ → Type 0
IsSettingAt rule name key d (Some n) =
    (value : Text) → at_index n (with_value rule key value) d ≡ set_under rule name key value d
IsSettingAt rule name key d None =
    (value : Text) → d ++ (name, (key, value) ∷ []) ∷ [] ≡ set_under rule name key value d

-- the document in which the pairs of these numbers have another key
abbrev pub renamed_at : (other : Text) → List PairNumber → Document → Document
renamed_at other [] d = d
renamed_at other (at ∷ numbers) d =
    renamed_at other numbers (at_section at.section (at_index at.pair (λ p. (other, p.1))) d)

-- how a pair is put where documents are put together
abbrev pub put_of : WhichPairs → Text → Text → Pairs → Pairs
put_of (Counting values) key value ps = put_by values key value ps
put_of AllPairs key value ps = put_last key value ps

-- the document in which the pairs of these numbers have these values, as far as there are both
abbrev pub values_put : List PairNumber → List Text → Document → Document
values_put numbers [] d = d
values_put [] (value ∷ values) d = d
values_put (at ∷ numbers) (value ∷ values) d =
    values_put numbers values (at_section at.section (at_index at.pair (λ p. (p.0, value))) d)

-- and the one without the pairs of these numbers, the last of which goes first
abbrev pub taken_out : List PairNumber → Document → Document
taken_out [] d = d
taken_out (at ∷ numbers) d = at_section at.section (λ ps. remove ps at.pair) (taken_out numbers d)

-- the first of the sections that passes has this name; or there is none
abbrev pub IsFirstName : (Option Text → Bool) → List SectionPiece → Option Text → Type 0
IsFirstName test ss None = first_fitting (λ s. test s.name) ss ≡ None
IsFirstName test ss (Some name) = IsFirstNamed test ss name
