-- A document under a rule as a document of its own, which is looked up in without one.
use Rattle.std.specs.Prelude.{◌≡◌, if◌then◌else◌, [], ◌∷◌, ◌++◌, fold, map, Option, None, Some, is_some}
use Rattle.std.specs.Option.{option_map}
use Rattle.ini.specs.Texts.{Text}
use Rattle.ini.specs.Properties.{Pairs, first_value, inserted, values}
use Rattle.ini.specs.Documents.{Document, value_in}
use Rattle.ini.specs.Edits.{edit_section}
use Rattle.ini_dialect.specs.Lists.{list_text}
use Rattle.ini_dialect.specs.Lookups.{all_values, small, value_under}
use Rattle.ini_dialect.specs.declared.rule.CaseRule.{CaseRule}
use Rattle.ini_dialect.specs.declared.rule.CaseRule.TheVariants.{Kept, Ignored}
use Rattle.ini_dialect.specs.declared.rule.Lookup.{Lookup}
use Rattle.ini_dialect.specs.declared.rule.SectionRule.{SectionRule}
use Rattle.ini_dialect.specs.declared.rule.SectionRule.TheVariants.{First as FirstSection, Joined}
use Rattle.ini_dialect.specs.declared.rule.ValueRule.{ValueRule}
use Rattle.ini_dialect.specs.declared.rule.ValueRule.TheVariants.{First as FirstValue, Last}

-- a key as one that stands for all that fit it: in small letters where case is ignored; a name likewise
abbrev pub told : CaseRule → Text → Text
told Kept t = t
told Ignored t = small t

abbrev pub told_name : CaseRule → Option Text → Option Text
told_name case n = option_map (told case) n

-- a pair put among pairs of which each has another key: of two that fit, the value that counts stays
abbrev pub put_by : ValueRule → Text → Text → Pairs → Pairs
put_by FirstValue key value ps = if is_some (first_value key ps) then ps else inserted key value ps
put_by Last key value ps = inserted key value ps

-- a pair put last, whatever pairs of its key are there
abbrev pub put_last : Text → Text → Pairs → Pairs
put_last key value ps = ps ++ (key, value) ∷ []

-- what is there of a name takes the pairs of a later section, or none of them
abbrev pub later_by : {X : Type 0} → SectionRule → (there more : X) → X
later_by FirstSection there more = there
later_by Joined there more = more

module _ (put : Text → Text → Pairs → Pairs) (rule : Lookup) where
  abbrev pub with_told : Pairs → Text × Text → Pairs
  with_told ps p = put (told rule.case p.0) p.1 ps

  -- pairs put where this name has them, and a section where its own has
  abbrev pub put_in : Option Text → Pairs → Document → Document
  put_in name pairs flat =
      edit_section name (λ ps. later_by rule.sections ps (fold with_told ps pairs))
      ((name, fold with_told [] pairs) ∷ []) flat

  abbrev pub with_told_section : Document → Option Text × Pairs → Document
  with_told_section flat s = put_in (told_name rule.case s.0) s.1 flat

  -- each name once, in the order in which they first come, with the pairs that are looked at
  abbrev pub put_together : Document → Document
  put_together d = fold with_told_section [] d

-- in each section each key once, in the order in which they first come, with the value that counts
abbrev pub flattened : Lookup → Document → Document
flattened rule d = put_together (put_by rule.values) rule d

-- in each section every pair
abbrev pub collected : Lookup → Document → Document
collected rule d = put_together put_last rule d

-- each key of the pairs once, where it first comes, with the list of its values as one text
abbrev pub put_list : Text → Option Text → Pairs → Pairs
put_list key None lists = lists
put_list key (Some list) lists = put_by FirstValue key list lists

abbrev pub with_list : Pairs → Pairs → Text × Text → Pairs
with_list whole lists p = put_list p.0 (list_text (values p.0 whole)) lists

abbrev pub as_lists : Pairs → Pairs
as_lists ps = fold (with_list ps) [] ps

abbrev pub listed : Lookup → Document → Document
listed rule d = map (λ s. (s.0, as_lists s.1)) (collected rule d)

module _ (rule : Lookup) where
  -- a look-up answers there what it answers under the rule in the other
  abbrev pub AnswersFlat : (d flat : Document) → Type 0
  AnswersFlat d flat = (name : Option Text) (key : Text)
      → value_in (told_name rule.case name) (told rule.case key) flat ≡ value_under rule name key d

  -- it answers the list of all values
  abbrev pub AnswersLists : (d lists : Document) → Type 0
  AnswersLists d lists = (name : Option Text) (key : Text)
      → value_in (told_name rule.case name) (told rule.case key) lists
      ≡ list_text (all_values rule name key d)
