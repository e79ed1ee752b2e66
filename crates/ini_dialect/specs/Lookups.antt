-- What a look-up answers under a rule, and what an edit under it makes of a document.
use Rattle.std.specs.Prelude.{Bool, ◌&&◌, if◌then◌else◌, List, [], ◌∷◌, ◌++◌, map, Option, None, Some}
use Rattle.std.specs.Char.{to_ascii_lowercase}
use Rattle.std.specs.List.{last_or, list_any}
use Rattle.std.specs.Option.{option_eq}
use Rattle.ini_multimap.specs.Pairs.{distinct_keys, values_at, without}
use Rattle.ini.specs.Texts.{Text, is_text}
use Rattle.ini.specs.Properties.{Pairs}
use Rattle.ini.specs.Documents.{Document}
use Rattle.ini_dialect.specs.declared.rule.CaseRule.{CaseRule}
use Rattle.ini_dialect.specs.declared.rule.CaseRule.TheVariants.{Kept, Ignored}
use Rattle.ini_dialect.specs.declared.rule.Lookup.{Lookup}
use Rattle.ini_dialect.specs.declared.rule.SectionRule.{SectionRule}
use Rattle.ini_dialect.specs.declared.rule.SectionRule.TheVariants.{First as FirstSection, Joined}
use Rattle.ini_dialect.specs.declared.rule.ValueRule.{ValueRule}
use Rattle.ini_dialect.specs.declared.rule.ValueRule.TheVariants.{First as FirstValue, Last}

-- a text with small letters, of ASCII's alone
abbrev pub small : Text → Text
small t = map to_ascii_lowercase t

-- whether two keys fit: they are equal, or but for case
abbrev pub text_fits : CaseRule → Text → Text → Bool
text_fits Kept t u = is_text t u
text_fits Ignored t u = is_text (small t) (small u)

-- whether two names fit; no name, the general section's, fits itself alone
abbrev pub name_fits : CaseRule → Option Text → Option Text → Bool
name_fits case n m = option_eq (text_fits case) n m

-- what one section gives, and the later ones too where sections are joined
abbrev pub joined : {X : Type 0} → SectionRule → List X → List X → List X
joined FirstSection xs later = xs
joined Joined xs later = xs ++ later

-- the pairs of the sections that are looked at for the name, in order
abbrev pub looked : Lookup → Option Text → Document → Pairs
looked rule name [] = []
looked rule name (s ∷ d) =
    if name_fits rule.case name s.0 then joined rule.sections s.1 (looked rule name d)
    else looked rule name d

-- all values of the key there, in order
abbrev pub all_values : Lookup → Option Text → Text → Document → List Text
all_values rule name key d = values_at (text_fits rule.case key) (looked rule name d)

-- the first of the values, or the last
abbrev pub counting : ValueRule → List Text → Option Text
counting FirstValue [] = None
counting FirstValue (v ∷ vs) = Some v
counting Last vs = last_or None vs

-- the value that counts
abbrev pub value_under : Lookup → Option Text → Text → Document → Option Text
value_under rule name key d = counting rule.values (all_values rule name key d)

-- each key there, in the spelling and at the place where it first comes
abbrev pub keys_under : Lookup → Option Text → Document → List Text
keys_under rule name d = distinct_keys (text_fits rule.case) (looked rule name d)

-- each name, likewise
abbrev pub names_under : Lookup → Document → List (Option Text)
names_under rule d = distinct_keys (name_fits rule.case) d

-- f at the first item that passes, or at the last one
abbrev pub at_first : {X : Type 0} → (X → Bool) → (X → X) → List X → List X
at_first test f [] = []
at_first test f (x ∷ xs) = if test x then f x ∷ xs else x ∷ at_first test f xs

abbrev pub at_last : {X : Type 0} → (X → Bool) → (X → X) → List X → List X
at_last test f [] = []
at_last test f (x ∷ xs) =
    if list_any test xs then x ∷ at_last test f xs
    else (if test x then f x ∷ xs else x ∷ xs)

abbrev pub at_counting : {X : Type 0} → ValueRule → (X → Bool) → (X → X) → List X → List X
at_counting FirstValue test f xs = at_first test f xs
at_counting Last test f xs = at_last test f xs

module _ (rule : Lookup) (key : Text) where
  -- a pair of the key is among them
  abbrev pub has_key : Pairs → Bool
  has_key ps = list_any (λ p. text_fits rule.case key p.0) ps

  -- the pair that counts keeps its place and its key and takes the value; where there is none a new one goes
  -- last
  abbrev pub valued : Text → Pairs → Pairs
  valued value ps =
      if has_key ps
      then at_counting rule.values (λ p. text_fits rule.case key p.0) (λ p. (p.0, value)) ps
      else ps ++ (key, value) ∷ []

  -- so in a section
  abbrev pub with_value : Text → Option Text × Pairs → Option Text × Pairs
  with_value value s = (s.0, valued value s.1)

  -- a new pair last
  abbrev pub with_new : Text → Option Text × Pairs → Option Text × Pairs
  with_new value s = (s.0, s.1 ++ (key, value) ∷ [])

  -- without the pairs of the key
  abbrev pub cleared : Option Text × Pairs → Option Text × Pairs
  cleared s = (s.0, without (text_fits rule.case key) s.1)

-- a section of the name is there
abbrev pub has_section : CaseRule → Option Text → Document → Bool
has_section case name d = list_any (λ s. name_fits case name s.0) d

-- the section is one of the name
abbrev pub is_named : Lookup → Option Text → Option Text × Pairs → Bool
is_named rule name s = name_fits rule.case name s.0

-- and has the key
abbrev pub holds_key : Lookup → Option Text → Text → Option Text × Pairs → Bool
holds_key rule name key s = is_named rule name s && has_key rule key s.1

module _ (rule : Lookup) (name : Option Text) (key : Text) where
  -- the value goes into the first section of the name; where sections are joined, into the one whose pair
  -- counts, else into the last of the name; where there is none, into a new one, last
  abbrev pub set_by : SectionRule → Text → Document → Document
  set_by FirstSection value d =
      if list_any (is_named rule name) d then at_first (is_named rule name) (with_value rule key value) d
      else d ++ (name, (key, value) ∷ []) ∷ []
  set_by Joined value d =
      if list_any (holds_key rule name key) d
      then at_counting rule.values (holds_key rule name key) (with_value rule key value) d
      else (if list_any (is_named rule name) d
      then at_last (is_named rule name) (with_value rule key value) d
      else d ++ (name, (key, value) ∷ []) ∷ [])

  abbrev pub set_under : Text → Document → Document
  set_under value d = set_by rule.sections value d

  -- the pair goes last, in the first section of the name; where sections are joined, in the last; where
  -- there is none, in a new one, last
  abbrev pub add_by : SectionRule → Text → Document → Document
  add_by FirstSection value d = at_first (is_named rule name) (with_new rule key value) d
  add_by Joined value d = at_last (is_named rule name) (with_new rule key value) d

  abbrev pub add_under : Text → Document → Document
  add_under value d =
      if list_any (is_named rule name) d then add_by rule.sections value d
      else d ++ (name, (key, value) ∷ []) ∷ []

  -- every pair of the key goes, in each section that is looked at
  abbrev pub delete_by : SectionRule → Document → Document
  delete_by FirstSection d = at_first (is_named rule name) (cleared rule key) d
  delete_by Joined d = map (λ s. if is_named rule name s then cleared rule key s else s) d

  abbrev pub delete_under : Document → Document
  delete_under d = delete_by rule.sections d
