-- The values of a key in the sections that are looked at, once sections were edited.
use Rattle.std.proofs.Common.{◌≡◌, Bool, true, false, cond, List, [], ◌∷◌, ◌++◌, map, Option, arith, refl}
use Rattle.std.proofs.Common.{append-nil}
use Rattle.std.specs.List.{list_any}
use Rattle.ini_multimap.specs.Pairs.{values_at}
use Rattle.ini.specs.Texts.{Text}
use Rattle.ini.specs.Properties.{Pairs}
use Rattle.ini.specs.Documents.{Document}
use Rattle.ini_dialect.specs.Lookups.{all_values, at_counting, at_first, at_last, joined, looked}
use Rattle.ini_dialect.specs.Lookups.{name_fits, text_fits}
use Rattle.ini_dialect.specs.declared.rule.Lookup.{Lookup}
use Rattle.ini_dialect.specs.declared.rule.SectionRule.{SectionRule}
use Rattle.ini_dialect.specs.declared.rule.SectionRule.TheVariants.{First as FirstSection, Joined}
use Rattle.ini_dialect.specs.declared.rule.ValueRule.{ValueRule}
use Rattle.ini_dialect.specs.declared.rule.ValueRule.TheVariants.{First as FirstValue, Last}
use Rattle.ini_dialect.proofs.PairLemmas.{values-joined}

abbrev pub Section : Type 0
Section = Option Text × Pairs

-- the values of the key in the sections of the name
abbrev pub gathered : SectionRule → (Option Text → Bool) → (Text → Bool) → Document → List Text
gathered rule named test [] = []
gathered rule named test (s ∷ d) =
    cond (named s.0) (joined rule (values_at test s.1) (gathered rule named test d))
    (gathered rule named test d)

pub all_values-gathered : (rule : Lookup) (name : Option Text) (key : Text) (d : Document)
    → all_values rule name key d
    ≡ gathered rule.sections (name_fits rule.case name) (text_fits rule.case key) d
all_values-gathered rule name key [] = refl
all_values-gathered rule name key (s ∷ d) =
    grind (
      arith,
      all_values-gathered rule name key d,
      values-joined (text_fits rule.case key) rule.sections s.1 (looked rule name d),
    )

-- where the sections that change keep their names, and the values that are looked for
pub record Keeps (named : Option Text → Bool) (test : Text → Bool) (f : Section → Section)
    (s : Section) : Type 0 where
  pub name : named (f s).0 ≡ named s.0
  pub values : named s.0 ≡ true → values_at test (f s).1 ≡ values_at test s.1

module _ (rule : SectionRule) (named : Option Text → Bool) (test : Text → Bool)
    (passes : Section → Bool) (f : Section → Section)
    (keeps : (s : Section) → passes s ≡ true → Keeps named test f s) where
  gathered-same : (s : Section) (d : Document) → passes s ≡ true
      → gathered rule named test (f s ∷ d) ≡ gathered rule named test (s ∷ d)
  gathered-same s d there =
      let kept = keeps s there in
      let name = kept.name in
      let values = kept.values in
      grind (arith, name, values)

  pub gathered-first : (d : Document)
      → gathered rule named test (at_first passes f d) ≡ gathered rule named test d
  gathered-first [] = refl
  gathered-first (s ∷ d) = grind (arith, gathered-first d, gathered-same s d)

  pub gathered-last : (d : Document)
      → gathered rule named test (at_last passes f d) ≡ gathered rule named test d
  gathered-last [] = refl
  gathered-last (s ∷ d) = grind (arith, gathered-last d, gathered-same s d)

  pub gathered-counting : (values : ValueRule) (d : Document)
      → gathered rule named test (at_counting values passes f d) ≡ gathered rule named test d
  gathered-counting FirstValue d = gathered-first d
  gathered-counting Last d = gathered-last d

  pub gathered-each : (d : Document)
      → gathered rule named test (map (λ s. cond (passes s) (f s) s) d) ≡ gathered rule named test d
  gathered-each [] = refl
  gathered-each (s ∷ d) =
      grind (arith, gathered-each d, gathered-same s (map (λ s. cond (passes s) (f s) s) d))

pub joined-nil : (rule : SectionRule) → joined {X = Text} rule [] [] ≡ []
joined-nil FirstSection = refl
joined-nil Joined = refl

-- a new section, last
module _ (rule : SectionRule) (named : Option Text → Bool) (test : Text → Bool) (s : Section) where
  -- that has none of the values
  pub gathered-new_other : (named s.0 ≡ true → values_at test s.1 ≡ []) → (d : Document)
      → gathered rule named test (d ++ s ∷ []) ≡ gathered rule named test d
  gathered-new_other none [] = grind (arith, none, joined-nil rule)
  gathered-new_other none (t ∷ d) = grind (arith, gathered-new_other none d)

  joined-one : (rule : SectionRule) (vs : List Text) → joined rule vs [] ≡ vs
  joined-one FirstSection vs = refl
  joined-one Joined vs = append-nil vs

  -- that is the only one of its name
  pub gathered-new : named s.0 ≡ true → (d : Document) → list_any (λ t. named t.0) d ≡ false
      → gathered rule named test (d ++ s ∷ []) ≡ values_at test s.1
  gathered-new there [] none = grind (arith, there, joined-one rule (values_at test s.1))
  gathered-new there (t ∷ d) none = grind (arith, gathered-new there d)
