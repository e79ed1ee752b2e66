-- The values of a key among pairs that were edited.
use Rattle.std.proofs.Common.{◌≡◌, ◌∙◌, Bool, true, false, List, [], ◌∷◌, ◌++◌, Option, None, Some, ap, arith}
use Rattle.std.proofs.Common.{refl, sym, append-nil}
use Rattle.std.proofs.lemmas.Bool.{false≢true}
use Rattle.std.specs.List.{last_or, list_any}
use Rattle.ini_multimap.specs.Pairs.{values_at, without}
use Rattle.ini.specs.Texts.{Text}
use Rattle.ini.specs.Properties.{Pairs}
use Rattle.ini_dialect.specs.Lookups.{at_counting, at_first, at_last, counting, joined}
use Rattle.ini_dialect.specs.declared.rule.SectionRule.{SectionRule}
use Rattle.ini_dialect.specs.declared.rule.SectionRule.TheVariants.{First as FirstSection, Joined}
use Rattle.ini_dialect.specs.declared.rule.ValueRule.{ValueRule}
use Rattle.ini_dialect.specs.declared.rule.ValueRule.TheVariants.{First as FirstValue, Last}

module _ (test : Text → Bool) where
  pub values-append : (ps qs : Pairs) → values_at test (ps ++ qs) ≡ values_at test ps ++ values_at test qs
  values-append [] qs = refl
  values-append (p ∷ ps) qs = grind (arith, values-append ps qs)

  pub values-joined : (rule : SectionRule) (ps qs : Pairs)
      → values_at test (joined rule ps qs) ≡ joined rule (values_at test ps) (values_at test qs)
  values-joined FirstSection ps qs = refl
  values-joined Joined ps qs = values-append ps qs

  -- no pair of the key has no value
  pub values-none : (ps : Pairs) → list_any (λ p. test p.0) ps ≡ false → values_at test ps ≡ []
  values-none [] none = refl
  values-none (p ∷ ps) none = grind (arith, values-none ps)

  pub values-without : (ps : Pairs) → values_at test (without test ps) ≡ []
  values-without [] = refl
  values-without (p ∷ ps) = grind (arith, values-without ps)

  -- the pair that counts takes a value
  module _ (value : Text) where
    pub first-there : (ps : Pairs) (later : List Text) → list_any (λ p. test p.0) ps ≡ true
        → counting FirstValue (values_at test (at_first (λ p. test p.0) (λ p. (p.0, value)) ps) ++ later)
        ≡ Some value
    first-there [] later there = absurd (false≢true there)
    first-there (p ∷ ps) later there = grind (arith, first-there ps later)

    pub last-there : (ps : Pairs) (o : Option Text) → list_any (λ p. test p.0) ps ≡ true
        → last_or o (values_at test (at_last (λ p. test p.0) (λ p. (p.0, value)) ps)) ≡ Some value
    last-there [] o there = absurd (false≢true there)
    last-there (p ∷ ps) o there =
        grind (arith, last-there ps o, last-there ps (Some p.1), values-none ps)

pub last_or-append : {X : Type 0} (o : Option X) (xs ys : List X)
    → last_or o (xs ++ ys) ≡ last_or (last_or o xs) ys
last_or-append o [] ys = refl
last_or-append o (x ∷ xs) ys = last_or-append (Some x) xs ys

pub counting-there : (rule : ValueRule) (test : Text → Bool) (value : Text) (ps : Pairs)
    → list_any (λ p. test p.0) ps ≡ true
    → counting rule (values_at test (at_counting rule (λ p. test p.0) (λ p. (p.0, value)) ps)) ≡ Some value
counting-there FirstValue test value ps there =
    let same = append-nil (values_at test (at_first (λ p. test p.0) (λ p. (p.0, value)) ps)) in
    ap (counting FirstValue) (sym same) ∙ first-there test value ps [] there
counting-there Last test value ps there = last-there test value ps None there

pub counting-one : (rule : ValueRule) (value : Text) → counting rule (value ∷ []) ≡ Some value
counting-one FirstValue value = refl
counting-one Last value = refl

-- another key keeps its values
module _ (test other : Text → Bool) (apart : (k : Text) → test k ≡ true → other k ≡ false) where
  pub others-first : (value : Text) (ps : Pairs)
      → values_at other (at_first (λ p. test p.0) (λ p. (p.0, value)) ps) ≡ values_at other ps
  others-first value [] = refl
  others-first value (p ∷ ps) = grind (arith, others-first value ps, apart p.0)

  pub others-last : (value : Text) (ps : Pairs)
      → values_at other (at_last (λ p. test p.0) (λ p. (p.0, value)) ps) ≡ values_at other ps
  others-last value [] = refl
  others-last value (p ∷ ps) = grind (arith, others-last value ps, apart p.0)

  pub others-counting : (rule : ValueRule) (value : Text) (ps : Pairs)
      → values_at other (at_counting rule (λ p. test p.0) (λ p. (p.0, value)) ps) ≡ values_at other ps
  others-counting FirstValue value ps = others-first value ps
  others-counting Last value ps = others-last value ps

  pub others-without : (ps : Pairs) → values_at other (without test ps) ≡ values_at other ps
  others-without [] = refl
  others-without (p ∷ ps) = grind (arith, others-without ps, apart p.0)
