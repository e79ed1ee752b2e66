-- A look-up that walks from the end that counts answers the value that counts.
use Rattle.std.proofs.Common.{◌≡◌, ◌∙◌, Bool, cond, List, [], ◌∷◌, ◌++◌, reverse, Option, None, Some, ap}
use Rattle.std.proofs.Common.{arith, fold, refl, sym}
use Rattle.std.proofs.lemmas.Grind.{fold-append, reverse_onto}
use Rattle.std.specs.List.{last_or}
use Rattle.std.specs.Map.{lookup}
use Rattle.std.specs.Option.{option_or}
use Rattle.ini_multimap.specs.Pairs.{values_at}
use Rattle.ini.specs.Texts.{Text}
use Rattle.ini.specs.Properties.{Pairs}
use Rattle.ini.specs.Documents.{Document}
use Rattle.ini_dialect.specs.Inside.{kept, turned, value_in_first, value_in_joined}
use Rattle.ini_dialect.specs.Lookups.{counting, joined, keys_under, looked, name_fits, names_under, text_fits}
use Rattle.ini_dialect.specs.Lookups.{value_under}
use Rattle.ini_dialect.specs.declared.rule.Lookup.{Lookup}
use Rattle.ini_dialect.specs.declared.rule.SectionRule.{SectionRule}
use Rattle.ini_dialect.specs.declared.rule.SectionRule.TheVariants.{First as FirstSection, Joined}
use Rattle.ini_dialect.specs.declared.rule.ValueRule.{ValueRule}
use Rattle.ini_dialect.specs.declared.rule.ValueRule.TheVariants.{First as FirstValue, Last}
use Rattle.ini_dialect.proofs.KeyLemmas.{kept-distinct, map-push}
use Rattle.ini_dialect.proofs.PairLemmas.{last_or-append, values-append}
use Rattle.ini_dialect.proofs.RuleLemmas.{names_equiv, texts_equiv}
use Rattle.ini_dialect.proofs.SectionLemmas.{Section, all_values-gathered, gathered}

reverse-cons : {X : Type 0} (x : X) (xs : List X) → reverse (x ∷ xs) ≡ reverse xs ++ x ∷ []
reverse-cons x xs = reverse_onto xs x []

option_or-none : {X : Type 0} (o : Option X) → option_or o None ≡ o
option_or-none None = refl
option_or-none (Some x) = refl

option_or-assoc : {X : Type 0} (o p q : Option X) → option_or (option_or o p) q ≡ option_or o (option_or p q)
option_or-assoc None p q = refl
option_or-assoc (Some x) p q = refl

-- the last of a list, where there is one, else o
last_or-or : {X : Type 0} (o : Option X) (xs : List X) → last_or o xs ≡ option_or (last_or None xs) o
last_or-or {X = X} o [] = refl
last_or-or {X = X} o (x ∷ xs) =
    last_or-or (Some x) xs
    ∙ some_stays (last_or None xs)
    ∙ ap (λ p. option_or p o) (sym (last_or-or (Some x) xs))
  where
    some_stays : (p : Option X) → option_or p (Some x) ≡ option_or (option_or p (Some x)) o
    some_stays None = refl
    some_stays (Some y) = refl

-- lists one after the other
counting-first : (xs ys : List Text)
    → counting FirstValue (xs ++ ys) ≡ option_or (counting FirstValue xs) (counting FirstValue ys)
counting-first [] ys = refl
counting-first (x ∷ xs) ys = refl

counting-last : (xs ys : List Text)
    → last_or None (xs ++ ys) ≡ option_or (last_or None ys) (last_or None xs)
counting-last xs ys = last_or-append None xs ys ∙ last_or-or (last_or None xs) ys

-- in a section
module _ (test : Text → Bool) where
  lookup-append : (xs ys : Pairs) → lookup test (xs ++ ys) ≡ option_or (lookup test xs) (lookup test ys)
  lookup-append [] ys = refl
  lookup-append (x ∷ xs) ys = grind (arith, lookup-append xs ys)

  lookup-first : (ps : Pairs) → lookup test ps ≡ counting FirstValue (values_at test ps)
  lookup-first [] = refl
  lookup-first (p ∷ ps) = grind (arith, lookup-first ps)

  last-pair : (p : Text × Text) (vs : List Text)
      → option_or (last_or None vs) (lookup test (p ∷ [])) ≡ last_or None (cond (test p.0) (p.1 ∷ vs) vs)
  last-pair p vs = grind (arith, last_or-or (Some p.1) vs, option_or-none (last_or None vs))

  lookup-last : (ps : Pairs) → lookup test (reverse ps) ≡ last_or None (values_at test ps)
  lookup-last [] = refl
  lookup-last (p ∷ ps) =
      ap (lookup test) (reverse-cons p ps)
      ∙ lookup-append (reverse ps) (p ∷ [])
      ∙ ap (λ o. option_or o (lookup test (p ∷ []))) (lookup-last ps)
      ∙ last-pair p (values_at test ps)
      ∙ last-pair_is p ps
    where
      last-pair_is : (p : Text × Text) (ps : Pairs)
          → last_or None (cond (test p.0) (p.1 ∷ values_at test ps) (values_at test ps))
          ≡ last_or None (values_at test (p ∷ ps))
      last-pair_is p ps = grind arith

  lookup-turned : (order : ValueRule) (ps : Pairs)
      → lookup test (turned order ps) ≡ counting order (values_at test ps)
  lookup-turned FirstValue ps = lookup-first ps
  lookup-turned Last ps = lookup-last ps

-- in sections that are joined
module _ (named : Option Text → Bool) (test : Text → Bool) where
  -- the first section that has the key, from the end that counts
  abbrev value_by : ValueRule → Document → Option Text
  value_by order [] = None
  value_by order (s ∷ d) =
      cond (named s.0) (option_or (counting order (values_at test s.1)) (value_by order d)) (value_by order d)

  value_by-append : (order : ValueRule) (d e : Document)
      → value_by order (d ++ e) ≡ option_or (value_by order d) (value_by order e)
  value_by-append order [] e = refl
  value_by-append order (s ∷ d) e =
      grind (
        arith,
        value_by-append order d e,
        option_or-assoc (counting order (values_at test s.1)) (value_by order d) (value_by order e),
      )

  value_by-first : (d : Document)
      → value_by FirstValue d ≡ counting FirstValue (gathered Joined named test d)
  value_by-first [] = refl
  value_by-first (s ∷ d) =
      grind (
        arith,
        value_by-first d,
        counting-first (values_at test s.1) (gathered Joined named test d),
      )

  value_by-last : (d : Document)
      → value_by Last (reverse d) ≡ last_or None (gathered Joined named test d)
  value_by-last [] = refl
  value_by-last (s ∷ d) =
      ap (value_by Last) (reverse-cons s d)
      ∙ value_by-append Last (reverse d) (s ∷ [])
      ∙ ap (λ o. option_or o (value_by Last (s ∷ []))) (value_by-last d)
      ∙ last_section s d
    where
      last_section : (s : Section) (d : Document)
          → option_or (last_or None (gathered Joined named test d)) (value_by Last (s ∷ []))
          ≡ last_or None (gathered Joined named test (s ∷ d))
      last_section s d =
          grind (
            arith,
            counting-last (values_at test s.1) (gathered Joined named test d),
            option_or-none (last_or None (gathered Joined named test d)),
            option_or-none (last_or None (values_at test s.1)),
          )

  value_by-turned : (order : ValueRule) (d : Document)
      → value_by order (turned order d) ≡ counting order (gathered Joined named test d)
  value_by-turned FirstValue d = value_by-first d
  value_by-turned Last d = value_by-last d

module _ (rule : Lookup) (name : Option Text) (key : Text) where
  value_in_joined-by : (d : Document)
      → value_in_joined rule name key d
      ≡ value_by (name_fits rule.case name) (text_fits rule.case key) rule.values d
  value_in_joined-by [] = refl
  value_in_joined-by (s ∷ d) =
      grind (arith, value_in_joined-by d, lookup-turned (text_fits rule.case key) rule.values s.1)

  value_in_first-gathered : (d : Document)
      → value_in_first rule name key d
      ≡ counting rule.values (gathered FirstSection (name_fits rule.case name) (text_fits rule.case key) d)
  value_in_first-gathered [] = none rule.values
    where
      none : (order : ValueRule) → None ≡ counting order []
      none FirstValue = refl
      none Last = refl
  value_in_first-gathered (s ∷ d) =
      grind (arith, value_in_first-gathered d, lookup-turned (text_fits rule.case key) rule.values s.1)

  -- what the two walks answer
  abbrev Gathered : SectionRule → Document → Option Text
  Gathered sections d =
      counting rule.values (gathered sections (name_fits rule.case name) (text_fits rule.case key) d)

  under : (d : Document) → Gathered rule.sections d ≡ value_under rule name key d
  under d = ap (counting rule.values) (sym (all_values-gathered rule name key d))

  pub first-under : (d : Document) → rule.sections ≡ FirstSection
      → value_in_first rule name key d ≡ value_under rule name key d
  first-under d is =
      value_in_first-gathered d ∙ ap (λ sections. Gathered sections d) (sym is) ∙ under d

  pub joined-under : (d : Document) → rule.sections ≡ Joined
      → value_in_joined rule name key (turned rule.values d) ≡ value_under rule name key d
  joined-under d is =
      value_in_joined-by (turned rule.values d)
      ∙ value_by-turned (name_fits rule.case name) (text_fits rule.case key) rule.values d
      ∙ ap (λ sections. Gathered sections d) (sym is)
      ∙ under d

-- what one section gives, by the rule
pub joined-first : {X : Type 0} (rule : SectionRule) (xs later : List X) → rule ≡ FirstSection
    → joined rule xs later ≡ xs
joined-first FirstSection xs later is = refl
joined-first Joined xs later is = absurd cc

pub joined-all : {X : Type 0} (rule : SectionRule) (xs later : List X) → rule ≡ Joined
    → joined rule xs later ≡ xs ++ later
joined-all FirstSection xs later is = absurd cc
joined-all Joined xs later is = refl

-- the keys and the names, each once
pub keys_kept : (rule : Lookup) (name : Option Text) (d : Document)
    → fold (kept (text_fits rule.case)) [] (looked rule name d) ≡ keys_under rule name d
keys_kept rule name d = kept-distinct (texts_equiv rule.case) (looked rule name d)

pub names_kept : (rule : Lookup) (d : Document)
    → fold (kept (name_fits rule.case)) [] d ≡ names_under rule d
names_kept rule d = kept-distinct (names_equiv rule.case) d

pub ruleset reads = (
  joined-first,
  joined-all,
  map-push,
  values-append,
  fold-append,
  first-under,
  joined-under,
  keys_kept,
  names_kept,
)
