-- The laws of keys renamed under a rule: where their values are found then, and that all others stay.
use Rattle.std.proofs.Common.{◌≡◌, ◌∙◌, Bool, true, false, ◌&&◌, ◌||◌, cond, [], ◌∷◌, ◌++◌, Option, ap}
use Rattle.std.proofs.Common.{arith, inl, inr, map, refl, sym}
use Rattle.std.proofs.lemmas.Bool.{cases_Bool, cond-false, cond-true}
use Rattle.ini_multimap.specs.Pairs.{values_at}
use Rattle.ini.specs.Documents.{Document}
use Rattle.ini.specs.Properties.{Pairs}
use Rattle.ini.specs.Texts.{Text}
use Rattle.ini_dialect.specs.KeyEdits.{keys_renamed, keys_renamed_by, with_other_key}
use Rattle.ini_dialect.specs.LookupLaws.{KeepsUnrenamed, MovesValues}
use Rattle.ini_dialect.specs.Lookups.{all_values, is_named, joined, name_fits, text_fits}
use Rattle.ini_dialect.specs.declared.rule.Lookup.{Lookup}
use Rattle.ini_dialect.specs.declared.rule.SectionRule.{SectionRule}
use Rattle.ini_dialect.specs.declared.rule.SectionRule.TheVariants.{First as FirstSection, Joined}
use Rattle.ini_dialect.proofs.LookupLawLemmas.{keys_apart, other_key}
use Rattle.ini_dialect.proofs.RuleLemmas.{texts_equiv}
use Rattle.ini_dialect.proofs.SectionLemmas.{Section, all_values-gathered, gathered, gathered-each}
use Rattle.ini_dialect.proofs.SectionLemmas.{gathered-first}
use Rattle.ini_dialect.proofs.SourceLookupLemmas.{nothing-before}

module _ (rule : Lookup) (name : Option Text) (key other : Text) where
  abbrev named : Option Text → Bool
  named n = name_fits rule.case name n

  abbrev test : Text → Bool
  test k = text_fits rule.case key k

  abbrev test_other : Text → Bool
  test_other k = text_fits rule.case other k

  abbrev put : Pairs → Pairs
  put ps = map (λ p. cond (test p.0) (other, p.1) p) ps

  abbrev renamed : SectionRule → Document → Document
  renamed sections d = keys_renamed_by rule name key sections other d

  abbrev joined_rest : SectionRule → Document → Document
  joined_rest FirstSection d = d
  joined_rest Joined d = renamed Joined d

  abbrev section : Section → Section
  section s = with_other_key rule name key other s

  -- a section that is looked at, and one that isn't
  taken : (sections : SectionRule) (t : Text → Bool) (s : Section) (d : Document) → named s.0 ≡ true
      → gathered sections named t (s ∷ d)
      ≡ joined sections (values_at t s.1) (gathered sections named t d)
  taken sections t s d there = cond-true (named s.0) _ _ there

  passed : (sections : SectionRule) (t : Text → Bool) (s : Section) (d : Document) → named s.0 ≡ false
      → gathered sections named t (s ∷ d) ≡ gathered sections named t d
  passed sections t s d apart = cond-false (named s.0) _ _ apart

  here : (sections : SectionRule) (s : Section) (d : Document) → named s.0 ≡ true
      → renamed sections (s ∷ d) ≡ section s ∷ joined_rest sections d
  here FirstSection s d there = cond-true (named s.0) _ _ there
  here Joined s d there = ap (λ x. x ∷ renamed Joined d) (cond-true (named s.0) _ _ there)

  elsewhere : (sections : SectionRule) (s : Section) (d : Document) → named s.0 ≡ false
      → renamed sections (s ∷ d) ≡ s ∷ renamed sections d
  elsewhere FirstSection s d apart = cond-false (named s.0) _ _ apart
  elsewhere Joined s d apart = ap (λ x. x ∷ renamed Joined d) (cond-false (named s.0) _ _ apart)

  -- none is left
  put-none : test other ≡ false → (ps : Pairs) → values_at test (put ps) ≡ []
  put-none apart [] = refl
  put-none apart (p ∷ ps) = grind (arith, apart, put-none apart ps)

  renamed-none : test other ≡ false → (sections : SectionRule) (d : Document)
      → gathered sections named test (renamed sections d) ≡ []
  renamed-none apart FirstSection [] = refl
  renamed-none apart FirstSection (s ∷ d) =
      grind (arith, renamed-none apart FirstSection d, put-none apart s.1)
  renamed-none apart Joined [] = refl
  renamed-none apart Joined (s ∷ d) = grind (arith, renamed-none apart Joined d, put-none apart s.1)

  -- those of the other key are those of the key
  put-moved : (ps : Pairs) → values_at test_other ps ≡ [] → values_at test_other (put ps) ≡ values_at test ps
  put-moved [] none = refl
  put-moved (p ∷ ps) none =
      elim (cases_Bool (test_other p.0)) [
        | inl has ↦ absurd (let none_so : p.1 ∷ values_at test_other ps ≡ [] = rw has at none in cc)
        | inr lacks ↦
            let later = put-moved ps (rw lacks at none) in
            grind (arith, lacks, later, (texts_equiv rule.case).refl other)
      ]

  renamed-moved : (sections : SectionRule) (d : Document) → gathered sections named test_other d ≡ []
      → gathered sections named test_other (renamed sections d) ≡ gathered sections named test d
  renamed-moved FirstSection [] none = refl
  renamed-moved Joined [] none = refl
  renamed-moved FirstSection (s ∷ d) none =
      elim (cases_Bool (named s.0)) [
        | inl there ↦
            ap (gathered FirstSection named test_other) (here FirstSection s d there)
            ∙ taken FirstSection test_other (section s) d there
            ∙ put-moved s.1 (sym (taken FirstSection test_other s d there) ∙ none)
            ∙ sym (taken FirstSection test s d there)
        | inr apart ↦
            ap (gathered FirstSection named test_other) (elsewhere FirstSection s d apart)
            ∙ passed FirstSection test_other s (renamed FirstSection d) apart
            ∙ renamed-moved FirstSection d (sym (passed FirstSection test_other s d apart) ∙ none)
            ∙ sym (passed FirstSection test s d apart)
      ]
  renamed-moved Joined (s ∷ d) none =
      elim (cases_Bool (named s.0)) [
        | inl there ↦
            let both = nothing-before (values_at test_other s.1) (gathered Joined named test_other d)
            (sym (taken Joined test_other s d there) ∙ none) in
            ap (gathered Joined named test_other) (here Joined s d there)
            ∙ taken Joined test_other (section s) (renamed Joined d) there
            ∙ ap (λ vs. vs ++ gathered Joined named test_other (renamed Joined d)) (put-moved s.1 both.0)
            ∙ ap (λ vs. values_at test s.1 ++ vs) (renamed-moved Joined d both.1)
            ∙ sym (taken Joined test s d there)
        | inr apart ↦
            ap (gathered Joined named test_other) (elsewhere Joined s d apart)
            ∙ passed Joined test_other s (renamed Joined d) apart
            ∙ renamed-moved Joined d (sym (passed Joined test_other s d apart) ∙ none)
            ∙ sym (passed Joined test s d apart)
      ]

  -- another look-up, for which the pairs' own key and the other one are alike
  module _ (n : Option Text) (k : Text) where
    abbrev test_k : Text → Bool
    test_k j = text_fits rule.case k j

    put-same : ((j : Text) → test j ≡ true → test_k j ≡ test_k other) → (ps : Pairs)
        → values_at test_k (put ps) ≡ values_at test_k ps
    put-same alike [] = refl
    put-same alike (p ∷ ps) = grind (arith, alike p.0, put-same alike ps)

    renamed-same : ((m : Option Text) → named m ≡ true → name_fits rule.case n m ≡ true
        → (j : Text) → test j ≡ true → test_k j ≡ test_k other) → (sections : SectionRule) (d : Document)
        → gathered sections (name_fits rule.case n) test_k (renamed sections d)
        ≡ gathered sections (name_fits rule.case n) test_k d
    renamed-same alike FirstSection d =
        gathered-first FirstSection (name_fits rule.case n) test_k (is_named rule name) section
        (λ s there. record { name = refl; values = λ both. put-same (alike s.0 there both) s.1 }) d
    renamed-same alike Joined d =
        gathered-each Joined (name_fits rule.case n) test_k (is_named rule name) section
        (λ s there. record { name = refl; values = λ both. put-same (alike s.0 there both) s.1 }) d

    answers-same : ((m : Option Text) → named m ≡ true → name_fits rule.case n m ≡ true
        → (j : Text) → test j ≡ true → test_k j ≡ test_k other) → (d : Document)
        → all_values rule n k (keys_renamed rule name key other d) ≡ all_values rule n k d
    answers-same alike d =
        all_values-gathered rule n k (keys_renamed rule name key other d)
        ∙ renamed-same alike rule.sections d ∙ sym (all_values-gathered rule n k d)

    -- they are, where one fits the other
    alike_fits : test other ≡ true → (j : Text) → test j ≡ true → test_k j ≡ test_k other
    alike_fits fits j there =
        (texts_equiv rule.case).symm k j ∙ sym ((texts_equiv rule.case).congr key j k there)
        ∙ (texts_equiv rule.case).congr key other k fits ∙ (texts_equiv rule.case).symm other k

  pub moves : MovesValues rule name key other
  moves = record {
    lost = λ apart d. all_values-gathered rule name key (keys_renamed rule name key other d)
        ∙ renamed-none apart rule.sections d;
    moved = λ d none. all_values-gathered rule name other (keys_renamed rule name key other d)
        ∙ renamed-moved rule.sections d (sym (all_values-gathered rule name other d) ∙ none)
        ∙ sym (all_values-gathered rule name key d);
    same = λ fits n k d. answers-same n k (λ m one two. alike_fits n k fits) d;
  }

-- nor where both are another key than the one that is looked up
module _ (rule : Lookup) (name : Option Text) (key other : Text) (n : Option Text) (k : Text)
    (apart : (name_fits rule.case n name && (text_fits rule.case k key || text_fits rule.case k other))
    ≡ false) where
  apart_key : (name_fits rule.case n name && text_fits rule.case k key) ≡ false
  apart_key = grind (arith, apart)

  apart_other : (name_fits rule.case n name && text_fits rule.case k other) ≡ false
  apart_other = grind (arith, apart)

  alike_apart : (m : Option Text) → name_fits rule.case name m ≡ true → name_fits rule.case n m ≡ true
      → (j : Text) → text_fits rule.case key j ≡ true
      → text_fits rule.case k j ≡ text_fits rule.case k other
  alike_apart m one two j fits =
      keys_apart rule name key n k apart_key (other_key rule name key n k apart_key m one two) j fits
      ∙ sym (other_key rule name other n k apart_other m one two)

pub unrenamed : (rule : Lookup) (name : Option Text) (key other : Text) → KeepsUnrenamed rule name key other
unrenamed rule name key other n k d apart =
    answers-same rule name key other n k (alike_apart rule name key other n k apart) d
