-- The laws of edits under a rule: the look-up finds what was set, and all others what they found.
use Rattle.std.proofs.Common.{◌≡◌, ◌∙◌, Bool, true, false, ◌&&◌, cond, [], ◌∷◌, ◌++◌, Option, None, Some, ap}
use Rattle.std.proofs.Common.{arith, inl, inr, refl, sym, append-nil}
use Rattle.std.proofs.lemmas.Bool.{cases_Bool, false≢true}
use Rattle.std.specs.List.{last_or, list_any}
use Rattle.ini_multimap.specs.Pairs.{values_at}
use Rattle.ini.specs.Texts.{Text}
use Rattle.ini.specs.Properties.{Pairs}
use Rattle.ini.specs.Documents.{Document}
use Rattle.ini_dialect.specs.LookupLaws.{AnswersNothing, AnswersSet, KeepsOtherLookups}
use Rattle.ini_dialect.specs.Lookups.{all_values, at_counting, at_first, at_last, cleared, counting}
use Rattle.ini_dialect.specs.Lookups.{delete_by, delete_under, has_key, holds_key, is_named, name_fits}
use Rattle.ini_dialect.specs.Lookups.{set_by, set_under, text_fits, valued, with_value}
use Rattle.ini_dialect.specs.declared.rule.Lookup.{Lookup}
use Rattle.ini_dialect.specs.declared.rule.SectionRule.{SectionRule}
use Rattle.ini_dialect.specs.declared.rule.SectionRule.TheVariants.{First as FirstSection, Joined}
use Rattle.ini_dialect.specs.declared.rule.ValueRule.{ValueRule}
use Rattle.ini_dialect.specs.declared.rule.ValueRule.TheVariants.{First as FirstValue, Last}
use Rattle.ini_dialect.proofs.PairLemmas.{counting-one, counting-there, first-there, last-there}
use Rattle.ini_dialect.proofs.PairLemmas.{last_or-append, others-counting, others-without, values-append}
use Rattle.ini_dialect.proofs.PairLemmas.{values-none, values-without}
use Rattle.ini_dialect.proofs.RuleLemmas.{names_equiv, texts_equiv}
use Rattle.ini_dialect.proofs.SectionLemmas.{Keeps, Section, all_values-gathered, gathered}
use Rattle.ini_dialect.proofs.SectionLemmas.{gathered-counting, gathered-each, gathered-first}
use Rattle.ini_dialect.proofs.SectionLemmas.{gathered-last, gathered-new, gathered-new_other}

-- what is there afterwards
module _ (rule : Lookup) (name : Option Text) (key : Text) where
  abbrev named : Option Text → Bool
  named n = name_fits rule.case name n

  abbrev test : Text → Bool
  test k = text_fits rule.case key k

  pub key_fits : test key ≡ true
  key_fits = (texts_equiv rule.case).refl key

  pub name_fits_itself : named name ≡ true
  name_fits_itself = (names_equiv rule.case).refl name

  -- where no section of the name has the key there is no value
  holders-none : (d : Document) → list_any (holds_key rule name key) d ≡ false
      → gathered Joined named test d ≡ []
  holders-none [] none = refl
  holders-none (s ∷ d) none = grind (arith, holders-none d, values-none test s.1)

  module _ (value : Text) where
    abbrev one : Pairs
    one = (key, value) ∷ []

    pub one-values : values_at test one ≡ value ∷ []
    one-values = grind (arith, key_fits)

    valued-there : (ps : Pairs)
        → counting rule.values (values_at test (valued rule key value ps)) ≡ Some value
    valued-there ps =
        elim (cases_Bool (has_key rule key ps)) [
          | inl has ↦ rw has (counting-there rule.values test value ps has)
          | inr lacks ↦
              rw lacks (
              ap (counting rule.values) (
              values-append test ps one
              ∙ ap (λ vs. vs ++ values_at test one) (values-none test ps lacks)
              ∙ one-values)
              ∙ counting-one rule.values value)
        ]

    -- the first section alone is looked at
    first-set : (d : Document) → list_any (is_named rule name) d ≡ true
        → counting rule.values (gathered FirstSection named test
        (at_first (is_named rule name) (with_value rule key value) d)) ≡ Some value
    first-set [] there = absurd (false≢true there)
    first-set (s ∷ d) there = grind (arith, first-set d, valued-there s.1)

    -- sections are joined, and one of them has the key
    abbrev with_value_by : ValueRule → Section → Section
    with_value_by values s = (
      s.0,
      cond (has_key rule key s.1)
          (at_counting values (λ p. test p.0) (λ p. (p.0, value)) s.1) (s.1 ++ one),
    )

    holders-first : (d : Document) → list_any (holds_key rule name key) d ≡ true
        → counting FirstValue (gathered Joined named test
        (at_first (holds_key rule name key) (with_value_by FirstValue) d)) ≡ Some value
    holders-first [] there = absurd (false≢true there)
    holders-first (s ∷ d) there =
        grind (
          arith,
          holders-first d,
          first-there test value s.1 (gathered Joined named test d),
          values-none test s.1,
        )

    holders-last : (d : Document) (o : Option Text) → list_any (holds_key rule name key) d ≡ true
        → last_or o (gathered Joined named test
        (at_last (holds_key rule name key) (with_value_by Last) d)) ≡ Some value
    holders-last [] o there = absurd (false≢true there)
    holders-last (s ∷ d) o there =
        grind (
          arith,
          holders-last d o,
          holders-last d (last_or o (values_at test s.1)),
          last-there test value s.1 o,
          holders-none d,
          last_or-append o (values_at test s.1)
              (gathered Joined named test (at_last (holds_key rule name key) (with_value_by Last) d)),
          append-nil (values_at test (at_last (λ p. test p.0) (λ p. (p.0, value)) s.1)),
        )

    holders-set : (values : ValueRule) (d : Document) → list_any (holds_key rule name key) d ≡ true
        → counting values (gathered Joined named test
        (at_counting values (holds_key rule name key) (with_value_by values) d)) ≡ Some value
    holders-set FirstValue d there = holders-first d there
    holders-set Last d there = holders-last d None there

    -- none of them has it
    last-set : (d : Document) → list_any (holds_key rule name key) d ≡ false
        → list_any (is_named rule name) d ≡ true
        → gathered Joined named test (at_last (is_named rule name) (with_value rule key value) d)
        ≡ value ∷ []
    last-set [] none there = absurd (false≢true there)
    last-set (s ∷ d) none there =
        grind (
          arith,
          last-set d,
          values-none test s.1,
          values-append test s.1 one,
          one-values,
          holders-none d,
        )

    -- there is no section of the name
    new-set : (sections : SectionRule) (d : Document) → list_any (is_named rule name) d ≡ false
        → counting rule.values (gathered sections named test (d ++ (name, one) ∷ [])) ≡ Some value
    new-set sections d none =
        ap (counting rule.values) (
        gathered-new sections named test (name, one) name_fits_itself d none ∙ one-values)
        ∙ counting-one rule.values value

    set_by-there : (sections : SectionRule) (d : Document)
        → counting rule.values (gathered sections named test (set_by rule name key sections value d))
        ≡ Some value
    set_by-there FirstSection d =
        elim (cases_Bool (list_any (is_named rule name) d)) [
          | inl there ↦ rw there (first-set d there)
          | inr none ↦ rw none (new-set FirstSection d none)
        ]
    set_by-there Joined d =
        elim (cases_Bool (list_any (holds_key rule name key) d)) [
          | inl has ↦ rw has (holders-set rule.values d has)
          | inr lacks ↦ rw lacks (
              elim (cases_Bool (list_any (is_named rule name) d)) [
                | inl there ↦ rw there (
                    ap (counting rule.values) (last-set d lacks there) ∙ counting-one rule.values value)
                | inr none ↦ rw none (new-set Joined d none)
              ])
        ]

    pub set-answers : AnswersSet rule name key value
    set-answers d =
        ap (counting rule.values) (all_values-gathered rule name key (set_under rule name key value d))
        ∙ set_by-there rule.sections d

  -- after `delete` nothing is there
  delete_by-none : (sections : SectionRule) (d : Document)
      → gathered sections named test (delete_by rule name key sections d) ≡ []
  delete_by-none FirstSection [] = refl
  delete_by-none FirstSection (s ∷ d) =
      grind (arith, delete_by-none FirstSection d, values-without test s.1)
  delete_by-none Joined [] = refl
  delete_by-none Joined (s ∷ d) = grind (arith, delete_by-none Joined d, values-without test s.1)

  pub delete-answers : AnswersNothing rule name key
  delete-answers d =
      all_values-gathered rule name key (delete_under rule name key d) ∙ delete_by-none rule.sections d

-- what stays as it was, for another name n or another key k
module _ (rule : Lookup) (name : Option Text) (key : Text) (n : Option Text) (k : Text)
    (apart : (name_fits rule.case n name && text_fits rule.case k key) ≡ false) where
  abbrev named_n : Option Text → Bool
  named_n m = name_fits rule.case n m

  abbrev test_k : Text → Bool
  test_k j = text_fits rule.case k j

  -- a section that both look at is asked for another key
  same_name : (m : Option Text) → name_fits rule.case name m ≡ true → named_n m ≡ true
      → name_fits rule.case n name ≡ true
  same_name m one other =
      (names_equiv rule.case).congr n m name other ∙ (names_equiv rule.case).symm m name ∙ one

  pub other_key : (m : Option Text) → name_fits rule.case name m ≡ true → named_n m ≡ true
      → text_fits rule.case k key ≡ false
  other_key m one other =
      let same = same_name m one other in
      rw same at apart

  pub keys_apart : text_fits rule.case k key ≡ false → (j : Text) → text_fits rule.case key j ≡ true
      → test_k j ≡ false
  keys_apart away j fits =
      (texts_equiv rule.case).symm k j
      ∙ sym ((texts_equiv rule.case).congr key j k fits)
      ∙ (texts_equiv rule.case).symm key k
      ∙ away

  module _ (value : Text) where
    pub one-none : text_fits rule.case k key ≡ false → values_at test_k ((key, value) ∷ []) ≡ []
    one-none away = grind (arith, away)

    valued-same : text_fits rule.case k key ≡ false → (ps : Pairs)
        → values_at test_k (valued rule key value ps) ≡ values_at test_k ps
    valued-same away ps =
        elim (cases_Bool (has_key rule key ps)) [
          | inl has ↦ rw has (
              others-counting (text_fits rule.case key) test_k (keys_apart away) rule.values value ps)
          | inr lacks ↦ rw lacks (
              values-append test_k ps ((key, value) ∷ [])
              ∙ ap (λ vs. values_at test_k ps ++ vs) (one-none away)
              ∙ append-nil (values_at test_k ps))
        ]

    keeps-with_value : (s : Section) → is_named rule name s ≡ true
        → Keeps named_n test_k (with_value rule key value) s
    keeps-with_value s there = record {
      name = refl;
      values = λ both. valued-same (other_key s.0 there both) s.1;
    }

    holds-named : (s : Section) → holds_key rule name key s ≡ true → is_named rule name s ≡ true
    holds-named s there = grind (arith, there)

    pub new-same : (sections : SectionRule) (d : Document)
        → gathered sections named_n test_k (d ++ (name, (key, value) ∷ []) ∷ [])
        ≡ gathered sections named_n test_k d
    new-same sections d =
        gathered-new_other sections named_n test_k (name, (key, value) ∷ [])
        (λ same. one-none (other_key name ((names_equiv rule.case).refl name) same)) d

    set_by-same : (sections : SectionRule) (d : Document)
        → gathered sections named_n test_k (set_by rule name key sections value d)
        ≡ gathered sections named_n test_k d
    set_by-same FirstSection d =
        elim (cases_Bool (list_any (is_named rule name) d)) [
          | inl there ↦ rw there (
              gathered-first FirstSection named_n test_k (is_named rule name)
              (with_value rule key value) keeps-with_value d)
          | inr none ↦ rw none (new-same FirstSection d)
        ]
    set_by-same Joined d =
        elim (cases_Bool (list_any (holds_key rule name key) d)) [
          | inl has ↦ rw has (
              gathered-counting Joined named_n test_k (holds_key rule name key)
              (with_value rule key value)
              (λ s there. keeps-with_value s (holds-named s there)) rule.values d)
          | inr lacks ↦ rw lacks (
              elim (cases_Bool (list_any (is_named rule name) d)) [
                | inl there ↦ rw there (
                    gathered-last Joined named_n test_k (is_named rule name)
                    (with_value rule key value) keeps-with_value d)
                | inr none ↦ rw none (new-same Joined d)
              ])
        ]

  keeps-cleared : (s : Section) → is_named rule name s ≡ true
      → Keeps named_n test_k (cleared rule key) s
  keeps-cleared s there = record {
    name = refl;
    values = λ both.
        others-without (text_fits rule.case key) test_k (keys_apart (other_key s.0 there both)) s.1;
  }

  delete_by-same : (sections : SectionRule) (d : Document)
      → gathered sections named_n test_k (delete_by rule name key sections d)
      ≡ gathered sections named_n test_k d
  delete_by-same FirstSection d =
      gathered-first FirstSection named_n test_k (is_named rule name) (cleared rule key) keeps-cleared d
  delete_by-same Joined d =
      gathered-each Joined named_n test_k (is_named rule name) (cleared rule key) keeps-cleared d

  -- both, of the values that a look-up answers
  set-same : (value : Text) (d : Document)
      → all_values rule n k (set_under rule name key value d) ≡ all_values rule n k d
  set-same value d =
      all_values-gathered rule n k (set_under rule name key value d)
      ∙ set_by-same value rule.sections d
      ∙ sym (all_values-gathered rule n k d)

  delete-same : (d : Document) → all_values rule n k (delete_under rule name key d) ≡ all_values rule n k d
  delete-same d =
      all_values-gathered rule n k (delete_under rule name key d)
      ∙ delete_by-same rule.sections d
      ∙ sym (all_values-gathered rule n k d)

pub set-keeps : (rule : Lookup) (name : Option Text) (key value : Text)
    → KeepsOtherLookups rule name key (set_under rule name key value)
set-keeps rule name key value n k d apart = set-same rule name key n k apart value d

pub delete-keeps : (rule : Lookup) (name : Option Text) (key : Text)
    → KeepsOtherLookups rule name key (delete_under rule name key)
delete-keeps rule name key n k d apart = delete-same rule name key n k apart d
