-- The pair that counts in a text in pieces, by its number: whether there is one, and the document once it is
-- set.
use Rattle.std.proofs.Common.{◌≡◌, ◌∙◌, ◌<◌, ℕ, suc, zero, Bool, true, false, cond, List, [], ◌∷◌}
use Rattle.std.proofs.Common.{◌++◌, None, Option, Some, ap, arith, get_or, inl, inr, length, map}
use Rattle.std.proofs.Common.{length-append, refl, sym}
use Rattle.std.proofs.lemmas.Bool.{cases_Bool, false≢true}
use Rattle.std.proofs.lemmas.List.{length-map}
use Rattle.std.specs.List.{last_or, list_any}
use Rattle.ini_multimap.specs.Pairs.{values_at}
use Rattle.ini.specs.Texts.{Text}
use Rattle.ini.specs.Properties.{Pairs}
use Rattle.ini.specs.Documents.{Document}
use Rattle.ini_edit.specs.SourceEditsAt.{at_index, at_section}
use Rattle.ini_dialect.specs.Lookups.{add_by, add_under, all_values, at_first, at_last, counting}
use Rattle.ini_dialect.specs.Lookups.{holds_key, is_named, name_fits, set_by, set_under, text_fits, valued}
use Rattle.ini_dialect.specs.Lookups.{value_under, with_new, with_value}
use Rattle.ini_dialect.specs.Numbers.{CountsAt, NonePasses, PairCounts, holder_key, holder_key_by}
use Rattle.ini_dialect.specs.Numbers.{holder_order, holder_order_by, new_order, new_order_by, passes_key}
use Rattle.ini_dialect.specs.Inside.{IsSettingAt}
use Rattle.ini_dialect.specs.declared.rule.Lookup.{Lookup}
use Rattle.ini_dialect.specs.declared.rule.SectionRule.{SectionRule}
use Rattle.ini_dialect.specs.declared.rule.SectionRule.TheVariants.{First as FirstSection, Joined}
use Rattle.ini_dialect.specs.declared.rule.ValueRule.{ValueRule}
use Rattle.ini_dialect.specs.declared.rule.ValueRule.TheVariants.{First as FirstValue, Last}
use Rattle.ini_dialect.proofs.EditLemmas.{counts-edit, counts-passes, named, number-here, same_any}
use Rattle.ini_dialect.proofs.EditLemmas.{same_edit, same_test, setting-first, setting-holder, valued-counts}
use Rattle.ini_dialect.proofs.PairLemmas.{values-none}
use Rattle.ini_dialect.proofs.SectionLemmas.{Section, all_values-gathered, gathered}

-- an item that counts among those that are seen of a list
module _ {X Y : Type 0} (view : X → Y) (xs : List X) {order : ValueRule} {test : Y → Bool} {number : ℕ}
    (counts : CountsAt order test (map view xs) number) where
  pub counts-within : number < length xs
  counts-within =
      omega (
        arith,
        counts.place,
        length-map xs view,
        ap length counts.split,
        length-append counts.before (counts.item ∷ counts.after),
      )

  pub counts-read : (x : X) → x ≡ get_or xs number x → view x ≡ counts.item
  counts-read x read = by xs counts.before number counts.place counts.split read
    where
      by : (xs : List X) (before : List Y) (n : ℕ) → n ≡ length before
          → map view xs ≡ before ++ counts.item ∷ counts.after → x ≡ get_or xs n x
          → view x ≡ counts.item
      by [] [] n is split at = absurd (let no : [] ≡ counts.item ∷ counts.after = split in cc)
      by [] (b ∷ before) n is split at =
          absurd (let no : [] ≡ b ∷ (before ++ counts.item ∷ counts.after) = split in cc)
      by (y ∷ ys) [] zero is split at =
          let one : x ≡ y = at in
          let both : view y ∷ map view ys ≡ counts.item ∷ counts.after = split in
          let same : view y ≡ counts.item = cc in
          ap view one ∙ same
      by (y ∷ ys) [] (suc n) is split at = absurd (omega (arith, is))
      by (y ∷ ys) (b ∷ before) zero is split at = absurd (omega (arith, is))
      by (y ∷ ys) (b ∷ before) (suc n) is split at =
          let both : view y ∷ map view ys ≡ b ∷ (before ++ counts.item ∷ counts.after) = split in
          let rest : map view ys ≡ before ++ counts.item ∷ counts.after = cc in
          by ys before n (omega (arith, is)) rest at

-- no value, no pair of the key
pub counting-none : (values : ValueRule) (vs : List Text) → counting values vs ≡ None → vs ≡ []
counting-none values [] none = refl
counting-none FirstValue (v ∷ vs) none = absurd (let no : Some v ≡ None = none in cc)
counting-none Last (v ∷ vs) none = absurd (some vs v none)
  where
    some : (vs : List Text) (v : Text) → last_or (Some v) vs ≡ None → ⊥
    some [] v none = let no : Some v ≡ None = none in cc
    some (u ∷ vs) v none = some vs u none

pub counting-nil : (values : ValueRule) → counting values [] ≡ None
counting-nil FirstValue = refl
counting-nil Last = refl

module _ (test : Text → Bool) where
  pub values-lack : (ps : Pairs) → values_at test ps ≡ [] → list_any (λ p. test p.0) ps ≡ false
  values-lack [] none = refl
  values-lack (p ∷ ps) none =
      elim (cases_Bool (test p.0)) [
        | inl fits ↦ absurd (let no : p.1 ∷ values_at test ps ≡ [] = rw fits at none in cc)
        | inr apart ↦ rw apart (values-lack ps (rw apart at none))
      ]

pub nothing-before : {X : Type 0} (xs ys : List X) → xs ++ ys ≡ [] → (xs ≡ []) × (ys ≡ [])
nothing-before [] ys none = (refl, none)
nothing-before (x ∷ xs) ys none = absurd (let no : x ∷ (xs ++ ys) ≡ [] = none in cc)

-- the values that a rule sees, where no section passes, and where the one that counts lacks the key
module _ (rule : Lookup) (name : Option Text) (key : Text) where
  abbrev fits_name : Option Text → Bool
  fits_name n = name_fits rule.case name n

  abbrev fits_key : Text → Bool
  fits_key k = text_fits rule.case key k

  abbrev has : Pairs → Bool
  has ps = list_any (λ p. fits_key p.0) ps

  abbrev pub seen : SectionRule → Document → List Text
  seen sections d = gathered sections fits_name fits_key d

  none_seen : (sections : SectionRule) (d : Document)
      → NonePasses (passes_key rule name (holder_key_by sections key)) d → seen sections d ≡ []
  none_seen FirstSection [] none = refl
  none_seen FirstSection (s ∷ d) none = grind (arith, none_seen FirstSection d, none)
  none_seen Joined [] none = refl
  none_seen Joined (s ∷ d) none = grind (arith, none_seen Joined d, values-none fits_key s.1, none)

  by_seen : (d : Document) → seen rule.sections d ≡ [] → value_under rule name key d ≡ None
  by_seen d none =
      ap (counting rule.values) (all_values-gathered rule name key d ∙ none) ∙ counting-nil rule.values

  pub no_value : (d : Document) → NonePasses (passes_key rule name (holder_key rule key)) d
      → value_under rule name key d ≡ None
  no_value d none = by_seen d (none_seen rule.sections d none)

  first_lacks : (before : Document) (s : Section) (after : Document)
      → NonePasses (named rule name key before) before
      → fits_name s.0 ≡ true → has s.1 ≡ false → seen FirstSection (before ++ s ∷ after) ≡ []
  first_lacks [] s after none fits lacks = grind (arith, fits, values-none fits_key s.1 lacks)
  first_lacks (t ∷ before) s after none fits lacks =
      grind (arith, first_lacks before s after, none, fits, lacks)

  pub no_value_there : (d : Document) {section : ℕ}
      (counts : CountsAt (holder_order rule) (passes_key rule name (holder_key rule key)) d section)
      → NonePasses (λ p. fits_key p.0) counts.item.1 → value_under rule name key d ≡ None
  no_value_there d counts lacks = by rule.sections refl counts lacks
    where
      by : (sections : SectionRule) → rule.sections ≡ sections → {section : ℕ}
          (counts : CountsAt (holder_order_by sections rule.values)
          (passes_key rule name (holder_key_by sections key)) d section)
          → NonePasses (λ p. fits_key p.0) counts.item.1 → value_under rule name key d ≡ None
      by FirstSection is counts lacks =
          let fits : fits_name counts.item.0 ≡ true =
          sym (same_test rule name key d counts.item) ∙ counts.passes in
          by_seen d (ap (λ s. seen s d) is ∙ ap (seen FirstSection) counts.split
          ∙ first_lacks counts.before counts.item counts.after counts.counts fits lacks)
      by Joined is counts lacks =
          absurd (false≢true (grind (arith, counts.passes, lacks)))

  -- the pair that counts takes the value
  setting_there : (d : Document) (sections : SectionRule) → rule.sections ≡ sections → {section : ℕ}
      → CountsAt (holder_order_by sections rule.values)
      (passes_key rule name (holder_key_by sections key)) d section
      → IsSettingAt rule name key d (Some section)
  setting_there d FirstSection is {section} counts = setting-first rule name key d section is counts
  setting_there d Joined is {section} counts = setting-holder rule name key d section is counts

  pub pair_set : (value : Text) (d : Document) {section pair : ℕ} → PairCounts rule name key d section pair
      → at_section section (at_index pair (λ p. (p.0, value))) d ≡ set_under rule name key value d
  pair_set value d {section} {pair} counts =
      let c = counts.in_document in
      here (λ s. (s.0, at_index pair (λ p. (p.0, value)) s.1)) c
      ∙ ap (λ ps. c.before ++ ((c.item.0, ps) ∷ c.after))
      (valued-counts rule key value c.item.1 pair counts.in_section)
      ∙ sym (here (with_value rule key value) c)
      ∙ setting_there d rule.sections refl c value
    where
      here : (f : Section → Section)
          (c : CountsAt (holder_order rule) (passes_key rule name (holder_key rule key)) d section)
          → at_index section f d ≡ c.before ++ f c.item ∷ c.after
      here f c =
          ap (λ n. at_index n f d) c.place ∙ ap (at_index (length c.before) f) c.split
          ∙ number-here f c.before c.item c.after

  -- a new pair in the section that takes new ones
  pub pair_added : (value : Text) (d : Document) {section : ℕ}
      → CountsAt (new_order rule) (passes_key rule name None) d section
      → at_section section (λ ps. ps ++ (key, value) ∷ []) d ≡ add_under rule name key value d
  pair_added value d {section} counts =
      let there : list_any (is_named rule name) d ≡ true =
      sym (same_any rule name key d d) ∙ counts-passes counts in
      rw there (by rule.sections counts)
    where
      by : (sections : SectionRule) → CountsAt (new_order_by sections) (passes_key rule name None) d section
          → at_index section (with_new rule key value) d ≡ add_by rule name key sections value d
      by FirstSection counts =
          counts-edit counts (with_new rule key value)
          ∙ same_edit rule name key d FirstValue (with_new rule key value) d
      by Joined counts =
          counts-edit counts (with_new rule key value)
          ∙ same_edit rule name key d Last (with_new rule key value) d

  -- where there is no such pair, setting is adding
  module _ (value : Text) where
    valued-new : (ps : Pairs) → has ps ≡ false → valued rule key value ps ≡ ps ++ (key, value) ∷ []
    valued-new ps lacks = rw lacks refl

    first_same : (d : Document) → seen FirstSection d ≡ []
        → at_first (is_named rule name) (with_value rule key value) d
        ≡ at_first (is_named rule name) (with_new rule key value) d
    first_same [] none = refl
    first_same (s ∷ d) none =
        elim (cases_Bool (fits_name s.0)) [
          | inl fits ↦ rw fits (
              ap (λ ps. (s.0, ps) ∷ d)
              (valued-new s.1 (values-lack fits_key s.1 (rw fits at none))))
          | inr apart ↦ rw apart (ap (λ l. s ∷ l) (first_same d (rw apart at none)))
        ]

    rest_none : (s : Section) (d : Document) → seen Joined (s ∷ d) ≡ [] → seen Joined d ≡ []
    rest_none s d none =
        elim (cases_Bool (fits_name s.0)) [
          | inl fits ↦ (nothing-before (values_at fits_key s.1) (seen Joined d) (rw fits at none)).1
          | inr apart ↦ (rw apart at none)
        ]

    here_lacks : (s : Section) (d : Document) → seen Joined (s ∷ d) ≡ [] → fits_name s.0 ≡ true
        → has s.1 ≡ false
    here_lacks s d none fits =
        values-lack fits_key s.1
        (nothing-before (values_at fits_key s.1) (seen Joined d) (rw fits at none)).0

    none_hold : (d : Document) → seen Joined d ≡ [] → list_any (holds_key rule name key) d ≡ false
    none_hold [] none = refl
    none_hold (s ∷ d) none =
        grind (arith, none_hold d (rest_none s d none), here_lacks s d none)

    last_same : (d : Document) → seen Joined d ≡ []
        → at_last (is_named rule name) (with_value rule key value) d
        ≡ at_last (is_named rule name) (with_new rule key value) d
    last_same [] none = refl
    last_same (s ∷ d) none =
        let more = last_same d (rest_none s d none) in
        elim (cases_Bool (list_any (is_named rule name) d)) [
          | inl later ↦ rw later (ap (λ l. s ∷ l) more)
          | inr last ↦ rw last (
              elim (cases_Bool (fits_name s.0)) [
                | inl fits ↦ rw fits (
                    ap (λ ps. (s.0, ps) ∷ d) (valued-new s.1 (here_lacks s d none fits)))
                | inr apart ↦ rw apart refl
              ])
        ]

    by_rule : (sections : SectionRule) (d : Document) → seen sections d ≡ []
        → cond (list_any (is_named rule name) d) (add_by rule name key sections value d)
        (d ++ (name, (key, value) ∷ []) ∷ []) ≡ set_by rule name key sections value d
    by_rule FirstSection d none =
        ap (λ e. cond (list_any (is_named rule name) d) e (d ++ (name, (key, value) ∷ []) ∷ []))
        (sym (first_same d none))
    by_rule Joined d none =
        rw (none_hold d none)
        (ap (λ e. cond (list_any (is_named rule name) d) e (d ++ (name, (key, value) ∷ []) ∷ []))
        (sym (last_same d none)))

    pub added_set : (d : Document) → value_under rule name key d ≡ None
        → add_under rule name key value d ≡ set_under rule name key value d
    added_set d none =
        by_rule rule.sections d
        (sym (all_values-gathered rule name key d)
        ∙ counting-none rule.values (all_values rule name key d) none)
