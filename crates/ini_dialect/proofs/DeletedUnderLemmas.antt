-- Pairs under a rule taken out of a text in pieces, one after another.
use Rattle.std.proofs.Common.{◌≡◌, ◌∙◌, ◌<◌, ◌+◌, ℕ, Bool, true, false, ◌||◌, cond, List, [], ◌∷◌}
use Rattle.std.proofs.Common.{◌++◌, None, Option, Some, ap, arith, inl, inr, length, map, refl, subst, sym}
use Rattle.std.proofs.lemmas.Bool.{cases_Bool, false≢true}
use Rattle.std.proofs.lemmas.List.{length-append, map-append}
use Rattle.std.specs.List.{list_any, remove}
use Rattle.std.specs.Prelude.{is_some}
use Rattle.ini_multimap.specs.Pairs.{values_at, without}
use Rattle.ini.specs.Documents.{Document}
use Rattle.ini.specs.Properties.{Pairs}
use Rattle.ini.specs.Texts.{Text}
use Rattle.ini_edit.specs.SourceEditsAt.{at_index, at_section, deleted_at_index}
use Rattle.ini_edit.specs.SourceEditsList.{with_sections}
use Rattle.ini_edit.specs.Sources.{Pieces, SectionPiece, document_in}
use Rattle.ini_edit.proofs.SourcePlaceLemmas.{place_remove}
use Rattle.ini_dialect.specs.Lookups.{all_values, at_first, cleared, counting, delete_by, delete_under}
use Rattle.ini_dialect.specs.Lookups.{is_named, text_fits, value_under}
use Rattle.ini_dialect.specs.Numbers.{CountsAt, NonePasses, PairCounts, holder_key_by, holder_order_by}
use Rattle.ini_dialect.specs.Numbers.{passes_key}
use Rattle.ini_dialect.specs.SourceLookups.{AreDeletedUnder, by_first}
use Rattle.ini_dialect.specs.declared.rule.Lookup.{Lookup}
use Rattle.ini_dialect.specs.declared.rule.SectionRule.{SectionRule}
use Rattle.ini_dialect.specs.declared.rule.SectionRule.TheVariants.{First as FirstSection, Joined}
use Rattle.ini_dialect.specs.declared.rule.ValueRule.{ValueRule}
use Rattle.ini_dialect.specs.declared.rule.ValueRule.TheVariants.{First as FirstValue}
use Rattle.ini_dialect.proofs.EditLemmas.{counts-passes, first-here, number-here, same_any, same_test}
use Rattle.ini_dialect.proofs.SectionLemmas.{Section, all_values-gathered}
use Rattle.ini_dialect.proofs.SourceLookupLemmas.{counting-none, counting-nil, nothing-before, seen}
use Rattle.ini_dialect.proofs.SourceLookupLemmas.{values-lack}

-- the item that counts taken out
removed_there : {X : Type 0} {order : ValueRule} {test : X → Bool} {xs : List X} {n : ℕ}
    (counts : CountsAt order test xs n) → remove xs n ≡ counts.before ++ counts.after
removed_there counts =
    place_remove {p = record { before = counts.before; here = counts.item; after = counts.after }}
    (record { whole = counts.split; index = counts.place })

-- so many pairs
abbrev pub pairs_count : Document → ℕ
pairs_count [] = 0
pairs_count (s ∷ d) = length s.1 + pairs_count d

fewer_there : (before : Document) (s t : Section) (after : Document) → length t.1 < length s.1
    → pairs_count (before ++ t ∷ after) < pairs_count (before ++ s ∷ after)
fewer_there [] s t after fewer = omega (arith, fewer)
fewer_there (b ∷ before) s t after fewer = omega (arith, fewer_there before s t after fewer)

module _ (test : Text → Bool) where
  without_there : (before : Pairs) (p : Text × Text) (after : Pairs) → test p.0 ≡ true
      → without test (before ++ p ∷ after) ≡ without test (before ++ after)
  without_there [] p after fits = grind (arith, fits)
  without_there (b ∷ before) p after fits = grind (arith, without_there before p after fits)

  without_none : (ps : Pairs) → values_at test ps ≡ [] → without test ps ≡ ps
  without_none [] none = refl
  without_none (p ∷ ps) none =
      elim (cases_Bool (test p.0)) [
        | inl fits ↦ absurd (let no : p.1 ∷ values_at test ps ≡ [] = rw fits at none in cc)
        | inr apart ↦ rw apart (ap (λ l. p ∷ l) (without_none ps (rw apart at none)))
      ]

module _ (rule : Lookup) (name : Option Text) (key : Text) where
  -- sections of which one is another that is cleared alike
  module _ (before : Document) (s t : Section) (after : Document) (fits : is_named rule name s ≡ true)
      (fits_too : is_named rule name t ≡ true) (same : cleared rule key t ≡ cleared rule key s) where
    each : (x : Section) → is_named rule name x ≡ true
        → map (λ s. cond (is_named rule name s) (cleared rule key s) s) (before ++ x ∷ after)
        ≡ map (λ s. cond (is_named rule name s) (cleared rule key s) s) before
        ++ (cleared rule key x ∷ map (λ s. cond (is_named rule name s) (cleared rule key s) s) after)
    each x there =
        let f : Section → Section = λ s. cond (is_named rule name s) (cleared rule key s) s in
        map-append f before (x ∷ after)
        ∙ ap (λ b. map f before ++ (cond b (cleared rule key x) x ∷ map f after)) there

    first : (x : Section) → is_named rule name x ≡ true → NonePasses (is_named rule name) before
        → at_first (is_named rule name) (cleared rule key) (before ++ x ∷ after)
        ≡ before ++ (cleared rule key x ∷ after)
    first x there none = first-here (is_named rule name) (cleared rule key) before x after none there

    deleted_alike : (sections : SectionRule)
        → (sections ≡ FirstSection → NonePasses (is_named rule name) before)
        → delete_by rule name key sections (before ++ t ∷ after)
        ≡ delete_by rule name key sections (before ++ s ∷ after)
    deleted_alike FirstSection none =
        first t fits_too (none refl) ∙ ap (λ x. before ++ (x ∷ after)) same ∙ sym (first s fits (none refl))
    deleted_alike Joined none =
        let f : Section → Section = λ s. cond (is_named rule name s) (cleared rule key s) s in
        each t fits_too ∙ ap (λ x. map f before ++ (x ∷ map f after)) same ∙ sym (each s fits)

  -- the first pair that is looked at taken out
  module _ {d : Document} {i j : ℕ} (counts : PairCounts (by_first rule) name key d i j) where
    abbrev without_first : Document
    without_first = at_section i (λ ps. remove ps j) d

    abbrev holder : Section
    holder = counts.in_document.item

    abbrev left : Section
    left = (holder.0, remove holder.1 j)

    split_so : without_first ≡ counts.in_document.before ++ left ∷ counts.in_document.after
    split_so =
        let c = counts.in_document in
        let f : Section → Section = λ s. (s.0, remove s.1 j) in
        ap (λ n. at_index n f d) c.place ∙ ap (at_index (length c.before) f) c.split
        ∙ number-here f c.before c.item c.after

    pub fewer_pairs : pairs_count without_first < pairs_count d
    fewer_pairs =
        let c = counts.in_document in
        let p = counts.in_section in
        let less : length left.1 < length holder.1 =
        omega (
          arith,
          ap length (removed_there p),
          ap length p.split,
          length-append p.before p.after,
          length-append p.before (p.item ∷ p.after),
        ) in
        subst (λ e. pairs_count e < pairs_count d) (sym split_so)
        (subst (λ e. pairs_count (c.before ++ left ∷ c.after) < pairs_count e) (sym c.split)
        (fewer_there c.before holder left c.after less))

    left_alike : cleared rule key left ≡ cleared rule key holder
    left_alike =
        let p = counts.in_section in
        ap (λ ps. (holder.0, ps))
        (ap (without (text_fits rule.case key)) (removed_there p)
        ∙ sym (without_there (text_fits rule.case key) p.before p.item p.after p.passes)
        ∙ ap (without (text_fits rule.case key)) (sym p.split))

    holder_fits : is_named rule name holder ≡ true
    holder_fits = by rule.sections counts.in_document.passes
      where
        by : (sections : SectionRule)
            → passes_key (by_first rule) name (holder_key_by sections key) holder ≡ true
            → is_named rule name holder ≡ true
        by FirstSection passes = sym (same_test rule name key d holder) ∙ passes
        by Joined passes = grind (arith, passes)

    before_lacks : rule.sections ≡ FirstSection
        → NonePasses (is_named rule name) counts.in_document.before
    before_lacks is = by rule.sections is counts.in_document
      where
        by : (sections : SectionRule) → sections ≡ FirstSection
            → (c : CountsAt (holder_order_by sections FirstValue)
            (passes_key (by_first rule) name (holder_key_by sections key)) d i)
            → NonePasses (is_named rule name) c.before
        by FirstSection is c = sym (same_any rule name key d c.before) ∙ c.counts
        by Joined is c = absurd cc

    pub deleted_step : delete_under rule name key without_first ≡ delete_under rule name key d
    deleted_step =
        let c = counts.in_document in
        ap (delete_under rule name key) split_so
        ∙ deleted_alike c.before holder left c.after holder_fits holder_fits left_alike rule.sections
        before_lacks
        ∙ ap (delete_under rule name key) (sym c.split)

  -- where no value is seen the section that counts lacks the key
  seen_none : (sections : SectionRule) (before : Document) (s : Section) (after : Document)
      → (sections ≡ FirstSection → NonePasses (is_named rule name) before)
      → is_named rule name s ≡ true
      → seen rule name key sections (before ++ s ∷ after) ≡ []
      → list_any (λ (p : Text × Text). text_fits rule.case key p.0) s.1 ≡ false
  seen_none FirstSection [] s after lacks fits none =
      values-lack (text_fits rule.case key) s.1 (rw fits at none)
  seen_none FirstSection (b ∷ before) s after lacks fits none =
      let apart : is_named rule name b ≡ false = grind (arith, lacks refl) in
      seen_none FirstSection before s after (λ is. grind (arith, lacks refl, apart)) fits (rw apart at none)
  seen_none Joined [] s after lacks fits none =
      values-lack (text_fits rule.case key) s.1
      (nothing-before (values_at (text_fits rule.case key) s.1) (seen rule name key Joined after)
      (rw fits at none)).0
  seen_none Joined (b ∷ before) s after lacks fits none =
      elim (cases_Bool (is_named rule name b)) [
        | inl there ↦ seen_none Joined before s after (λ is. absurd cc) fits
            (nothing-before (values_at (text_fits rule.case key) b.1)
            (seen rule name key Joined (before ++ s ∷ after)) (rw there at none)).1
        | inr apart ↦ seen_none Joined before s after (λ is. absurd cc) fits (rw apart at none)
      ]

  lacks_there : {d : Document} {i j : ℕ} → seen rule name key rule.sections d ≡ []
      → (counts : PairCounts (by_first rule) name key d i j)
      → list_any (λ (p : Text × Text). text_fits rule.case key p.0) counts.in_document.item.1 ≡ false
  lacks_there {d} none counts =
      let c = counts.in_document in
      seen_none rule.sections c.before c.item c.after (before_lacks counts) (holder_fits counts)
      (ap (seen rule name key rule.sections) (sym c.split) ∙ none)

  -- the rule by which the first value counts looks at the same values
  pub first_values : (d : Document) → all_values (by_first rule) name key d ≡ all_values rule name key d
  first_values d =
      all_values-gathered (by_first rule) name key d ∙ sym (all_values-gathered rule name key d)

  pub none_first : (d : Document) → value_under (by_first rule) name key d ≡ None
      → all_values rule name key d ≡ []
  none_first d none =
      sym (first_values d) ∙ counting-none FirstValue (all_values (by_first rule) name key d) none

  pub none_any : (d : Document) → all_values rule name key d ≡ [] → value_under rule name key d ≡ None
  none_any d none = ap (counting rule.values) none ∙ counting-nil rule.values

  -- a pair that counts has a value
  pub some_there : {d : Document} {i j : ℕ} → PairCounts (by_first rule) name key d i j
      → is_some (value_under rule name key d) ≡ true
  some_there {d} counts = by (value_under rule name key d) refl
    where
      by : (v : Option Text) → value_under rule name key d ≡ v → is_some v ≡ true
      by (Some v) is = refl
      by None is =
          let none = sym (all_values-gathered rule name key d)
          ∙ counting-none rule.values (all_values rule name key d) is in
          absurd (false≢true (sym (lacks_there none counts) ∙ counts-passes counts.in_section))

  -- where there is none, all stays
  deleted_none : (sections : SectionRule) (d : Document) → seen rule name key sections d ≡ []
      → delete_by rule name key sections d ≡ d
  deleted_none FirstSection [] none = refl
  deleted_none FirstSection (s ∷ d) none =
      elim (cases_Bool (is_named rule name s)) [
        | inl fits ↦ rw fits (
            ap (λ ps. (s.0, ps) ∷ d)
            (without_none (text_fits rule.case key) s.1 (rw fits at none)))
        | inr apart ↦ rw apart (ap (λ l. s ∷ l) (deleted_none FirstSection d (rw apart at none)))
      ]
  deleted_none Joined [] none = refl
  deleted_none Joined (s ∷ d) none =
      elim (cases_Bool (is_named rule name s)) [
        | inl fits ↦
            let both = nothing-before (values_at (text_fits rule.case key) s.1)
            (seen rule name key Joined d) (rw fits at none) in
            rw fits (
            ap (λ ps. (s.0, ps) ∷ delete_by rule name key Joined d)
            (without_none (text_fits rule.case key) s.1 both.0)
            ∙ ap (λ l. s ∷ l) (deleted_none Joined d both.1))
        | inr apart ↦ rw apart (ap (λ l. s ∷ l) (deleted_none Joined d (rw apart at none)))
      ]

  pub deleted_end : (d : Document) → value_under (by_first rule) name key d ≡ None
      → delete_under rule name key d ≡ d
  deleted_end d none =
      deleted_none rule.sections d (sym (all_values-gathered rule name key d) ∙ none_first d none)

-- pairs taken out of the pieces up to here
pub record DeletedSoFar (rule : Lookup) (name : Option Text) (key : Text) (old now : Pieces)
    (found : Bool) : Type 0 where
  pub goes_on : (new : List SectionPiece) → AreDeletedUnder rule name key old.option now.sections new
      → AreDeletedUnder rule name key old.option old.sections new
  pub option : now.option ≡ old.option
  pub document : delete_under rule name key (document_in now) ≡ delete_under rule name key (document_in old)
  pub some : is_some (value_under rule name key (document_in old))
      ≡ (found || is_some (value_under rule name key (document_in now)))

module _ (rule : Lookup) (name : Option Text) (key : Text) where
  pub so_far_none : (old : Pieces) → DeletedSoFar rule name key old old false
  so_far_none old = record { goes_on = λ new more. more; option = refl; document = refl; some = refl }

  module _ {old now : Pieces} {found : Bool} (so_far : DeletedSoFar rule name key old now found) where
    pub so_far_more : {next : Pieces} {i j : ℕ} → PairCounts (by_first rule) name key (document_in now) i j
        → next ≡ with_sections now (deleted_at_index now.option i j now.sections)
        → document_in next ≡ at_section i (λ ps. remove ps j) (document_in now)
        → DeletedSoFar rule name key old next true
    so_far_more {next} {i} {j} counts made document = record {
      goes_on = λ new more. so_far.goes_on new (AreDeletedUnder.first_out counts
          (subst (λ ss. AreDeletedUnder rule name key old.option ss new)
          (ap (λ (p : Pieces). p.sections) made
          ∙ ap (λ o. deleted_at_index o i j now.sections) so_far.option) more));
      option = ap (λ (p : Pieces). p.option) made ∙ so_far.option;
      document = ap (delete_under rule name key) document ∙ deleted_step rule name key counts
          ∙ so_far.document;
      some = so_far.some ∙ ap (λ b. found || b) (some_there rule name key counts) ∙ or_true found;
    }
      where
        or_true : (b : Bool) → (b || true) ≡ true
        or_true true = refl
        or_true false = refl

    module _ (none : value_under (by_first rule) name key (document_in now) ≡ None) where
      nothing : all_values rule name key (document_in now) ≡ []
      nothing = none_first rule name key (document_in now) none

      pub so_far_found : found ≡ is_some (value_under rule name key (document_in old))
      so_far_found =
          sym (so_far.some ∙ ap (λ v. found || is_some v) (none_any rule name key (document_in now) nothing)
          ∙ or_false found)
        where
          or_false : (b : Bool) → (b || false) ≡ b
          or_false true = refl
          or_false false = refl

      pub so_far_deleted : AreDeletedUnder rule name key old.option old.sections now.sections
      so_far_deleted = so_far.goes_on now.sections (AreDeletedUnder.none_left nothing)

      pub so_far_document : document_in now ≡ delete_under rule name key (document_in old)
      so_far_document = sym (deleted_end rule name key (document_in now) none) ∙ so_far.document
