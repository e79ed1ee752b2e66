-- All values of a key set under a rule in a document: the pairs at the key's numbers given values or taken
-- out, pairs added, and what look-ups answer then.
use Rattle.std.proofs.Common.{◌≡◌, ◌∙◌, ◌+◌, ℕ, suc, zero, Bool, true, false, ◌&&◌, cond, List, [], ◌∷◌, ◌++◌}
use Rattle.std.proofs.Common.{Option, ap, append_assoc, append-nil, arith, drop, inl, inr, length, refl, sym}
use Rattle.std.proofs.Common.{length-append}
use Rattle.std.proofs.lemmas.Bool.{cases_Bool}
use Rattle.std.proofs.lemmas.List.{drop_all}
use Rattle.std.specs.List.{list_any, remove}
use Rattle.ini_multimap.specs.Pairs.{values_at}
use Rattle.ini.specs.Documents.{Document}
use Rattle.ini.specs.Properties.{Pairs}
use Rattle.ini.specs.Texts.{Text}
use Rattle.ini_edit.specs.SourceEditsAt.{at_index, at_section}
use Rattle.ini_dialect.specs.Inside.{taken_out, values_put}
use Rattle.ini_dialect.specs.KeyEdits.{numbers_by, numbers_in, numbers_under}
use Rattle.ini_dialect.specs.ListEdits.{all_added, all_set_under, given_by, pairs_given}
use Rattle.ini_dialect.specs.LookupLaws.{KeepsOtherLookups}
use Rattle.ini_dialect.specs.Lookups.{add_by, add_under, all_values, at_first, at_last, is_named, name_fits}
use Rattle.ini_dialect.specs.Lookups.{text_fits, with_new}
use Rattle.ini_dialect.specs.declared.rule.Lookup.{Lookup}
use Rattle.ini_dialect.specs.declared.rule.SectionRule.{SectionRule}
use Rattle.ini_dialect.specs.declared.rule.SectionRule.TheVariants.{First as FirstSection, Joined}
use Rattle.ini_dialect.specs.declared.source.PairNumber.{PairNumber}
use Rattle.ini_dialect.proofs.EditLemmas.{number-here}
use Rattle.ini_dialect.proofs.KeyEditLemmas.{count_under, moved, one-longer}
use Rattle.ini_dialect.proofs.LookupLawLemmas.{key_fits, keys_apart, name_fits_itself, new-same, one-none}
use Rattle.ini_dialect.proofs.LookupLawLemmas.{one-values, other_key}
use Rattle.ini_dialect.proofs.PairLemmas.{others-without, values-append, values-without}
use Rattle.ini_dialect.proofs.SectionLemmas.{Keeps, Section, all_values-gathered, gathered, gathered-first}
use Rattle.ini_dialect.proofs.SectionLemmas.{gathered-last, gathered-new}

pub drop_nil : {X : Type 0} (n : ℕ) → ◌≡◌ {A = List X} (drop n []) []
drop_nil n = drop_all n [] (omega arith)

drop_add : {X : Type 0} (m n : ℕ) (xs : List X) → drop (m + n) xs ≡ drop n (drop m xs)
drop_add zero n xs = ap (λ i. drop i xs) (omega arith)
drop_add (suc m) n [] =
    drop_nil (suc m + n) ∙ sym (drop_nil n) ∙ ap (drop n) (sym (drop_nil (suc m)))
drop_add (suc m) n (x ∷ xs) =
    let next : suc m + n ≡ suc (m + n) = omega arith in
    ap (λ i. drop i (x ∷ xs)) next ∙ drop_add m n xs

removed_here : {X : Type 0} (xs : List X) (y : X) (ys : List X) → remove (xs ++ y ∷ ys) (length xs) ≡ xs ++ ys
removed_here [] y ys = refl
removed_here (x ∷ xs) y ys = ap (λ l. x ∷ l) (removed_here xs y ys)

-- the pairs at the first numbers given values, and those at the others taken out
abbrev pub put_at : List PairNumber → List Text → Document → Document
put_at numbers values d = taken_out (drop (length values) numbers) (values_put numbers values d)

put_none : (values : List Text) (d : Document) → put_at [] values d ≡ d
put_none [] d = refl
put_none (v ∷ vs) d = refl

module _ (rule : Lookup) (name : Option Text) (key : Text) where
  abbrev test : Text → Bool
  test k = text_fits rule.case key k

  -- the pairs of a section from one on, where the later numbers act on what follows alone
  module _ (before : Document) (n : Option Text) (later : List PairNumber) (after after' : Document)
      (rest : List Text)
      (acts : (qs : Pairs) → put_at later rest (before ++ (n, qs) ∷ after) ≡ before ++ (n, qs) ∷ after') where
    abbrev from_pair : ℕ → Pairs → List PairNumber
    from_pair j ps = numbers_in rule.case key (length before) j ps ++ later

    next : (front : Pairs) (q : Text × Text) (ps qs : Pairs) (vs : List Text)
        → put_at (from_pair (length (front ++ q ∷ [])) ps) vs
        (before ++ (n, (front ++ q ∷ []) ++ ps) ∷ after)
        ≡ before ++ (n, (front ++ q ∷ []) ++ qs) ∷ after'
        → put_at (from_pair (suc (length front)) ps) vs (before ++ (n, front ++ q ∷ ps) ∷ after)
        ≡ before ++ (n, front ++ q ∷ qs) ∷ after'
    next front q ps qs vs more =
        ap (λ j. put_at (from_pair j ps) vs (before ++ (n, front ++ q ∷ ps) ∷ after))
        (sym (one-longer front q))
        ∙ ap (λ l. put_at (from_pair (length (front ++ q ∷ [])) ps) vs (before ++ (n, l) ∷ after))
        (sym (moved front q ps))
        ∙ more ∙ ap (λ l. before ++ (n, l) ∷ after') (moved front q qs)

    value_here : (front : Pairs) (p : Text × Text) (ps : Pairs) (v : Text)
        → at_section (length before) (at_index (length front) (λ q. (q.0, v)))
        (before ++ (n, front ++ p ∷ ps) ∷ after)
        ≡ before ++ (n, front ++ (p.0, v) ∷ ps) ∷ after
    value_here front p ps v =
        number-here (λ s. (s.0, at_index (length front) (λ q. (q.0, v)) s.1)) before
        (n, front ++ p ∷ ps) after
        ∙ ap (λ l. before ++ (n, l) ∷ after) (number-here (λ q. (q.0, v)) front p ps)

    out_here : (front : Pairs) (p : Text × Text) (ps : Pairs)
        → at_section (length before) (λ qs. remove qs (length front))
        (before ++ (n, front ++ p ∷ ps) ∷ after')
        ≡ before ++ (n, front ++ ps) ∷ after'
    out_here front p ps =
        number-here (λ s. (s.0, remove s.1 (length front))) before (n, front ++ p ∷ ps) after'
        ∙ ap (λ l. before ++ (n, l) ∷ after') (removed_here front p ps)

    put_pairs_nil : rest ≡ [] → (front ps : Pairs)
        → put_at (from_pair (length front) ps) [] (before ++ (n, front ++ ps) ∷ after)
        ≡ before ++ (n, front ++ pairs_given rule.case key [] ps) ∷ after'
    put_pairs_nil none front [] =
        ap (λ r. put_at later r (before ++ (n, front ++ []) ∷ after)) (sym none) ∙ acts (front ++ [])
    put_pairs_nil none front (p ∷ ps) =
        let more = next front p ps (pairs_given rule.case key [] ps) []
        (put_pairs_nil none (front ++ p ∷ []) ps) in
        elim (cases_Bool (test p.0)) [
          | inl there ↦ rw there (
              ap (at_section (length before) (λ qs. remove qs (length front))) more
              ∙ out_here front p (pairs_given rule.case key [] ps))
          | inr apart ↦ rw apart more
        ]

    put_pairs : (vs : List Text) (front ps : Pairs) → rest ≡ drop (length (values_at test ps)) vs
        → put_at (from_pair (length front) ps) vs (before ++ (n, front ++ ps) ∷ after)
        ≡ before ++ (n, front ++ pairs_given rule.case key vs ps) ∷ after'
    put_pairs [] front ps is = put_pairs_nil (is ∙ drop_nil (length (values_at test ps))) front ps
    put_pairs (v ∷ vs) front [] is =
        ap (λ r. put_at later r (before ++ (n, front ++ []) ∷ after)) (sym is) ∙ acts (front ++ [])
    put_pairs (v ∷ vs) front (p ∷ ps) is =
        elim (cases_Bool (test p.0)) [
          | inl there ↦
              let more : rest ≡ drop (length (values_at test ps)) vs = rw there at is in
              rw there (
              ap (put_at (from_pair (suc (length front)) ps) vs) (value_here front p ps v)
              ∙ next front (p.0, v) ps (pairs_given rule.case key vs ps) vs
              (put_pairs vs (front ++ (p.0, v) ∷ []) ps more))
          | inr apart ↦
              let more : rest ≡ drop (length (values_at test ps)) (v ∷ vs) = rw apart at is in
              rw apart (
              next front p ps (pairs_given rule.case key (v ∷ vs) ps) (v ∷ vs)
              (put_pairs (v ∷ vs) (front ++ p ∷ []) ps more))
        ]

  -- the sections from one on
  next_section : (sections : SectionRule) (before : Document) (s : Section) (d : Document) (vs : List Text)
      → put_at (numbers_by rule name key sections (length (before ++ s ∷ [])) d) vs
      ((before ++ s ∷ []) ++ d)
      ≡ (before ++ s ∷ []) ++ given_by rule name key sections vs d
      → put_at (numbers_by rule name key sections (suc (length before)) d) vs (before ++ s ∷ d)
      ≡ before ++ s ∷ given_by rule name key sections vs d
  next_section sections before s d vs more =
      ap (λ i. put_at (numbers_by rule name key sections i d) vs (before ++ s ∷ d))
      (sym (one-longer before s))
      ∙ ap (put_at (numbers_by rule name key sections (length (before ++ s ∷ [])) d) vs)
      (sym (moved before s d))
      ∙ more ∙ moved before s (given_by rule name key sections vs d)

  put_sections : (sections : SectionRule) (before d : Document) (vs : List Text)
      → put_at (numbers_by rule name key sections (length before) d) vs (before ++ d)
      ≡ before ++ given_by rule name key sections vs d
  put_sections FirstSection before [] vs = put_none vs (before ++ [])
  put_sections Joined before [] vs = put_none vs (before ++ [])
  put_sections FirstSection before (s ∷ d) vs =
      elim (cases_Bool (name_fits rule.case name s.0)) [
        | inl there ↦ rw there (
            ap (λ l. put_at l vs (before ++ s ∷ d))
            (sym (append-nil (numbers_in rule.case key (length before) 0 s.1)))
            ∙ put_pairs before s.0 [] d d (drop (length (values_at test s.1)) vs)
            (λ qs. put_none (drop (length (values_at test s.1)) vs) (before ++ (s.0, qs) ∷ d))
            vs [] s.1 refl)
        | inr apart ↦ rw apart (
            next_section FirstSection before s d vs (put_sections FirstSection (before ++ s ∷ []) d vs))
      ]
  put_sections Joined before (s ∷ d) vs =
      let rest = drop (length (values_at test s.1)) vs in
      elim (cases_Bool (name_fits rule.case name s.0)) [
        | inl there ↦ rw there (
            put_pairs before s.0 (numbers_by rule name key Joined (suc (length before)) d) d
            (given_by rule name key Joined rest d) rest
            (λ qs. next_section Joined before (s.0, qs) d rest
            (put_sections Joined (before ++ (s.0, qs) ∷ []) d rest)) vs [] s.1 refl)
        | inr apart ↦
            rw apart (next_section Joined before s d vs (put_sections Joined (before ++ s ∷ []) d vs))
      ]

  -- the values that are given, and those that are left
  given_in : (vs : List Text) (ps : Pairs)
      → values_at test (pairs_given rule.case key vs ps) ++ drop (length (values_at test ps)) vs ≡ vs
  given_in [] ps =
      ap (λ l. l ++ drop (length (values_at test ps)) []) (values-without test ps)
      ∙ drop_nil (length (values_at test ps))
  given_in (v ∷ vs) [] = refl
  given_in (v ∷ vs) (p ∷ ps) =
      elim (cases_Bool (test p.0)) [
        | inl there ↦ rw (there, there) (ap (λ l. v ∷ l) (given_in vs ps))
        | inr apart ↦ rw (apart, apart) (given_in (v ∷ vs) ps)
      ]

  abbrev gathered_by : SectionRule → Document → List Text
  gathered_by sections d = gathered sections (name_fits rule.case name) test d

  given_sections : (sections : SectionRule) (vs : List Text) (d : Document)
      → gathered_by sections (given_by rule name key sections vs d)
      ++ drop (length (gathered_by sections d)) vs ≡ vs
  given_sections FirstSection vs [] = refl
  given_sections Joined vs [] = refl
  given_sections FirstSection vs (s ∷ d) =
      elim (cases_Bool (name_fits rule.case name s.0)) [
        | inl there ↦ rw (there, there) (given_in vs s.1)
        | inr apart ↦ rw (apart, apart) (given_sections FirstSection vs d)
      ]
  given_sections Joined vs (s ∷ d) =
      let here = values_at test (pairs_given rule.case key vs s.1) in
      let count = length (values_at test s.1) in
      let later = gathered_by Joined (given_by rule name key Joined (drop count vs) d) in
      elim (cases_Bool (name_fits rule.case name s.0)) [
        | inl there ↦ rw (there, there) (
            ap (λ m. (here ++ later) ++ drop m vs)
            (length-append (values_at test s.1) (gathered_by Joined d))
            ∙ ap (λ l. (here ++ later) ++ l) (drop_add count (length (gathered_by Joined d)) vs)
            ∙ append_assoc here later (drop (length (gathered_by Joined d)) (drop count vs))
            ∙ ap (λ l. here ++ l) (given_sections Joined (drop count vs) d)
            ∙ given_in vs s.1)
        | inr apart ↦ rw (apart, apart) (given_sections Joined vs d)
      ]

  -- a pair more
  module _ (value : Text) where
    new_values : (ps : Pairs) → values_at test (ps ++ (key, value) ∷ []) ≡ values_at test ps ++ value ∷ []
    new_values ps =
        values-append test ps ((key, value) ∷ [])
        ∙ ap (λ l. values_at test ps ++ l) (one-values rule name key value)

    unnamed : (sections : SectionRule) (d : Document) → list_any (is_named rule name) d ≡ false
        → gathered_by sections d ≡ []
    unnamed sections [] none = refl
    unnamed sections (s ∷ d) none = grind (arith, unnamed sections d, none)

    added_first : (d : Document) → list_any (is_named rule name) d ≡ true
        → gathered_by FirstSection (at_first (is_named rule name) (with_new rule key value) d)
        ≡ gathered_by FirstSection d ++ value ∷ []
    added_first [] there = absurd (let no : false ≡ true = there in cc)
    added_first (s ∷ d) there = grind (arith, added_first d, new_values s.1, there)

    added_last : (d : Document) → list_any (is_named rule name) d ≡ true
        → gathered_by Joined (at_last (is_named rule name) (with_new rule key value) d)
        ≡ gathered_by Joined d ++ value ∷ []
    added_last [] there = absurd (let no : false ≡ true = there in cc)
    added_last (s ∷ d) there =
        elim (cases_Bool (list_any (is_named rule name) d)) [
          | inl more ↦ rw more (
              elim (cases_Bool (name_fits rule.case name s.0)) [
                | inl fits ↦ rw fits (
                    ap (λ l. values_at test s.1 ++ l) (added_last d more)
                    ∙ sym (append_assoc (values_at test s.1) (gathered_by Joined d) (value ∷ [])))
                | inr apart ↦ rw apart (added_last d more)
              ])
          | inr last ↦
              let fits : name_fits rule.case name s.0 ≡ true = grind (arith, there, last) in
              rw (last, fits, fits) (
              ap (λ l. values_at test (s.1 ++ (key, value) ∷ []) ++ l) (unnamed Joined d last)
              ∙ append-nil (values_at test (s.1 ++ (key, value) ∷ []))
              ∙ new_values s.1
              ∙ ap (λ l. l ++ value ∷ []) (sym (append-nil (values_at test s.1)))
              ∙ ap (λ l. (values_at test s.1 ++ l) ++ value ∷ []) (sym (unnamed Joined d last)))
        ]

    added_there : (sections : SectionRule) (d : Document) → list_any (is_named rule name) d ≡ true
        → gathered_by sections (add_by rule name key sections value d)
        ≡ gathered_by sections d ++ value ∷ []
    added_there FirstSection d there = added_first d there
    added_there Joined d there = added_last d there

    pub added_values : (d : Document)
        → all_values rule name key (add_under rule name key value d)
        ≡ all_values rule name key d ++ value ∷ []
    added_values d =
        all_values-gathered rule name key (add_under rule name key value d)
        ∙ by
        ∙ ap (λ l. l ++ value ∷ []) (sym (all_values-gathered rule name key d))
      where
        by : gathered_by rule.sections (add_under rule name key value d)
            ≡ gathered_by rule.sections d ++ value ∷ []
        by =
            elim (cases_Bool (list_any (is_named rule name) d)) [
              | inl there ↦ rw there (added_there rule.sections d there)
              | inr none ↦ rw none (
                  gathered-new rule.sections (name_fits rule.case name) test (name, (key, value) ∷ [])
                  (name_fits_itself rule name key) d none
                  ∙ one-values rule name key value
                  ∙ ap (λ l. l ++ value ∷ []) (sym (unnamed rule.sections d none)))
            ]

  added_all : (vs : List Text) (d : Document)
      → all_values rule name key (all_added rule name key vs d) ≡ all_values rule name key d ++ vs
  added_all [] d = sym (append-nil (all_values rule name key d))
  added_all (v ∷ vs) d =
      added_all vs (add_under rule name key v d)
      ∙ ap (λ l. l ++ vs) (added_values v d)
      ∙ append_assoc (all_values rule name key d) (v ∷ []) vs

  -- the look-up answers the values
  pub set_values : (vs : List Text) (d : Document)
      → all_values rule name key (all_set_under rule name key vs d) ≡ vs
  set_values vs d =
      let given = given_by rule name key rule.sections vs d in
      added_all (drop (length (all_values rule name key d)) vs) given
      ∙ ap (λ l. l ++ drop (length (all_values rule name key d)) vs) (all_values-gathered rule name key given)
      ∙ ap (λ l. gathered_by rule.sections given ++ drop (length l) vs) (all_values-gathered rule name key d)
      ∙ given_sections rule.sections vs d

  -- the edits at the numbers, and the pairs added, are all
  pub put_whole : (vs : List Text) (d : Document)
      → all_added rule name key (drop (length (numbers_under rule name key d)) vs)
      (taken_out (drop (length vs) (numbers_under rule name key d))
      (values_put (numbers_under rule name key d) vs d))
      ≡ all_set_under rule name key vs d
  put_whole vs d =
      ap (all_added rule name key (drop (length (numbers_under rule name key d)) vs))
      (put_sections rule.sections [] d vs)
      ∙ ap (λ m. all_added rule name key (drop m vs) (given_by rule name key rule.sections vs d))
      (count_under rule name key d)

-- what stays as it was, for another name n or another key k
module _ (rule : Lookup) (name : Option Text) (key : Text) (n : Option Text) (k : Text)
    (apart : (name_fits rule.case n name && text_fits rule.case k key) ≡ false) where
  abbrev other_name : Option Text → Bool
  other_name m = name_fits rule.case n m

  abbrev other_test : Text → Bool
  other_test j = text_fits rule.case k j

  kept_pairs : text_fits rule.case k key ≡ false → (vs : List Text) (ps : Pairs)
      → values_at other_test (pairs_given rule.case key vs ps) ≡ values_at other_test ps
  kept_pairs away [] ps =
      others-without (text_fits rule.case key) other_test (keys_apart rule name key n k apart away) ps
  kept_pairs away (v ∷ vs) [] = refl
  kept_pairs away (v ∷ vs) (p ∷ ps) =
      grind (
        arith,
        kept_pairs away vs ps,
        kept_pairs away (v ∷ vs) ps,
        keys_apart rule name key n k apart away p.0,
      )

  keeps_given : (vs : List Text) (s : Section) → is_named rule name s ≡ true
      → Keeps other_name other_test (λ t. (t.0, pairs_given rule.case key vs t.1)) s
  keeps_given vs s there = record {
    name = refl;
    values = λ both. kept_pairs (other_key rule name key n k apart s.0 there both) vs s.1;
  }

  abbrev gathered_other : SectionRule → Document → List Text
  gathered_other sections d = gathered sections other_name other_test d

  kept_sections : (sections : SectionRule) (vs : List Text) (d : Document)
      → gathered_other sections (given_by rule name key sections vs d) ≡ gathered_other sections d
  kept_sections FirstSection vs d =
      gathered-first FirstSection other_name other_test (is_named rule name)
      (λ s. (s.0, pairs_given rule.case key vs s.1)) (keeps_given vs) d
  kept_sections Joined vs [] = refl
  kept_sections Joined vs (s ∷ d) =
      let count = length (values_at (text_fits rule.case key) s.1) in
      elim (cases_Bool (name_fits rule.case name s.0)) [
        | inl there ↦ rw there (
            elim (cases_Bool (other_name s.0)) [
              | inl both ↦ rw both (
                  ap (λ l. l ++ gathered_other Joined (given_by rule name key Joined (drop count vs) d))
                  (kept_pairs (other_key rule name key n k apart s.0 there both) vs s.1)
                  ∙ ap (λ l. values_at other_test s.1 ++ l) (kept_sections Joined (drop count vs) d))
              | inr one ↦ rw one (kept_sections Joined (drop count vs) d)
            ])
        | inr away ↦ rw away (
            ap (λ l. cond (other_name s.0) (values_at other_test s.1 ++ l) l) (kept_sections Joined vs d))
      ]

  module _ (value : Text) where
    keeps_new : (s : Section) → is_named rule name s ≡ true
        → Keeps other_name other_test (with_new rule key value) s
    keeps_new s there = record {
      name = refl;
      values = λ both.
          values-append other_test s.1 ((key, value) ∷ [])
          ∙ ap (λ l. values_at other_test s.1 ++ l)
          (one-none rule name key n k apart value (other_key rule name key n k apart s.0 there both))
          ∙ append-nil (values_at other_test s.1);
    }

    kept_by : (sections : SectionRule) (d : Document)
        → gathered_other sections (add_by rule name key sections value d) ≡ gathered_other sections d
    kept_by FirstSection d =
        gathered-first FirstSection other_name other_test (is_named rule name) (with_new rule key value)
        keeps_new d
    kept_by Joined d =
        gathered-last Joined other_name other_test (is_named rule name) (with_new rule key value) keeps_new d

    kept_added : (d : Document)
        → all_values rule n k (add_under rule name key value d) ≡ all_values rule n k d
    kept_added d =
        all_values-gathered rule n k (add_under rule name key value d) ∙ by
        ∙ sym (all_values-gathered rule n k d)
      where
        by : gathered_other rule.sections (add_under rule name key value d)
            ≡ gathered_other rule.sections d
        by =
            elim (cases_Bool (list_any (is_named rule name) d)) [
              | inl there ↦ rw there (kept_by rule.sections d)
              | inr none ↦ rw none (new-same rule name key n k apart value rule.sections d)
            ]

  kept_all : (vs : List Text) (d : Document)
      → all_values rule n k (all_added rule name key vs d) ≡ all_values rule n k d
  kept_all [] d = refl
  kept_all (v ∷ vs) d = kept_all vs (add_under rule name key v d) ∙ kept_added v d

  kept_whole : (vs : List Text) (d : Document)
      → all_values rule n k (all_set_under rule name key vs d) ≡ all_values rule n k d
  kept_whole vs d =
      let given = given_by rule name key rule.sections vs d in
      kept_all (drop (length (all_values rule name key d)) vs) given
      ∙ all_values-gathered rule n k given
      ∙ kept_sections rule.sections vs d
      ∙ sym (all_values-gathered rule n k d)

pub set_keeps : (rule : Lookup) (name : Option Text) (key : Text) (vs : List Text)
    → KeepsOtherLookups rule name key (all_set_under rule name key vs)
set_keeps rule name key vs n k d apart = kept_whole rule name key n k apart vs d
