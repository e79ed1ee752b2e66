-- What look-ups answer in a document that was flattened under a rule.
use Rattle.std.proofs.Common.{◌≡◌, ◌∙◌, Bool, true, false, List, [], ◌∷◌, ◌++◌, fold, map}
use Rattle.std.proofs.Common.{Option, None, Some, ap, append-nil, append_assoc, arith, inl, inr}
use Rattle.std.proofs.Common.{option_and_then, refl, subst, sym, unwrap_or}
use Rattle.std.proofs.lemmas.Bool.{cases_Bool, false≢true}
use Rattle.std.proofs.lemmas.Bool.Decides.{nat_tests}
use Rattle.std.specs.List.{last_or, list_any}
use Rattle.std.specs.Map.{set_value}
use Rattle.std.specs.Option.{option_map, option_or}
use Rattle.ini_multimap.specs.Pairs.{values_at}
use Rattle.ini.specs.Documents.{Document, first_section, value_in}
use Rattle.ini.specs.EditLaws.{values_in}
use Rattle.ini.specs.Edits.{edit_section}
use Rattle.ini.specs.Properties.{Pairs, first_value, values}
use Rattle.ini.specs.Texts.{Text, is_name, is_text}
pub use Rattle.ini.proofs.EditLemmas.{edit_section-last, edit_section-there}
use Rattle.ini.proofs.KeepingLemmas.{first-edited, first-inserted, inserted-there, name_refl, names_equal}
use Rattle.ini.proofs.KeepingLemmas.{text_refl, texts_equal}
use Rattle.ini_dialect.specs.Flattened.{AnswersFlat, AnswersLists, as_lists, collected, flattened, later_by}
use Rattle.ini_dialect.specs.Flattened.{listed, put_by, put_in, put_last, put_list, put_together, told}
use Rattle.ini_dialect.specs.Flattened.{told_name, with_list, with_told}
use Rattle.ini_dialect.specs.Lists.{list_text}
use Rattle.ini_dialect.specs.Lookups.{all_values, counting, joined, name_fits, small, text_fits}
use Rattle.ini_dialect.specs.declared.rule.CaseRule.{CaseRule}
use Rattle.ini_dialect.specs.declared.rule.CaseRule.TheVariants.{Kept, Ignored}
use Rattle.ini_dialect.specs.declared.rule.Lookup.{Lookup}
use Rattle.ini_dialect.specs.declared.rule.SectionRule.{SectionRule}
use Rattle.ini_dialect.specs.declared.rule.SectionRule.TheVariants.{First as FirstSection, Joined}
use Rattle.ini_dialect.specs.declared.rule.ValueRule.{ValueRule}
use Rattle.ini_dialect.specs.declared.rule.ValueRule.TheVariants.{First as FirstValue, Last}
use Rattle.ini_dialect.proofs.PairLemmas.{last_or-append, values-append, values-none}
use Rattle.ini_dialect.proofs.SectionLemmas.{Section, all_values-gathered, gathered, joined-nil}
use Rattle.ini_dialect.proofs.SourceLookupLemmas.{counting-nil}

-- the value that counts of one that may be there, and of later ones
abbrev then_counting : ValueRule → Option Text → List Text → Option Text
then_counting FirstValue o vs = option_or o (counting FirstValue vs)
then_counting Last o vs = last_or o vs

then-nil : (values : ValueRule) (o : Option Text) → then_counting values o [] ≡ o
then-nil FirstValue None = refl
then-nil FirstValue (Some v) = refl
then-nil Last o = refl

then-none : (values : ValueRule) (vs : List Text) → then_counting values None vs ≡ counting values vs
then-none FirstValue vs = refl
then-none Last vs = refl

then-append : (values : ValueRule) (o : Option Text) (vs ws : List Text)
    → then_counting values (then_counting values o vs) ws ≡ then_counting values o (vs ++ ws)
then-append FirstValue None [] ws = refl
then-append FirstValue None (v ∷ vs) ws = refl
then-append FirstValue (Some u) vs ws = refl
then-append Last o vs ws = sym (last_or-append o vs ws)

-- a pair put among others
module _ (k : Text) where
  pub put-here : (values : ValueRule) (value : Text) (ps : Pairs)
      → first_value k (put_by values k value ps) ≡ then_counting values (first_value k ps) (value ∷ [])
  put-here FirstValue value ps = at (first_value k ps) refl
    where
      at : (o : Option Text) → first_value k ps ≡ o → first_value k (put_by FirstValue k value ps)
          ≡ then_counting FirstValue (first_value k ps) (value ∷ [])
      at None is = rw is (inserted-there k value ps)
      at (Some v) is = rw is is
  put-here Last value ps = inserted-there k value ps

  pub put-apart : (values : ValueRule) (key value : Text) (ps : Pairs) → is_text k key ≡ false
      → first_value k (put_by values key value ps) ≡ first_value k ps
  put-apart FirstValue key value ps apart = at (first_value key ps) refl
    where
      at : (o : Option Text) → first_value key ps ≡ o
          → first_value k (put_by FirstValue key value ps) ≡ first_value k ps
      at None is = rw is (first-inserted key k apart value ps)
      at (Some v) is = rw is refl
  put-apart Last key value ps apart = first-inserted key k apart value ps

  last-here : (value : Text) (ps : Pairs) → values k (put_last k value ps) ≡ values k ps ++ value ∷ []
  last-here value ps = values-append (is_text k) ps ((k, value) ∷ []) ∙ rw (text_refl k) refl

  last-apart : (key value : Text) (ps : Pairs) → is_text k key ≡ false
      → values k (put_last key value ps) ≡ values k ps
  last-apart key value ps apart =
      values-append (is_text k) ps ((key, value) ∷ []) ∙ rw apart (append-nil (values k ps))

-- What is seen of a key among pairs, where a pair that is put adds its value to what is seen of its own key,
-- and leaves what is seen of another.
pub record Sees {O : Type 0} (put : Text → Text → Pairs → Pairs) (k : Text) (seen : Pairs → O)
    (more : O → List Text → O) : Type 0 where
  pub none : (o : O) → more o [] ≡ o
  pub append : (o : O) (vs ws : List Text) → more (more o vs) ws ≡ more o (vs ++ ws)
  pub here : (value : Text) (ps : Pairs) → seen (put k value ps) ≡ more (seen ps) (value ∷ [])
  pub apart : (key value : Text) (ps : Pairs) → is_text k key ≡ false → seen (put key value ps) ≡ seen ps

sees-counting : (values : ValueRule) (k : Text)
    → Sees (put_by values) k (first_value k) (then_counting values)
sees-counting values k = record {
  none = then-nil values;
  append = then-append values;
  here = put-here k values;
  apart = put-apart k values;
}

sees-each : (k : Text) → Sees put_last k (values k) (λ vs ws. vs ++ ws)
sees-each k = record { none = append-nil; append = append_assoc; here = last-here k; apart = last-apart k }

-- a section that was edited
edited-here : (name : Option Text) (f : Pairs → Pairs) (new : Pairs) (d : Document)
    → first_section name (edit_section name f ((name, new) ∷ []) d)
    ≡ Some (unwrap_or (option_map f (first_section name d)) new)
edited-here name f new [] = grind (arith, name_refl name)
edited-here name f new (s ∷ d) = grind (arith, edited-here name f new d)

-- pairs put into a section that is there
module _ (put : Text → Text → Pairs → Pairs) (rule : Lookup) (name : Option Text) (pairs there : Pairs)
    (flat : Document) (is : first_section name flat ≡ Some there) where
  put_there : set_value (is_name name) flat
      (later_by rule.sections there (fold (with_told put rule) there pairs)) ≡ put_in put rule name pairs flat
  put_there =
      sym (edit_section-there name (λ ps. later_by rule.sections ps (fold (with_told put rule) ps pairs))
      ((name, fold (with_told put rule) [] pairs) ∷ []) flat there is)

  pub put_first : rule.sections ≡ FirstSection
      → set_value (is_name name) flat there ≡ put_in put rule name pairs flat
  put_first first =
      ap (λ r. set_value (is_name name) flat (later_by r there (fold (with_told put rule) there pairs)))
      (sym first) ∙ put_there

  pub put_joined : rule.sections ≡ Joined
      → set_value (is_name name) flat (fold (with_told put rule) there pairs)
      ≡ put_in put rule name pairs flat
  put_joined joins =
      ap (λ r. set_value (is_name name) flat (later_by r there (fold (with_told put rule) there pairs)))
      (sym joins) ∙ put_there

pub ruleset sections_put = (edit_section-last, put_first, put_joined)

-- pairs, and sections, put one after another
module _ {O : Type 0} (put : Text → Text → Pairs → Pairs) (rule : Lookup) (n : Option Text) (k : Text)
    (seen : Pairs → O) (more : O → List Text → O) (sees : Sees put k seen more) where
  abbrev named : Option Text → Bool
  named m = is_name n (told_name rule.case m)

  abbrev test : Text → Bool
  test j = is_text k (told rule.case j)

  pairs-put : (ps qs : Pairs)
      → seen (fold (with_told put rule) ps qs) ≡ more (seen ps) (values_at test qs)
  pairs-put ps [] = sym (sees.none (seen ps))
  pairs-put ps (q ∷ qs) =
      let later = pairs-put (with_told put rule ps q) qs in
      let vs = values_at test qs in
      elim (cases_Bool (test q.0)) [
        | inl same ↦
            let e : k ≡ told rule.case q.0 = texts_equal k (told rule.case q.0) same in
            let one : seen (with_told put rule ps q) ≡ more (seen ps) (q.1 ∷ []) =
            subst (λ t. seen (put t q.1 ps) ≡ more (seen ps) (q.1 ∷ [])) e (sees.here q.1 ps) in
            later
            ∙ ap (λ o. more o vs) one
            ∙ sees.append (seen ps) (q.1 ∷ []) vs
            ∙ rw same refl
        | inr apart ↦
            later
            ∙ ap (λ o. more o vs) (sees.apart (told rule.case q.0) q.1 ps apart)
            ∙ rw apart refl
      ]

  abbrev together : SectionRule → Section → Pairs → Pairs
  together sections s ps = later_by sections ps (fold (with_told put rule) ps s.1)

  abbrev put_section : SectionRule → Document → Section → Document
  put_section sections flat s =
      edit_section (told_name rule.case s.0) (together sections s)
      ((told_name rule.case s.0, fold (with_told put rule) [] s.1) ∷ []) flat

  -- what is seen in a section that may be there
  abbrev pub seen_in : Option Pairs → O
  seen_in None = seen []
  seen_in (Some ps) = seen ps

  -- what is seen once it is followed by these values
  abbrev after : SectionRule → Option Pairs → List Text → O
  after sections None vs = more (seen []) vs
  after FirstSection (Some ps) vs = seen ps
  after Joined (Some ps) vs = more (seen ps) vs

  after-nil : (sections : SectionRule) (o : Option Pairs) → seen_in o ≡ after sections o []
  after-nil sections None = sym (sees.none (seen []))
  after-nil FirstSection (Some ps) = refl
  after-nil Joined (Some ps) = sym (sees.none (seen ps))

  after-put : (sections : SectionRule) (o : Option Pairs) (s : Section) (vs : List Text)
      → after sections
      (Some (unwrap_or (option_map (together sections s) o) (fold (with_told put rule) [] s.1))) vs
      ≡ after sections o (joined sections (values_at test s.1) vs)
  after-put FirstSection None s vs = pairs-put [] s.1
  after-put FirstSection (Some ps) s vs = refl
  after-put Joined None s vs =
      ap (λ o. more o vs) (pairs-put [] s.1) ∙ sees.append (seen []) (values_at test s.1) vs
  after-put Joined (Some ps) s vs =
      ap (λ o. more o vs) (pairs-put ps s.1) ∙ sees.append (seen ps) (values_at test s.1) vs

  pub in_flat : (sections : SectionRule) (d flat : Document)
      → seen_in (first_section n (fold (put_section sections) flat d))
      ≡ after sections (first_section n flat) (gathered sections named test d)
  in_flat sections [] flat = after-nil sections (first_section n flat)
  in_flat sections (s ∷ d) flat =
      let m = told_name rule.case s.0 in
      let new = fold (with_told put rule) [] s.1 in
      let vs = gathered sections named test d in
      let later = in_flat sections d (put_section sections flat s) in
      elim (cases_Bool (named s.0)) [
        | inl same ↦
            let here : first_section n (put_section sections flat s)
            ≡ Some (unwrap_or (option_map (together sections s) (first_section n flat)) new) =
            subst (λ (x : Option Text). first_section n (edit_section x (together sections s)
            ((x, new) ∷ []) flat)
            ≡ Some (unwrap_or (option_map (together sections s) (first_section n flat)) new))
            (names_equal n m same) (edited-here n (together sections s) new flat) in
            later
            ∙ ap (λ o. after sections o vs) here
            ∙ after-put sections (first_section n flat) s vs
            ∙ rw same refl
        | inr apart ↦
            let none : first_section n ((m, new) ∷ []) ≡ None = rw apart refl in
            later
            ∙ ap (λ o. after sections o vs)
            (first-edited m (together sections s) ((m, new) ∷ []) n none apart flat)
            ∙ rw apart refl
      ]

  -- the whole
  pub in_whole : (d : Document) → seen_in (first_section n (put_together put rule d))
      ≡ more (seen []) (gathered rule.sections named test d)
  in_whole d = in_flat rule.sections d []

-- the values of tests that agree
module _ (sections : SectionRule) (named named_too : Option Text → Bool) (test test_too : Text → Bool)
    (names : (m : Option Text) → named m ≡ named_too m) (keys : (j : Text) → test j ≡ test_too j) where
  values-alike : (ps : Pairs) → values_at test ps ≡ values_at test_too ps
  values-alike [] = refl
  values-alike (p ∷ ps) = grind (arith, keys p.0, values-alike ps)

  gathered-alike : (d : Document)
      → gathered sections named test d ≡ gathered sections named_too test_too d
  gathered-alike [] = refl
  gathered-alike (s ∷ d) = grind (arith, names s.0, values-alike s.1, gathered-alike d)

pub texts_told : (case : CaseRule) (t u : Text) → is_text (told case t) (told case u) ≡ text_fits case t u
texts_told Kept t u = refl
texts_told Ignored t u = refl

pub names_told : (case : CaseRule) (n m : Option Text)
    → is_name (told_name case n) (told_name case m) ≡ name_fits case n m
names_told case None None = refl
names_told case None (Some u) = refl
names_told case (Some t) None = refl
names_told case (Some t) (Some u) = texts_told case t u

module _ (rule : Lookup) (d : Document) where
  abbrev pub told_values : Option Text → Text → List Text
  told_values n k =
      gathered rule.sections (λ m. is_name n (told_name rule.case m)) (λ j. is_text k (told rule.case j)) d

  counting-seen : (k : Text) (o : Option Pairs) → option_and_then (first_value k) o
      ≡ seen_in (put_by rule.values) rule None k (first_value k) (then_counting rule.values)
      (sees-counting rule.values k) o
  counting-seen k None = refl
  counting-seen k (Some ps) = refl

  each-seen : (n : Option Text) (k : Text) (e : Document) → values_in n k e
      ≡ seen_in put_last rule None k (values k) (λ vs ws. vs ++ ws) (sees-each k) (first_section n e)
  each-seen n k e = at (first_section n e) refl
    where
      at : (o : Option Pairs) → first_section n e ≡ o → values_in n k e
          ≡ seen_in put_last rule None k (values k) (λ vs ws. vs ++ ws) (sees-each k) (first_section n e)
      at None is = rw is refl
      at (Some ps) is = rw is refl

  module _ (n : Option Text) (k : Text) where
    pub flat-value : value_in n k (flattened rule d) ≡ counting rule.values (told_values n k)
    flat-value =
        counting-seen k (first_section n (flattened rule d))
        ∙ in_whole (put_by rule.values) rule n k (first_value k) (then_counting rule.values)
        (sees-counting rule.values k) d
        ∙ then-none rule.values (told_values n k)

    pub collected-values : values_in n k (collected rule d) ≡ told_values n k
    collected-values =
        each-seen n k (collected rule d)
        ∙ in_whole put_last rule n k (values k) (λ vs ws. vs ++ ws) (sees-each k) d

  told-all : (name : Option Text) (key : Text)
      → told_values (told_name rule.case name) (told rule.case key) ≡ all_values rule name key d
  told-all name key =
      gathered-alike rule.sections
      (λ m. is_name (told_name rule.case name) (told_name rule.case m)) (name_fits rule.case name)
      (λ j. is_text (told rule.case key) (told rule.case j)) (text_fits rule.case key)
      (names_told rule.case name) (texts_told rule.case key) d
      ∙ sym (all_values-gathered rule name key d)

  pub flat-answers : AnswersFlat rule d (flattened rule d)
  flat-answers name key =
      flat-value (told_name rule.case name) (told rule.case key)
      ∙ ap (counting rule.values) (told-all name key)

-- a section's pairs as lists
module _ (k : Text) (whole : Pairs) where
  abbrev list_when : Bool → Option Text
  list_when true = list_text (values k whole)
  list_when false = None

  list-here : (o : Option Text) (lists : Pairs)
      → first_value k (put_list k o lists) ≡ option_or (first_value k lists) o
  list-here None lists = at (first_value k lists)
    where
      at : (o : Option Text) → o ≡ option_or o None
      at None = refl
      at (Some t) = refl
  list-here (Some list) lists = put-here k FirstValue list lists

  list-apart : (key : Text) (o : Option Text) (lists : Pairs) → is_text k key ≡ false
      → first_value k (put_list key o lists) ≡ first_value k lists
  list-apart key None lists apart = refl
  list-apart key (Some list) lists apart = put-apart k FirstValue key list lists apart

  list-put : (lists ps : Pairs) → first_value k (fold (with_list whole) lists ps)
      ≡ option_or (first_value k lists) (list_when (list_any (λ p. is_text k p.0) ps))
  list-put lists [] = list-here None lists
  list-put lists (p ∷ ps) =
      let later = list-put (with_list whole lists p) ps in
      let there = list_any (λ p. is_text k p.0) ps in
      let list = list_text (values k whole) in
      elim (cases_Bool (is_text k p.0)) [
        | inl same ↦
            let one : first_value k (with_list whole lists p) ≡ option_or (first_value k lists) list =
            subst (λ t. first_value k (put_list t (list_text (values t whole)) lists)
            ≡ option_or (first_value k lists) list)
            (texts_equal k p.0 same) (list-here list lists) in
            later
            ∙ ap (λ o. option_or o (list_when there)) one
            ∙ twice (first_value k lists) list there refl
            ∙ rw same refl
        | inr apart ↦
            later
            ∙ ap (λ o. option_or o (list_when there))
            (list-apart p.0 (list_text (values p.0 whole)) lists apart)
            ∙ rw apart refl
      ]
    where
      twice : (o list : Option Text) (there : Bool) → list_text (values k whole) ≡ list
          → option_or (option_or o list) (list_when there) ≡ option_or o list
      twice (Some t) list there is = refl
      twice None None true is = is
      twice None None false is = refl
      twice None (Some u) there is = refl

  pub list-there : first_value k (as_lists whole) ≡ list_text (values k whole)
  list-there =
      list-put [] whole
      ∙ elim (cases_Bool (list_any (λ p. is_text k p.0) whole)) [
        | inl there ↦ rw there refl
        | inr lacks ↦ rw lacks (ap list_text (sym (values-none (is_text k) whole lacks)))
      ]

lists-in : (n : Option Text) (k : Text) (d : Document)
    → value_in n k (map (λ s. (s.0, as_lists s.1)) d) ≡ list_text (values_in n k d)
lists-in n k [] = refl
lists-in n k (s ∷ d) =
    elim (cases_Bool (is_name n s.0)) [
      | inl same ↦ rw same (list-there k s.1)
      | inr apart ↦ rw apart (lists-in n k d)
    ]

module _ (rule : Lookup) (d : Document) where
  pub listed-value : (n : Option Text) (k : Text)
      → value_in n k (listed rule d) ≡ list_text (told_values rule d n k)
  listed-value n k = lists-in n k (collected rule d) ∙ ap list_text (collected-values rule d n k)

  pub lists-answer : AnswersLists rule d (listed rule d)
  lists-answer name key =
      listed-value (told_name rule.case name) (told rule.case key) ∙ ap list_text (told-all rule d name key)

-- a text that is told already
small-small : (t : Text) → small (small t) ≡ small t
small-small [] = refl
small-small (c ∷ t) = grind (arith, nat_tests, small-small t)

told-told : (case : CaseRule) (t : Text) → told case (told case t) ≡ told case t
told-told Kept t = refl
told-told Ignored t = small-small t

name_told-told : (case : CaseRule) (n : Option Text)
    → told_name case (told_name case n) ≡ told_name case n
name_told-told case None = refl
name_told-told case (Some t) = ap Some (told-told case t)

-- nothing is found by a name or a key that isn't told
module _ (sections : SectionRule) (named : Option Text → Bool) (test : Text → Bool) where
  values-nowhere : ((j : Text) → test j ≡ false) → (ps : Pairs) → values_at test ps ≡ []
  values-nowhere none [] = refl
  values-nowhere none (p ∷ ps) = grind (arith, none p.0, values-nowhere none ps)

  gathered-unnamed : ((m : Option Text) → named m ≡ false) → (d : Document)
      → gathered sections named test d ≡ []
  gathered-unnamed none [] = refl
  gathered-unnamed none (s ∷ d) = grind (arith, none s.0, gathered-unnamed none d)

  gathered-untested : ((j : Text) → test j ≡ false) → (d : Document)
      → gathered sections named test d ≡ []
  gathered-untested none [] = refl
  gathered-untested none (s ∷ d) =
      grind (arith, values-nowhere none s.1, gathered-untested none d, joined-nil sections)

module _ (rule : Lookup) (n : Option Text) (k : Text) (d : Document) where
  untold-name : is_name n (told_name rule.case n) ≡ false → told_values rule d n k ≡ []
  untold-name untold =
      gathered-unnamed rule.sections (λ m. is_name n (told_name rule.case m))
      (λ j. is_text k (told rule.case j)) unlike d
    where
      unlike : (m : Option Text) → is_name n (told_name rule.case m) ≡ false
      unlike m =
          elim (cases_Bool (is_name n (told_name rule.case m))) [
            | inl same ↦
                let e : n ≡ told_name rule.case m = names_equal n (told_name rule.case m) same in
                let back : told_name rule.case n ≡ n =
                ap (told_name rule.case) e ∙ name_told-told rule.case m ∙ sym e in
                let there : is_name n (told_name rule.case n) ≡ true =
                ap (is_name n) back ∙ name_refl n in
                absurd (false≢true (sym untold ∙ there))
            | inr apart ↦ apart
          ]

  untold-key : is_text k (told rule.case k) ≡ false → told_values rule d n k ≡ []
  untold-key untold =
      gathered-untested rule.sections (λ m. is_name n (told_name rule.case m))
      (λ j. is_text k (told rule.case j)) unlike d
    where
      unlike : (j : Text) → is_text k (told rule.case j) ≡ false
      unlike j =
          elim (cases_Bool (is_text k (told rule.case j))) [
            | inl same ↦
                let e : k ≡ told rule.case j = texts_equal k (told rule.case j) same in
                let back : told rule.case k ≡ k =
                ap (told rule.case) e ∙ told-told rule.case j ∙ sym e in
                let there : is_text k (told rule.case k) ≡ true = ap (is_text k) back ∙ text_refl k in
                absurd (false≢true (sym untold ∙ there))
            | inr apart ↦ apart
          ]

  no_values : told_values rule d n k ≡ [] → value_in n k (flattened rule d) ≡ None
  no_values none = flat-value rule d n k ∙ ap (counting rule.values) none ∙ counting-nil rule.values

  pub untold_name : is_name n (told_name rule.case n) ≡ false → value_in n k (flattened rule d) ≡ None
  untold_name untold = no_values (untold-name untold)

  pub untold_key : is_text k (told rule.case k) ≡ false → value_in n k (flattened rule d) ≡ None
  untold_key untold = no_values (untold-key untold)

  pub unlisted_name : is_name n (told_name rule.case n) ≡ false → value_in n k (listed rule d) ≡ None
  unlisted_name untold = listed-value rule d n k ∙ ap list_text (untold-name untold)

  pub unlisted_key : is_text k (told rule.case k) ≡ false → value_in n k (listed rule d) ≡ None
  unlisted_key untold = listed-value rule d n k ∙ ap list_text (untold-key untold)
