-- Items by number, edits of the one that counts, and copies that are edited.
use Rattle.std.proofs.Common.{◌≡◌, ◌∙◌, ℕ, zero, suc, ◌+◌, Bool, true, false, ◌&&◌, cond, not, List, [], ◌∷◌}
use Rattle.std.proofs.Common.{◌++◌, length, Option, None, Some, IfNone, IfSome, ap, arith, refl, sym, subst}
use Rattle.std.proofs.Common.{append_assoc, append-nil, inl, inr, length-append}
use Rattle.std.proofs.lemmas.Bool.{cases_Bool, false≢true}
use Rattle.std.specs.List.{list_any}
use Rattle.ini_multimap.specs.Pairs.{without}
use Rattle.ini.specs.Texts.{Text}
use Rattle.ini.specs.Properties.{Pairs}
use Rattle.ini.specs.Documents.{Document}
use Rattle.ini_edit.specs.SourceEditsAt.{at_index}
use Rattle.ini_dialect.specs.Inside.{IsSettingAt, is_here, less, takes_first, takes_first_value}
use Rattle.ini_dialect.specs.Lookups.{at_counting, at_first, at_last, delete_by, holds_key, is_named}
use Rattle.ini_dialect.specs.Lookups.{name_fits, set_by, text_fits, valued, with_value}
use Rattle.ini_dialect.specs.Numbers.{CountsAt, IsCounting, NonePasses, passes_key}
use Rattle.ini_dialect.specs.declared.rule.Lookup.{Lookup}
use Rattle.ini_dialect.specs.declared.rule.SectionRule.{SectionRule}
use Rattle.ini_dialect.specs.declared.rule.SectionRule.TheVariants.{First as FirstSection, Joined}
use Rattle.ini_dialect.specs.declared.rule.ValueRule.{ValueRule}
use Rattle.ini_dialect.specs.declared.rule.ValueRule.TheVariants.{First as FirstValue, Last}

module _ {X : Type 0} (test : X → Bool) where
  pub any-append : (xs ys : List X) → NonePasses test xs → list_any test (xs ++ ys) ≡ list_any test ys
  any-append [] ys none = refl
  any-append (x ∷ xs) ys none = grind (arith, any-append xs ys)

  pub any-here : (xs : List X) (y : X) (ys : List X) → test y ≡ true → list_any test (xs ++ y ∷ ys) ≡ true
  any-here [] y ys passes = grind (arith, passes)
  any-here (x ∷ xs) y ys passes = grind (arith, any-here xs y ys passes)

  none-more : (xs : List X) (x : X) → NonePasses test xs → test x ≡ false → NonePasses test (xs ++ x ∷ [])
  none-more xs x none fails = any-append xs (x ∷ []) none ∙ grind (arith, fails)

  module _ (f : X → X) where
    pub first-here : (xs : List X) (y : X) (ys : List X) → NonePasses test xs → test y ≡ true
        → at_first test f (xs ++ y ∷ ys) ≡ xs ++ f y ∷ ys
    first-here [] y ys none passes = grind (arith, passes)
    first-here (x ∷ xs) y ys none passes = grind (arith, first-here xs y ys)

    last-here : (xs : List X) (y : X) (ys : List X) → NonePasses test ys → test y ≡ true
        → at_last test f (xs ++ y ∷ ys) ≡ xs ++ f y ∷ ys
    last-here [] y ys none passes = grind (arith, passes, none)
    last-here (x ∷ xs) y ys none passes =
        grind (arith, last-here xs y ys none passes, any-here xs y ys passes)

pub number-here : {X : Type 0} (f : X → X) (xs : List X) (y : X) (ys : List X)
    → at_index (length xs) f (xs ++ y ∷ ys) ≡ xs ++ f y ∷ ys
number-here f [] y ys = refl
number-here f (x ∷ xs) y ys = ap (λ l. x ∷ l) (number-here f xs y ys)

module _ {X : Type 0} {order : ValueRule} {test : X → Bool} {xs : List X} {number : ℕ}
    (counts : CountsAt order test xs number) where
  pub counts-passes : list_any test xs ≡ true
  counts-passes =
      ap (list_any test) counts.split ∙ any-here test counts.before counts.item counts.after counts.passes

  -- an edit at the number is one at the item that counts
  pub counts-edit : (f : X → X) → at_index number f xs ≡ at_counting order test f xs
  counts-edit f =
      ap (λ n. at_index n f xs) counts.place
      ∙ ap (at_index (length counts.before) f) counts.split
      ∙ number-here f counts.before counts.item counts.after
      ∙ sym (here order counts.counts)
      ∙ ap (at_counting order test f) (sym counts.split)
    where
      here : (o : ValueRule) → IsCounting o test counts.before counts.after
          → at_counting o test f (counts.before ++ counts.item ∷ counts.after)
          ≡ counts.before ++ f counts.item ∷ counts.after
      here FirstValue none = first-here test f counts.before counts.item counts.after none counts.passes
      here Last none = last-here test f counts.before counts.item counts.after none counts.passes

-- what a search found among the items that it passed
abbrev pub FoundSoFar : {X : Type 0} → ValueRule → (X → Bool) → List X → Option ℕ → Type 0
FoundSoFar FirstValue test xs None = NonePasses test xs
FoundSoFar FirstValue test xs (Some n) = ⊥
FoundSoFar Last test xs None = NonePasses test xs
FoundSoFar Last test xs (Some n) = CountsAt Last test xs n

-- a search that has `rest` before it
pub record Searches {X : Type 0} (order : ValueRule) (test : X → Bool) (xs rest : List X) (number : ℕ)
    (found : Option ℕ) : Type 0 where
  pub passed : List X
  pub split : xs ≡ passed ++ rest
  pub place : number ≡ length passed
  pub so_far : FoundSoFar order test passed found

module _ {X : Type 0} (test : X → Bool) where
  pub searches-starts : (order : ValueRule) (xs rest : List X) → rest ≡ xs
      → Searches order test xs rest 0 None
  searches-starts order xs rest is = record {
    passed = [];
    split = sym is;
    place = refl;
    so_far = none order;
  }
    where
      none : (o : ValueRule) → FoundSoFar o test [] None
      none FirstValue = refl
      none Last = refl

  -- it ends at an item that counts
  pub searches-finds : (order : ValueRule) (xs left rest : List X) (x : X) (number : ℕ) (found : Option ℕ)
      (passes ends : Bool) → Searches order test xs left number found → left ≡ x ∷ rest → passes ≡ test x
      → ends ≡ (takes_first_value order && passes) → ends ≡ true → CountsAt order test xs number
  searches-finds order xs left rest x number found passes ends searches one is end goes =
      at order found searches.so_far (sym end ∙ goes)
    where
      at : (o : ValueRule) (f : Option ℕ) → FoundSoFar o test searches.passed f
          → (takes_first_value o && passes) ≡ true → CountsAt o test xs number
      at FirstValue None so_far all = record {
        before = searches.passed;
        item = x;
        after = rest;
        split = searches.split ∙ ap (λ l. searches.passed ++ l) one;
        place = searches.place;
        passes = sym is ∙ all;
        counts = so_far;
      }
      at FirstValue (Some n) so_far all = absurd so_far
      at Last f so_far all = absurd (false≢true all)

  found_later : (order : ValueRule) (passed : List X) (x : X) (number : ℕ) (found : Option ℕ) (passes : Bool)
      → FoundSoFar order test passed found → number ≡ length passed → passes ≡ test x
      → (takes_first_value order && passes) ≡ false
      → FoundSoFar order test (passed ++ x ∷ []) (cond passes (Some number) found)
  found_later FirstValue passed x number None true so_far place is goes = absurd (false≢true (sym goes))
  found_later FirstValue passed x number None false so_far place is goes =
      none-more test passed x so_far (sym is)
  found_later FirstValue passed x number (Some n) passes so_far place is goes = absurd so_far
  found_later Last passed x number found true so_far place is goes = record {
    before = passed;
    item = x;
    after = [];
    split = refl;
    place = place;
    passes = sym is;
    counts = refl;
  }
  found_later Last passed x number None false so_far place is goes =
      none-more test passed x so_far (sym is)
  found_later Last passed x number (Some n) false so_far place is goes = record {
    before = so_far.before;
    item = so_far.item;
    after = so_far.after ++ x ∷ [];
    split =
        ap (λ l. l ++ x ∷ []) so_far.split
        ∙ append_assoc so_far.before (so_far.item ∷ so_far.after) (x ∷ []);
    place = so_far.place;
    passes = so_far.passes;
    counts = none-more test so_far.after x so_far.counts (sym is);
  }

  -- it goes on after one that doesn't
  pub searches-goes_on : (order : ValueRule) (xs left rest : List X) (x : X) (number next : ℕ)
      (found later : Option ℕ) (passes ends : Bool) → Searches order test xs left number found
      → left ≡ x ∷ rest → passes ≡ test x → ends ≡ (takes_first_value order && passes) → ends ≡ false
      → next ≡ number + 1 → later ≡ cond passes (Some number) found → Searches order test xs rest next later
  searches-goes_on order xs left rest x number next found later passes ends searches one is end goes step so =
      record {
        passed = searches.passed ++ x ∷ [];
        split =
            searches.split ∙ ap (λ l. searches.passed ++ l) one
            ∙ sym (append_assoc searches.passed (x ∷ []) rest);
        place = omega (arith, step, searches.place, length-append searches.passed (x ∷ []));
        so_far =
            subst (FoundSoFar order test (searches.passed ++ x ∷ [])) (sym so)
            (found_later order searches.passed x number found passes searches.so_far searches.place is
            (sym end ∙ goes));
      }

  -- at the end it has found what counts
  module _ (order : ValueRule) (xs left : List X) (number : ℕ) (found : Option ℕ)
      (searches : Searches order test xs left number found) (all : left ≡ []) where
    all_passed : xs ≡ searches.passed
    all_passed = searches.split ∙ ap (λ l. searches.passed ++ l) all ∙ append-nil searches.passed

    pub searches-ends_found : IfSome found (CountsAt order test xs)
    searches-ends_found =
        subst (λ l. IfSome found (CountsAt order test l)) (sym all_passed) (at order found searches.so_far)
      where
        at : (o : ValueRule) (f : Option ℕ) → FoundSoFar o test searches.passed f
            → IfSome f (CountsAt o test searches.passed)
        at FirstValue None so_far = tt
        at FirstValue (Some n) so_far = absurd so_far
        at Last None so_far = tt
        at Last (Some n) so_far = so_far

    pub searches-ends_none : IfNone found (NonePasses test xs)
    searches-ends_none =
        subst (λ l. IfNone found (NonePasses test l)) (sym all_passed) (at order found searches.so_far)
      where
        at : (o : ValueRule) (f : Option ℕ) → FoundSoFar o test searches.passed f
            → IfNone f (NonePasses test searches.passed)
        at FirstValue None so_far = so_far
        at FirstValue (Some n) so_far = tt
        at Last None so_far = so_far
        at Last (Some n) so_far = tt

-- no item is left where as many were passed as there are
pub none_left : {X : Type 0} (xs : List X) (number len : ℕ) → number + length xs ≡ len → number ≡ len
    → xs ≡ []
none_left [] number len sum all = refl
none_left (x ∷ xs) number len sum all = absurd (omega arith)

-- a copy that comes to the item of a number
abbrev pub at_left : {X : Type 0} → Option ℕ → (X → X) → List X → List X
at_left None f xs = xs
at_left (Some n) f xs = at_index n f xs

pub at_left-nil : {X : Type 0} (left : Option ℕ) (f : X → X) → at_left left f [] ≡ []
at_left-nil None f = refl
at_left-nil (Some zero) f = refl
at_left-nil (Some (suc n)) f = refl

at_left-cons : {X : Type 0} (left : Option ℕ) (f : X → X) (x : X) (xs : List X)
    → at_left left f (x ∷ xs) ≡ cond (is_here left) (f x) x ∷ at_left (less left) f xs
at_left-cons None f x xs = refl
at_left-cons (Some zero) f x xs = refl
at_left-cons (Some (suc n)) f x xs = refl

-- one item more: y was put after what is done, and all is whole with what g makes of the rest
pub copied-more : {X : Type 0} (done done' whole left rest : List X) (y : X) → done ++ left ≡ whole
    → left ≡ y ∷ rest → done' ≡ done ++ y ∷ [] → done' ++ rest ≡ whole
copied-more done done' whole left rest y same one put =
    ap (λ l. l ++ rest) put ∙ append_assoc done (y ∷ []) rest ∙ ap (λ l. done ++ l) (sym one) ∙ same

two_choices : {B C : Type 0} (b : Bool) (g : B → C) (x y z : B) → z ≡ cond b x y
    → cond b (g x) (g y) ≡ g z
two_choices true g x y z is = ap g (sym is)
two_choices false g x y z is = ap g (sym is)

-- an item that changes where its number has come, in its second part
pub number-step : {A B : Type 0} (f : B → B) (before rest : List (A × B)) (left left' : Option ℕ)
    (here : Bool) (a : A) (old new : B) → before ≡ (a, old) ∷ rest → here ≡ is_here left
    → new ≡ cond here (f old) old → left' ≡ less left
    → at_left left (λ p. (p.0, f p.1)) before ≡ (a, new) ∷ at_left left' (λ p. (p.0, f p.1)) rest
number-step f before rest left left' here a old new next now is on =
    ap (at_left left (λ p. (p.0, f p.1))) next
    ∙ at_left-cons left (λ p. (p.0, f p.1)) (a, old) rest
    ∙ ap (λ b. cond b (a, f old) (a, old) ∷ at_left (less left) (λ p. (p.0, f p.1)) rest) (sym now)
    ∙ ap (λ x. x ∷ at_left (less left) (λ p. (p.0, f p.1)) rest)
    (two_choices here (λ v. (a, v)) (f old) old new is)
    ∙ ap (λ l. (a, new) ∷ at_left l (λ p. (p.0, f p.1)) rest) (sym on)

-- a section that loses the key while sections are looked at
module _ (rule : Lookup) (name : Option Text) (key : Text) where
  abbrev pub deleted_while : Bool → Document → Document
  deleted_while looking d = cond looking (delete_by rule name key rule.sections d) d

  by_rule : (sections : SectionRule) (looking : Bool) (other : Option Text) (old : Pairs) (d : Document)
      → cond looking (delete_by rule name key sections ((other, old) ∷ d)) ((other, old) ∷ d)
      ≡ (
        other,
        cond (looking && name_fits rule.case name other) (without (text_fits rule.case key) old) old,
      )
      ∷ cond (looking && not (takes_first sections && name_fits rule.case name other))
      (delete_by rule name key sections d) d
  by_rule sections false other old d = refl
  by_rule FirstSection true other old d =
      elim (cases_Bool (name_fits rule.case name other)) [
        | inl there ↦ rw there refl
        | inr none ↦ rw none refl
      ]
  by_rule Joined true other old d =
      elim (cases_Bool (name_fits rule.case name other)) [
        | inl there ↦ rw there refl
        | inr none ↦ rw none refl
      ]

  pub delete-step : (before rest : Document) (looking looking' named goes : Bool) (other : Option Text)
      (old new : Pairs) → before ≡ (other, old) ∷ rest → named ≡ name_fits rule.case name other
      → goes ≡ (looking && named) → new ≡ cond goes (without (text_fits rule.case key) old) old
      → looking' ≡ (looking && not (takes_first rule.sections && named))
      → deleted_while looking before ≡ (other, new) ∷ deleted_while looking' rest
  delete-step before rest looking looking' named goes other old new next fits both is on =
      ap (deleted_while looking) next
      ∙ by_rule rule.sections looking other old rest
      ∙ ap (λ b.
      (other, cond (looking && b) (without (text_fits rule.case key) old) old)
      ∷ deleted_while (looking && not (takes_first rule.sections && b)) rest) (sym fits)
      ∙ ap (λ b.
      (other, cond b (without (text_fits rule.case key) old) old)
      ∷ deleted_while (looking && not (takes_first rule.sections && named)) rest) (sym both)
      ∙ ap (λ ps. (other, ps) ∷ deleted_while (looking && not (takes_first rule.sections && named)) rest)
      (sym is)
      ∙ ap (λ b. (other, new) ∷ deleted_while b rest) (sym on)

  pub deleted_while-nil : (looking : Bool) → deleted_while looking [] ≡ []
  deleted_while-nil looking = at rule.sections looking
    where
      at : (sections : SectionRule) (looking : Bool)
          → cond looking (delete_by rule name key sections []) [] ≡ []
      at FirstSection true = refl
      at FirstSection false = refl
      at Joined true = refl
      at Joined false = refl

-- the pair that counts, by its number
pub valued-counts : (rule : Lookup) (key value : Text) (ps : Pairs) (number : ℕ)
    → CountsAt rule.values (λ p. text_fits rule.case key p.0) ps number
    → at_index number (λ p. (p.0, value)) ps ≡ valued rule key value ps
valued-counts rule key value ps number counts =
    counts-edit counts (λ p. (p.0, value)) ∙ rw (counts-passes counts) refl

-- where a value is set, section by section
module _ (rule : Lookup) (name : Option Text) (key : Text) (d : Document) where
  abbrev pub named : Option Text × Pairs → Bool
  named s = passes_key rule name None s

  abbrev pub holds : Option Text × Pairs → Bool
  holds s = passes_key rule name (Some key) s

  pub same_test : (s : Option Text × Pairs) → named s ≡ is_named rule name s
  same_test s =
      elim (cases_Bool (is_named rule name s)) [ inl there ↦ rw there refl | inr none ↦ rw none refl ]

  pub same_any : (e : Document) → list_any named e ≡ list_any (is_named rule name) e
  same_any [] = refl
  same_any (s ∷ e) = grind (arith, same_any e, same_test s)

  pub same_edit : (order : ValueRule) (f : Option Text × Pairs → Option Text × Pairs) (e : Document)
      → at_counting order named f e ≡ at_counting order (is_named rule name) f e
  same_edit FirstValue f [] = refl
  same_edit FirstValue f (s ∷ e) = grind (arith, same_edit FirstValue f e, same_test s)
  same_edit Last f [] = refl
  same_edit Last f (s ∷ e) = grind (arith, same_edit Last f e, same_any e, same_test s)

  pub setting-first : (number : ℕ) → rule.sections ≡ FirstSection
      → CountsAt FirstValue named d number → IsSettingAt rule name key d (Some number)
  setting-first number is counts value =
      counts-edit counts (with_value rule key value)
      ∙ same_edit FirstValue (with_value rule key value) d
      ∙ whole rule.sections is (sym (same_any d) ∙ counts-passes counts)
    where
      whole : (sections : SectionRule) → sections ≡ FirstSection → list_any (is_named rule name) d ≡ true
          → at_first (is_named rule name) (with_value rule key value) d
          ≡ set_by rule name key sections value d
      whole FirstSection first there = rw there refl
      whole Joined first there = absurd cc

  pub setting-first_none : rule.sections ≡ FirstSection → NonePasses named d
      → IsSettingAt rule name key d None
  setting-first_none is none value = whole rule.sections is (sym (same_any d) ∙ none)
    where
      whole : (sections : SectionRule) → sections ≡ FirstSection → list_any (is_named rule name) d ≡ false
          → d ++ (name, (key, value) ∷ []) ∷ [] ≡ set_by rule name key sections value d
      whole FirstSection first none = rw none refl
      whole Joined first none = absurd cc

  pub setting-holder : (number : ℕ) → rule.sections ≡ Joined → CountsAt rule.values holds d number
      → IsSettingAt rule name key d (Some number)
  setting-holder number is counts value =
      counts-edit counts (with_value rule key value) ∙ whole rule.sections is (counts-passes counts)
    where
      whole : (sections : SectionRule) → sections ≡ Joined → list_any (holds_key rule name key) d ≡ true
          → at_counting rule.values (holds_key rule name key) (with_value rule key value) d
          ≡ set_by rule name key sections value d
      whole FirstSection joined there = absurd cc
      whole Joined joined there = rw there refl

  pub setting-last : (number : ℕ) → rule.sections ≡ Joined → NonePasses holds d
      → CountsAt Last named d number → IsSettingAt rule name key d (Some number)
  setting-last number is lacks counts value =
      counts-edit counts (with_value rule key value)
      ∙ same_edit Last (with_value rule key value) d
      ∙ whole rule.sections is lacks (sym (same_any d) ∙ counts-passes counts)
    where
      whole : (sections : SectionRule) → sections ≡ Joined → list_any (holds_key rule name key) d ≡ false
          → list_any (is_named rule name) d ≡ true
          → at_last (is_named rule name) (with_value rule key value) d
          ≡ set_by rule name key sections value d
      whole FirstSection joined lacks there = absurd cc
      whole Joined joined lacks there = rw (lacks, there) refl

  pub setting-none : rule.sections ≡ Joined → NonePasses holds d → NonePasses named d
      → IsSettingAt rule name key d None
  setting-none is lacks none value = whole rule.sections is lacks (sym (same_any d) ∙ none)
    where
      whole : (sections : SectionRule) → sections ≡ Joined → list_any (holds_key rule name key) d ≡ false
          → list_any (is_named rule name) d ≡ false
          → d ++ (name, (key, value) ∷ []) ∷ [] ≡ set_by rule name key sections value d
      whole FirstSection joined lacks none = absurd cc
      whole Joined joined lacks none = rw (lacks, none) refl

-- what a search answers
module _ (rule : Lookup) (name : Option Text) (key : Text) (d : Document) where
  pub setting-by_first : (o : Option ℕ) → rule.sections ≡ FirstSection
      → IfSome o (CountsAt FirstValue (named rule name key d) d)
      → IfNone o (NonePasses (named rule name key d) d) → IsSettingAt rule name key d o
  setting-by_first None is found none = setting-first_none rule name key d is none
  setting-by_first (Some n) is found none = setting-first rule name key d n is found

  pub setting-by_last : (o : Option ℕ) → rule.sections ≡ Joined → NonePasses (holds rule name key d) d
      → IfSome o (CountsAt Last (named rule name key d) d)
      → IfNone o (NonePasses (named rule name key d) d) → IsSettingAt rule name key d o
  setting-by_last None is lacks found none = setting-none rule name key d is lacks none
  setting-by_last (Some n) is lacks found none = setting-last rule name key d n is lacks found

pub ruleset edits = (at_left-nil, deleted_while-nil)
