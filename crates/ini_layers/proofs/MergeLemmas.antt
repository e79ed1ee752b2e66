-- What look-ups answer after a three-way merge, and which settings are in conflict.
use Rattle.std.proofs.Common.{◌≡◌, ◌∙◌, ◌↔◌, ap, sym, refl, inl, inr, Bool, true, false, cond, not}
use Rattle.std.proofs.Common.{◌&&◌, ◌||◌, List, [], ◌∷◌, ◌++◌, map, filter, Option, None, Some, is_some}
use Rattle.std.proofs.Common.{ℕ, ◌<◌, ◌≤◌, ◌+◌, add-one, get_or, length, take, take-suc}
use Rattle.std.proofs.lemmas.List.{map-append, take_all}
use Rattle.std.proofs.lemmas.Bool.{cases_Bool}
use Rattle.std.proofs.lemmas.List.Elements.{filter-append}
use Rattle.std.proofs.lemmas.List.Folds.{find-append}
use Rattle.std.specs.List.{find}
use Rattle.std.specs.Option.{option_map, option_or}
use Rattle.ini_text.specs.declared.write.option.WriteOption.{WriteOption}
use Rattle.ini.specs.Documents.{Document, value_in}
use Rattle.ini.specs.Texts.{Text, is_name}
use Rattle.ini.proofs.KeepingLemmas.{name_refl, names_equal}
use Rattle.ini_edit.specs.Sources.{Pieces}
use Rattle.ini_dialect.specs.Flattened.{told, told_name}
use Rattle.ini_dialect.specs.declared.rule.Lookup.{Lookup}
use Rattle.ini_layers.specs.Applying.{HasChangedBy, fits_change, value_after}
use Rattle.ini_layers.specs.Differences.{SettingChange, change_of, difference, differs, is_lost, is_of}
use Rattle.ini_layers.specs.Differences.{setting_change}
use Rattle.ini_layers.specs.Merging.{ChangePlaces, HasConflictsOf, HaveNoConflict, IsMergedBy}
use Rattle.ini_layers.specs.Merging.{SettingConflict}
use Rattle.ini_layers.specs.Merging.{chosen, conflicts_of, conflicts_with, is_conflict, is_taken}
use Rattle.ini_layers.specs.Merging.{merged_value, setting_conflict, taken_by, taken_changes, with_theirs}
use Rattle.ini_layers.specs.Settings.{AlikeBy, AnswerAlike, Setting, flat_by, settings, value_by}
use Rattle.ini_layers.specs.SourceChanges.{AreMadeBy}
use Rattle.ini_layers.specs.declared.change.Change.{Change}
use Rattle.ini_layers.specs.declared.change.SettingValue.{SettingValue}
use Rattle.ini_layers.specs.declared.merging.Conflict.{Conflict}
use Rattle.ini_layers.specs.declared.merging.Side.{Side}
use Rattle.ini_layers.specs.declared.merging.Side.TheVariants.{Ours, Theirs}
use Rattle.ini_layers.proofs.AfterLemmas.{after-difference, filter-both, meant-difference}
use Rattle.ini_layers.proofs.DifferenceLemmas.{difference-has, find-listed, none-if-agree}
use Rattle.ini_layers.proofs.SettingLemmas.{has-settings, same_setting}
use Rattle.ini_layers.proofs.ToldLemmas.{after-told, difference-told, flat-by, passing-told}

-- the taken change's value, or theirs, is the merged one
taken-value : (side : Side) (base ours theirs : Option Text)
    → cond (not (is_name base ours) && (not (is_name ours theirs)
    && (is_name base theirs || chosen side true false))) ours theirs
    ≡ merged_value side base ours theirs
taken-value side base ours theirs =
    at side (is_name base ours) (is_name base theirs) (is_name ours theirs) (names_equal ours theirs)
  where
    at : (s : Side) (x z y : Bool) → (y ≡ true → ours ≡ theirs)
        → cond (not x && (not y && (z || chosen s true false))) ours theirs
        ≡ cond x theirs (cond z ours (cond y theirs (chosen s ours theirs)))
    at s true z y same = refl
    at s false true true same = sym (same refl)
    at s false true false same = refl
    at s false false true same = refl
    at Ours false false false same = refl
    at Theirs false false false same = refl

pub taken-merged : (which : SettingValue) (rule : Lookup) (side : Side) (base ours theirs new : Document)
    → HasChangedBy which rule (taken_by which rule side base ours theirs) theirs new
    → IsMergedBy which rule side base ours theirs new
taken-merged which rule side base ours theirs new has name key =
    let n = told_name rule.case name in
    let k = told rule.case key in
    let fb = flat_by which rule base in
    let fo = flat_by which rule ours in
    let ft = flat_by which rule theirs in
    let taken = is_taken side ft in
    let here = flat-by which rule theirs name key in
    let value = value_by which rule name key theirs in
    has name key
    ∙ ap (λ cs. value_after (fits_change rule name key) cs value)
    (meant-difference which rule taken base ours)
    ∙ after-told which rule name key (filter taken (difference fb fo)) value
    (passing-told which rule taken (difference fb fo) (difference-told which rule base ours))
    ∙ after-difference fb fo n k taken value
    ∙ ap (cond (not (is_name (value_in n k fb) (value_in n k fo))
    && taken (change_of fb fo (n, k))) (value_in n k fo)) (sym here)
    ∙ taken-value side (value_in n k fb) (value_in n k fo) (value_in n k ft)
    ∙ ap (λ v. merged_value side v (value_in n k fo) (value_in n k ft)) (flat-by which rule base name key)
    ∙ ap (λ v. merged_value side (value_by which rule name key base) v (value_in n k ft))
    (flat-by which rule ours name key)
    ∙ ap (merged_value side (value_by which rule name key base) (value_by which rule name key ours)) here

-- where theirs is the base the merged value is ours
from_base : (side : Side) (base ours theirs : Option Text) → base ≡ theirs
    → ours ≡ merged_value side base ours theirs
from_base side base ours theirs is =
    at (is_name base ours) (names_equal base ours) (is_name base theirs)
    (ap (is_name base) (sym is) ∙ name_refl base)
  where
    at : (x : Bool) → (x ≡ true → base ≡ ours) → (z : Bool) → z ≡ true
        → ours ≡ cond x theirs (cond z ours (cond (is_name ours theirs) theirs (chosen side ours theirs)))
    at true same z here = sym (same refl) ∙ is
    at false same true here = refl
    at false same false here = absurd cc

pub merged-from_base : (which : SettingValue) (rule : Lookup) (side : Side) (base ours theirs new : Document)
    → IsMergedBy which rule side base ours theirs new → AlikeBy which rule base theirs
    → AlikeBy which rule ours new
merged-from_base which rule side base ours theirs new merged agree name key =
    from_base side (value_by which rule name key base) (value_by which rule name key ours)
    (value_by which rule name key theirs) (agree name key)
    ∙ sym (merged name key)

-- without a conflict it is the same for both ways round
either_way : (s t : Side) (base ours theirs : Option Text) → is_conflict base ours theirs ≡ false
    → merged_value s base ours theirs ≡ merged_value t base theirs ours
either_way s t base ours theirs none =
    at (is_name base ours) (is_name base theirs) (is_name ours theirs) (is_name theirs ours)
    (names_equal base ours) (names_equal base theirs) (names_equal ours theirs)
    (λ is. ap (is_name theirs) is ∙ name_refl theirs) none
  where
    at : (x z y v : Bool) → (x ≡ true → base ≡ ours) → (z ≡ true → base ≡ theirs)
        → (y ≡ true → ours ≡ theirs) → (ours ≡ theirs → v ≡ true) → (not x && (not z && not y)) ≡ false
        → cond x theirs (cond z ours (cond y theirs (chosen s ours theirs)))
        ≡ cond z ours (cond x theirs (cond v ours (chosen t theirs ours)))
    at true true y v bo bt ot vt n = sym (bt refl) ∙ bo refl
    at true false y v bo bt ot vt n = refl
    at false true y v bo bt ot vt n = refl
    at false false true true bo bt ot vt n = sym (ot refl)
    at false false true false bo bt ot vt n = absurd (let no : false ≡ true = vt (ot refl) in cc)
    at false false false v bo bt ot vt n = absurd (let no : true ≡ false = n in cc)

pub change-places : (which : SettingValue) (rule : Lookup) (base ours theirs : Document)
    → ChangePlaces which rule base ours theirs
change-places which rule base ours theirs s t new other none merged also name key =
    merged name key
    ∙ either_way s t (value_by which rule name key base) (value_by which rule name key ours)
    (value_by which rule name key theirs) (no_conflict rule base ours theirs none name key)
    ∙ sym (also name key)
  where
    no_conflict : (rule : Lookup) (b o t : Document)
        → HaveNoConflict (flat_by which rule b) (flat_by which rule o) (flat_by which rule t)
        → (name : Option Text) (key : Text) → is_conflict (value_by which rule name key b)
        (value_by which rule name key o) (value_by which rule name key t) ≡ false
    no_conflict rule b o t none name key =
        rw (
          sym (flat-by which rule b name key),
          sym (flat-by which rule o name key),
          sym (flat-by which rule t name key),
        ) (none (told_name rule.case name) (told rule.case key))

-- where no change is made all stays
pub made-nothing : (which : SettingValue) (rule : Lookup)
    (w : WriteOption) {old new : Pieces} {changes : List SettingChange}
    → AreMadeBy which rule w old changes new → changes ≡ [] → new ≡ old
made-nothing which rule w AreMadeBy.none is = refl
made-nothing which rule w (AreMadeBy.then {changes} c made next) is = absurd (ends changes is)
  where
    ends : (cs : List SettingChange) → cs ++ c ∷ [] ≡ [] → ⊥
    ends [] e = let no : c ∷ [] ≡ [] = e in cc
    ends (d ∷ cs) e = let no : d ∷ (cs ++ c ∷ []) ≡ [] = e in cc

none_left : {X : Type 0} (p : X → Bool) (xs : List X) → xs ≡ [] → filter p xs ≡ []
none_left p xs is = ap (filter p) is

pub taken-none : (side : Side) (base ours theirs : Document) → AnswerAlike base ours
    → taken_changes side base ours theirs ≡ []
taken-none side base ours theirs agree =
    none_left (is_taken side theirs) (difference base ours)
    ((none-if-agree base ours (difference base ours) (difference-has base ours)).1 agree)

-- no change is taken whose new value theirs has
module _ (side : Side) (base ours theirs : Document) (agree : AnswerAlike ours theirs) where
  not_taken : (s : Setting) → is_taken side theirs (change_of base ours s) ≡ false
  not_taken s =
      let same : is_name (value_in s.0 s.1 ours) (value_in s.0 s.1 theirs) ≡ true =
      ap (is_name (value_in s.0 s.1 ours)) (sym (agree s.0 s.1)) ∙ name_refl (value_in s.0 s.1 ours) in
      rw same refl

  none_among : (test : SettingChange → Bool) (ss : List Setting)
      → filter (λ c. test c && is_taken side theirs c) (map (change_of base ours) ss) ≡ []
  none_among test [] = refl
  none_among test (s ∷ ss) =
      at (test (change_of base ours s)) (is_taken side theirs (change_of base ours s)) (not_taken s)
      (none_among test ss)
    where
      at : (b t : Bool) → t ≡ false → {l : List SettingChange} → l ≡ []
          → cond (b && t) (change_of base ours s ∷ l) l ≡ []
      at true true untaken none = absurd cc
      at true false untaken none = none
      at false t untaken none = none

  pub taken-alike : taken_changes side base ours theirs ≡ []
  taken-alike =
      let changed = map (change_of base ours) (settings ours) in
      let lost = map (change_of base ours) (settings base) in
      filter-append (is_taken side theirs) (filter differs changed) (filter is_lost lost)
      ∙ ap (λ l. l ++ filter (is_taken side theirs) (filter is_lost lost))
      (filter-both differs (is_taken side theirs) changed ∙ none_among differs (settings ours))
      ∙ (filter-both is_lost (is_taken side theirs) lost ∙ none_among is_lost (settings base))

-- which conflicts are found
find-map : {X Y : Type 0} (test : Y → Bool) (f : X → Y) (xs : List X)
    → find test (map f xs) ≡ option_map f (find (λ x. test (f x)) xs)
find-map test f [] = refl
find-map test f (x ∷ xs) = at (test (f x)) (find-map test f xs)
  where
    at : (b : Bool) → find test (map f xs) ≡ option_map f (find (λ x. test (f x)) xs)
        → cond b (Some (f x)) (find test (map f xs))
        ≡ option_map f (cond b (Some x) (find (λ x. test (f x)) xs))
    at true later = refl
    at false later = later

-- of two lists, changed settings and lost ones, of which each keeps only the changes that pass
by_values : {C : Type 0} (c : C) (old new : Option Text) (passes : Bool)
    → option_or (cond (is_some new && (not (is_name old new) && passes)) (Some c) None)
    (cond (is_some old && (not (is_some new) && passes)) (Some c) None)
    ≡ cond (not (is_name old new) && passes) (Some c) None
by_values c None None passes = refl
by_values c (Some x) None true = refl
by_values c (Some x) None false = refl
by_values c None (Some y) true = refl
by_values c None (Some y) false = refl
by_values {C} c (Some x) (Some y) passes = at (is_name (Some x) (Some y)) passes
  where
    at : (b p : Bool) → option_or (cond (true && (not b && p)) (Some c) None)
        (cond (true && (not true && p)) (Some c) None) ≡ cond (not b && p) (Some c) None
    at true true = refl
    at true false = refl
    at false true = refl
    at false false = refl

find-passing : (from to : Document) (name : Option Text) (key : Text) (passes : SettingChange → Bool)
    → find (is_of name key) (filter passes (difference from to))
    ≡ cond (not (is_name (value_in name key from) (value_in name key to))
    && passes (change_of from to (name, key))) (Some (change_of from to (name, key))) None
find-passing from to name key passes =
    let c = change_of from to (name, key) in
    let changed = map (change_of from to) (settings to) in
    let lost = map (change_of from to) (settings from) in
    let split : filter passes (difference from to)
    ≡ filter (λ x. differs x && passes x) changed ++ filter (λ x. is_lost x && passes x) lost =
    filter-append passes (filter differs changed) (filter is_lost lost)
    ∙ ap (λ l. l ++ filter passes (filter is_lost lost)) (filter-both differs passes changed)
    ∙ ap (λ l. filter (λ x. differs x && passes x) changed ++ l) (filter-both is_lost passes lost) in
    ap (find (is_of name key)) split
    ∙ find-append (is_of name key) (filter (λ x. differs x && passes x) changed)
    (filter (λ x. is_lost x && passes x) lost)
    ∙ ap (λ o. option_or o (find (is_of name key) (filter (λ x. is_lost x && passes x) lost)))
    (find-listed from to name key (λ x. differs x && passes x) (settings to)
    ∙ ap (λ b. cond (b && (differs c && passes c)) (Some c) None) (has-settings name key to))
    ∙ ap (option_or (cond (is_some (value_in name key to) && (differs c && passes c)) (Some c) None))
    (find-listed from to name key (λ x. is_lost x && passes x) (settings from)
    ∙ ap (λ b. cond (b && (is_lost c && passes c)) (Some c) None) (has-settings name key from))
    ∙ by_values c (value_in name key from) (value_in name key to) (passes c)

-- a conflict differs anyhow
differs_too : (x y z : Bool) → (not x && (not x && (not z && not y))) ≡ (not x && (not z && not y))
differs_too true y z = refl
differs_too false y z = refl

pub conflicts-have : (base ours theirs : Document)
    → HasConflictsOf base ours theirs (conflicts_of base ours theirs)
conflicts-have base ours theirs name key =
    let b = value_in name key base in
    let o = value_in name key ours in
    let t = value_in name key theirs in
    let c = change_of base ours (name, key) in
    find-map (λ (x : SettingConflict). is_of name key x.change) (with_theirs theirs)
    (filter (conflicts_with theirs) (difference base ours))
    ∙ ap (option_map (with_theirs theirs)) (find-passing base ours name key (conflicts_with theirs)
    ∙ ap (λ q. cond q (Some c) None) (differs_too (is_name b o) (is_name o t) (is_name b t)))
    ∙ mapped (is_conflict b o t) c
  where
    mapped : (q : Bool) (c : SettingChange) → option_map (with_theirs theirs) (cond q (Some c) None)
        ≡ cond q (Some (with_theirs theirs c)) None
    mapped true c = refl
    mapped false c = refl

-- none is listed where there is none
module _ (base ours theirs : Document) where
  none_of : (cs : List SettingConflict)
      → ((name : Option Text) (key : Text) → find (λ c. is_of name key c.change) cs ≡ None) → cs ≡ []
  none_of [] none = refl
  none_of (c ∷ cs) none =
      let no : Some c ≡ None =
      rw (same_setting (c.change.name, c.change.key)) at (none c.change.name c.change.key) in absurd cc

  none_shown : (cs : List Conflict) → map setting_conflict cs ≡ [] → cs ≡ []
  none_shown [] is = refl
  none_shown (c ∷ cs) is = absurd cc

  free : (cs : List SettingConflict) → HasConflictsOf base ours theirs cs → cs ≡ []
      → HaveNoConflict base ours theirs
  free cs has is name key =
      elim (cases_Bool (is_conflict (value_in name key base) (value_in name key ours)
      (value_in name key theirs))) [
        | inl there ↦
            let none : find (λ c. is_of name key c.change) cs ≡ None =
            ap (find (λ c. is_of name key c.change)) is in
            let one : find (λ c. is_of name key c.change) cs
            ≡ Some (with_theirs theirs (change_of base ours (name, key))) =
            rw there at (has name key) in absurd cc
        | inr apart ↦ apart
      ]

  pub conflicts-none : (cs : List Conflict) → HasConflictsOf base ours theirs (map setting_conflict cs)
      → (cs ≡ []) ↔ HaveNoConflict base ours theirs
  conflicts-none cs has = (
    λ is. free (map setting_conflict cs) has (ap (map setting_conflict) is),
    λ none.
        none_shown cs
        (none_of (map setting_conflict cs) (λ name key. has name key ∙ rw (none name key) refl)),
  )

-- what passes of the changes up to one more
module _ (p : SettingChange → Bool) (changes : List Change) (i : ℕ) (d : Change)
    (within : i < length changes) where
  one_passes : filter p (map setting_change (take (i + 1) changes))
      ≡ filter p (map setting_change (take i changes))
      ++ filter p (setting_change (get_or changes i d) ∷ [])
  one_passes =
      rw (add-one, take-suc changes i d within)
      (ap (filter p) (map-append setting_change (take i changes) (get_or changes i d ∷ []))
      ∙ filter-append p (map setting_change (take i changes)) (setting_change (get_or changes i d) ∷ []))

  pub taken-more : (old new : List Change)
      → map setting_change old ≡ filter p (map setting_change (take i changes))
      → map setting_change new
      ≡ map setting_change old ++ filter p (setting_change (get_or changes i d) ∷ [])
      → map setting_change new ≡ filter p (map setting_change (take (i + 1) changes))
  taken-more old new before more =
      more ∙ ap (λ l. l ++ filter p (setting_change (get_or changes i d) ∷ [])) before ∙ sym one_passes

  pub conflicts-more : (f : SettingChange → SettingConflict) (old new : List Conflict)
      → map setting_conflict old ≡ map f (filter p (map setting_change (take i changes)))
      → map setting_conflict new
      ≡ map setting_conflict old ++ map f (filter p (setting_change (get_or changes i d) ∷ []))
      → map setting_conflict new ≡ map f (filter p (map setting_change (take (i + 1) changes)))
  conflicts-more f old new before more =
      more ∙ ap (λ l. l ++ map f (filter p (setting_change (get_or changes i d) ∷ []))) before
      ∙ sym (ap (map f) one_passes
      ∙ map-append f (filter p (map setting_change (take i changes)))
      (filter p (setting_change (get_or changes i d) ∷ [])))

-- once all of them were gone through
module _ (p : SettingChange → Bool) (changes : List Change) (i : ℕ) (past : length changes ≤ i) where
  pub taken-all : (taken : List Change)
      → map setting_change taken ≡ filter p (map setting_change (take i changes))
      → map setting_change taken ≡ filter p (map setting_change changes)
  taken-all taken is = is ∙ ap (λ l. filter p (map setting_change l)) (take_all i changes past)

  pub conflicts-all : (f : SettingChange → SettingConflict) (conflicts : List Conflict)
      → map setting_conflict conflicts ≡ map f (filter p (map setting_change (take i changes)))
      → map setting_conflict conflicts ≡ map f (filter p (map setting_change changes))
  conflicts-all f conflicts is =
      is ∙ ap (λ l. map f (filter p (map setting_change l))) (take_all i changes past)
