-- What look-ups answer after changes: those of a list, and those of the difference of two documents.
use Rattle.std.proofs.Common.{◌≡◌, ◌∙◌, ◌⊎◌, ap, sym, refl, inl, inr, Bool, true, false, cond}
use Rattle.std.proofs.Common.{not, ◌&&◌, ◌||◌, List, [], ◌∷◌, ◌++◌, map, filter, Option, None, Some, is_some}
use Rattle.std.proofs.lemmas.Bool.{cases_Bool, cond_both}
use Rattle.std.proofs.lemmas.List.Elements.{filter-append}
use Rattle.std.proofs.lemmas.List.{map-append}
use Rattle.std.specs.List.{list_all, list_any}
use Rattle.ini.specs.Documents.{Document, value_in}
use Rattle.ini.specs.Texts.{Text, is_name}
use Rattle.ini.proofs.KeepingLemmas.{names_equal}
use Rattle.ini_dialect.specs.Flattened.{listed, told, told_name}
use Rattle.ini_dialect.specs.Lists.{list_text}
use Rattle.ini_dialect.specs.declared.rule.Lookup.{Lookup}
use Rattle.ini_dialect.proofs.FlattenedLemmas.{listed-value, told_values}
use Rattle.ini_dialect.proofs.ListLemmas.{list-back}
use Rattle.ini_layers.specs.Applying.{HasChangedBy, LeadsToBy, fits_change, meant_changes, meant_value}
use Rattle.ini_layers.specs.Applying.{value_after}
use Rattle.ini_layers.specs.Differences.{SettingChange, change_of, difference, differs, is_lost, is_of}
use Rattle.ini_layers.specs.Settings.{Setting, flat_by, is_setting, settings, value_by}
use Rattle.ini_layers.specs.declared.change.SettingValue.{SettingValue}
use Rattle.ini_layers.specs.declared.change.SettingValue.TheVariants.{Counting, List as WholeList}
use Rattle.ini_layers.proofs.SettingLemmas.{has-settings, settings_equal}
use Rattle.ini_layers.proofs.ToldLemmas.{after-told, difference-told, flat-by, is_told}

pub after-append : (of : SettingChange → Bool) (xs ys : List SettingChange) (value : Option Text)
    → value_after of (xs ++ ys) value ≡ value_after of ys (value_after of xs value)
after-append of [] ys value = refl
after-append of (x ∷ xs) ys value = after-append of xs ys (cond (of x) x.new value)

module _ (name : Option Text) (key : Text) where
  module _ (from to : Document) where
    abbrev here : SettingChange
    here = change_of from to (name, key)

    new_or_new : (b : Bool) → cond b (value_in name key to) (value_in name key to) ≡ value_in name key to
    new_or_new true = refl
    new_or_new false = refl

    passed_over : (l t : Bool) (v : Option Text) → t ≡ false → cond (l && t) (value_in name key to) v ≡ v
    passed_over true t v is = rw is refl
    passed_over false t v is = refl

    module _ (test : SettingChange → Bool) where
      -- the new value stands where the setting is among those gone through, and its change passes
      pub after-listed : (ss : List Setting) (value : Option Text)
          → value_after (is_of name key) (filter test (map (change_of from to) ss)) value
          ≡ cond (list_any (is_setting (name, key)) ss && test here) (value_in name key to) value
      after-listed [] value = refl
      after-listed (s ∷ ss) value =
          elim (cases_Bool (is_setting (name, key) s)) [
            | inl same ↦ at_same same (cases_Bool (test here)) (after-listed ss)
            | inr apart ↦
                let others = filter test (map (change_of from to) ss) in
                let rest = list_any (is_setting (name, key)) ss in
                let same : cond (is_of name key (change_of from to s)) (value_in s.0 s.1 to) value ≡ value =
                rw apart refl in
                let all : cond ((is_setting (name, key) s || rest) && test here) (value_in name key to) value
                ≡ cond (rest && test here) (value_in name key to) value = rw apart refl in
                cond_both (test (change_of from to s)) _ _
                (λ l. value_after (is_of name key) l value
                ≡ cond ((is_setting (name, key) s || rest) && test here) (value_in name key to) value)
                (λ _. ap (value_after (is_of name key) others) same ∙ after-listed ss value ∙ sym all)
                (λ _. after-listed ss value ∙ sym all)
          ]
        where
          at_same : is_setting (name, key) s ≡ true → (test here ≡ true) ⊎ (test here ≡ false)
              → ((v : Option Text) → value_after (is_of name key) (filter test (map (change_of from to) ss)) v
              ≡ cond (list_any (is_setting (name, key)) ss && test here) (value_in name key to) v)
              → value_after (is_of name key) (filter test (map (change_of from to) (s ∷ ss))) value
              ≡ cond (list_any (is_setting (name, key)) (s ∷ ss) && test here) (value_in name key to) value
          at_same same (inl passes) later =
              let e : (name, key) ≡ s = settings_equal (name, key) s same in
              let listed : test (change_of from to s) ≡ true =
              ap (λ x. test (change_of from to x)) (sym e) ∙ passes in
              let others = filter test (map (change_of from to) ss) in
              let first : filter test (map (change_of from to) (s ∷ ss)) ≡ change_of from to s ∷ others =
              rw listed refl in
              let taken : cond (is_of name key (change_of from to s)) (value_in s.0 s.1 to) value
              ≡ value_in s.0 s.1 to = rw same refl in
              let new : value_in s.0 s.1 to ≡ value_in name key to =
              ap (λ (x : Setting). value_in x.0 x.1 to) (sym e) in
              let rest = list_any (is_setting (name, key)) ss in
              let all : cond ((is_setting (name, key) s || rest) && test here) (value_in name key to) value
              ≡ value_in name key to = rw (same, passes) refl in
              ap (λ l. value_after (is_of name key) l value) first
              ∙ ap (value_after (is_of name key) others) taken
              ∙ later (value_in s.0 s.1 to)
              ∙ ap (cond (rest && test here) (value_in name key to)) new
              ∙ new_or_new (rest && test here)
              ∙ sym all
          at_same same (inr fails) later =
              let e : (name, key) ≡ s = settings_equal (name, key) s same in
              let unlisted : test (change_of from to s) ≡ false =
              ap (λ x. test (change_of from to x)) (sym e) ∙ fails in
              rw (unlisted, same, fails) (later value ∙ passed_over _ (test here) value fails)

-- Of two lists, changed settings and lost ones, of which each keeps only the changes that pass: where that
-- of the setting passes it has the new value.
by_values : (old new : Option Text) (passes : Bool) (value : Option Text)
    → cond (is_some old && (not (is_some new) && passes)) new
    (cond (is_some new && (not (is_name old new) && passes)) new value)
    ≡ cond (not (is_name old new) && passes) new value
by_values None None passes value = refl
by_values (Some x) None true value = refl
by_values (Some x) None false value = refl
by_values None (Some y) passes value = refl
by_values (Some x) (Some y) passes value = refl

module _ {X : Type 0} (p q : X → Bool) where
  pub filter-both : (xs : List X) → filter q (filter p xs) ≡ filter (λ x. p x && q x) xs
  filter-both [] = refl
  filter-both (x ∷ xs) = at (p x) (filter-both xs)
    where
      at : (b : Bool) → filter q (filter p xs) ≡ filter (λ x. p x && q x) xs
          → filter q (cond b (x ∷ filter p xs) (filter p xs))
          ≡ cond (b && q x) (x ∷ filter (λ x. p x && q x) xs) (filter (λ x. p x && q x) xs)
      at true later = ap (λ l. cond (q x) (x ∷ l) l) later
      at false later = later

module _ (from to : Document) (name : Option Text) (key : Text) (passes : SettingChange → Bool) where
  -- the changes of the difference that pass give their settings the second document's values
  pub after-difference : (value : Option Text)
      → value_after (is_of name key) (filter passes (difference from to)) value
      ≡ cond (not (is_name (value_in name key from) (value_in name key to))
      && passes (change_of from to (name, key))) (value_in name key to) value
  after-difference value =
      let c = change_of from to (name, key) in
      let changed = map (change_of from to) (settings to) in
      let lost = map (change_of from to) (settings from) in
      let split : filter passes (difference from to)
      ≡ filter (λ x. differs x && passes x) changed ++ filter (λ x. is_lost x && passes x) lost =
      filter-append passes (filter differs changed) (filter is_lost lost)
      ∙ ap (λ l. l ++ filter passes (filter is_lost lost)) (filter-both differs passes changed)
      ∙ ap (λ l. filter (λ x. differs x && passes x) changed ++ l) (filter-both is_lost passes lost) in
      ap (λ l. value_after (is_of name key) l value) split
      ∙ after-append (is_of name key) (filter (λ x. differs x && passes x) changed)
      (filter (λ x. is_lost x && passes x) lost) value
      ∙ after-listed name key from to (λ x. is_lost x && passes x) (settings from)
      (value_after (is_of name key) (filter (λ x. differs x && passes x) changed) value)
      ∙ ap (λ b. cond (b && (is_lost c && passes c)) (value_in name key to)
      (value_after (is_of name key) (filter (λ x. differs x && passes x) changed) value))
      (has-settings name key from)
      ∙ ap (cond (is_some (value_in name key from) && (is_lost c && passes c)) (value_in name key to))
      (after-listed name key from to (λ x. differs x && passes x) (settings to) value
      ∙ ap (λ b. cond (b && (differs c && passes c)) (value_in name key to) value)
      (has-settings name key to))
      ∙ by_values (value_in name key from) (value_in name key to) (passes c) value

filter-all : {X : Type 0} (xs : List X) → filter (λ x. true) xs ≡ xs
filter-all [] = refl
filter-all (x ∷ xs) = ap (λ l. x ∷ l) (filter-all xs)

one_or_other : (old new : Option Text) → cond (not (is_name old new) && true) new old ≡ new
one_or_other old new =
    elim (cases_Bool (is_name old new)) [
      | inl same ↦ rw same (names_equal old new same)
      | inr apart ↦ rw apart refl
    ]

-- the lists of listed documents are read as they are
meant-list : (values : List Text) → meant_value WholeList (list_text values) ≡ list_text values
meant-list values = at (list_text values) refl
  where
    at : (o : Option Text) → list_text values ≡ o → meant_value WholeList o ≡ o
    at None is = refl
    at (Some list) is = ap list_text (list-back values list is) ∙ is

abbrev meant_change : SettingChange → SettingChange
meant_change c = record c { new = meant_value WholeList c.new }

fixed-passing : (test : SettingChange → Bool) (cs : List SettingChange) → map meant_change cs ≡ cs
    → map meant_change (filter test cs) ≡ filter test cs
fixed-passing test [] fixed = refl
fixed-passing test (c ∷ cs) fixed =
    let here : meant_change c ≡ c = cc in
    let rest : map meant_change cs ≡ cs = cc in
    at (test c) here (fixed-passing test cs rest)
  where
    at : (b : Bool) → meant_change c ≡ c → map meant_change (filter test cs) ≡ filter test cs
        → map meant_change (cond b (c ∷ filter test cs) (filter test cs))
        ≡ cond b (c ∷ filter test cs) (filter test cs)
    at true here later = ap (λ x. x ∷ map meant_change (filter test cs)) here ∙ ap (λ l. c ∷ l) later
    at false here later = later

fixed-changes : (rule : Lookup) (from to : Document) (ss : List Setting)
    → map meant_change (map (change_of (listed rule from) (listed rule to)) ss)
    ≡ map (change_of (listed rule from) (listed rule to)) ss
fixed-changes rule from to [] = refl
fixed-changes rule from to (s ∷ ss) =
    let new = listed-value rule to s.0 s.1 in
    let values = told_values rule to s.0 s.1 in
    let here : meant_value WholeList (value_in s.0 s.1 (listed rule to)) ≡ value_in s.0 s.1 (listed rule to) =
    ap (meant_value WholeList) new ∙ meant-list values ∙ sym new in
    ap (λ v. record (change_of (listed rule from) (listed rule to) s) { new = v }
    ∷ map meant_change (map (change_of (listed rule from) (listed rule to)) ss)) here
    ∙ ap (λ l. change_of (listed rule from) (listed rule to) s ∷ l) (fixed-changes rule from to ss)

pub meant-difference : (which : SettingValue) (rule : Lookup) (test : SettingChange → Bool)
    (from to : Document)
    → meant_changes which (filter test (difference (flat_by which rule from) (flat_by which rule to)))
    ≡ filter test (difference (flat_by which rule from) (flat_by which rule to))
meant-difference Counting rule test from to = refl
meant-difference WholeList rule test from to =
    let changed = map (change_of (listed rule from) (listed rule to)) (settings (listed rule to)) in
    let lost = map (change_of (listed rule from) (listed rule to)) (settings (listed rule from)) in
    fixed-passing test (difference (listed rule from) (listed rule to))
    (map-append meant_change (filter differs changed) (filter is_lost lost)
    ∙ ap (λ l. l ++ map meant_change (filter is_lost lost))
    (fixed-passing differs changed (fixed-changes rule from to (settings (listed rule to))))
    ∙ ap (λ l. filter differs changed ++ l)
    (fixed-passing is_lost lost (fixed-changes rule from to (settings (listed rule from)))))

-- what has the changes of a difference looks up as its second document where it did as its first
pub difference-leads : (which : SettingValue) (rule : Lookup) (changes : List SettingChange)
    (old new : Document) → HasChangedBy which rule changes old new → LeadsToBy which rule changes old new
difference-leads which rule changes old new has from to is agree name key =
    let n = told_name rule.case name in
    let k = told rule.case key in
    let ff = flat_by which rule from in
    let ft = flat_by which rule to in
    let value = value_by which rule name key old in
    let all = filter-all (difference ff ft) in
    let here : value ≡ value_in n k ff = agree name key ∙ sym (flat-by which rule from name key) in
    has name key
    ∙ ap (λ cs. value_after (fits_change rule name key) (meant_changes which cs) value) (is ∙ sym all)
    ∙ ap (λ cs. value_after (fits_change rule name key) cs value)
    (meant-difference which rule (λ x. true) from to)
    ∙ after-told which rule name key (filter (λ x. true) (difference ff ft)) value
    (ap (list_all (is_told which rule)) all ∙ difference-told which rule from to)
    ∙ after-difference ff ft n k (λ x. true) value
    ∙ ap (cond (not (is_name (value_in n k ff) (value_in n k ft)) && true) (value_in n k ft)) here
    ∙ one_or_other (value_in n k ff) (value_in n k ft)
    ∙ flat-by which rule to name key
