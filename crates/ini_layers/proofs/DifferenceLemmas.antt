-- The difference of two documents has each setting whose values differ, and no other.
use Rattle.std.proofs.Common.{◌≡◌, ◌∙◌, ◌↔◌, ap, sym, refl, inl, inr, Bool, true, false, cond, not, ◌&&◌}
use Rattle.std.proofs.Common.{◌||◌, ◌⊎◌, List, [], ◌∷◌, map, filter, Option, None, Some, is_some}
use Rattle.std.proofs.lemmas.Bool.{cases_Bool, cond_both}
use Rattle.std.proofs.lemmas.List.Folds.{find-append}
use Rattle.std.specs.List.{find, list_any}
use Rattle.std.specs.Option.{option_or}
use Rattle.ini.specs.Documents.{Document, value_in}
use Rattle.ini.specs.Texts.{Text, is_name, is_text}
use Rattle.ini.proofs.KeepingLemmas.{name_refl, names_equal}
use Rattle.ini_layers.specs.Settings.{AnswerAlike, Setting, is_setting, settings}
use Rattle.ini_layers.specs.Differences.{HasChangesOf, SettingChange, change_of, difference, differs, is_lost}
use Rattle.ini_layers.specs.Differences.{is_of, setting_change}
use Rattle.ini_layers.specs.declared.change.Change.{Change}
use Rattle.ini_layers.proofs.SettingLemmas.{has-settings, same_setting, settings_equal}

module _ (from to : Document) (name : Option Text) (key : Text) where
  abbrev here : SettingChange
  here = change_of from to (name, key)

  abbrev found_if : Bool → Option SettingChange
  found_if b = cond b (Some here) None

  passed_over : (l t : Bool) → t ≡ false → found_if (l && t) ≡ None
  passed_over true t is = rw is refl
  passed_over false t is = refl

  module _ (test : SettingChange → Bool) where
    -- the change of the setting is found where the setting is among those gone through, and passes
    pub find-listed : (ss : List Setting) → find (is_of name key) (filter test (map (change_of from to) ss))
        ≡ found_if (list_any (is_setting (name, key)) ss && test here)
    find-listed [] = refl
    find-listed (s ∷ ss) =
        elim (cases_Bool (is_setting (name, key) s)) [
          | inl same ↦ at_same same (cases_Bool (test here)) (find-listed ss)
          | inr apart ↦
              cond_both (test (change_of from to s)) _ _
              (λ l. find (is_of name key) l
              ≡ found_if ((is_setting (name, key) s || list_any (is_setting (name, key)) ss) && test here))
              (λ _. rw apart (find-listed ss)) (λ _. rw apart (find-listed ss))
        ]
      where
        at_same : is_setting (name, key) s ≡ true → (test here ≡ true) ⊎ (test here ≡ false)
            → find (is_of name key) (filter test (map (change_of from to) ss))
            ≡ found_if (list_any (is_setting (name, key)) ss && test here)
            → find (is_of name key) (filter test (map (change_of from to) (s ∷ ss)))
            ≡ found_if (list_any (is_setting (name, key)) (s ∷ ss) && test here)
        at_same same (inl passes) later =
            let e : (name, key) ≡ s = settings_equal (name, key) s same in
            let listed : test (change_of from to s) ≡ true =
            ap (λ x. test (change_of from to x)) (sym e) ∙ passes in
            rw (listed, same, passes) (ap (λ x. Some (change_of from to x)) (sym e))
        at_same same (inr fails) later =
            let e : (name, key) ≡ s = settings_equal (name, key) s same in
            let unlisted : test (change_of from to s) ≡ false =
            ap (λ x. test (change_of from to x)) (sym e) ∙ fails in
            rw (unlisted, same, fails) (later ∙ passed_over _ (test here) fails)

-- either list has the change, or none, by the two values
by_values : {C : Type 0} (c : C) (old new : Option Text)
    → option_or (cond (is_some new && not (is_name old new)) (Some c) None)
    (cond (is_some old && not (is_some new)) (Some c) None)
    ≡ cond (is_name old new) None (Some c)
by_values c None None = refl
by_values c (Some x) None = refl
by_values c None (Some y) = refl
by_values {C} c (Some x) (Some y) = at (is_text x y)
  where
    at : (b : Bool) → option_or (cond (true && not b) (Some c) None) (cond (true && not true) (Some c) None)
        ≡ cond b None (Some c)
    at true = refl
    at false = refl

pub difference-has : (from to : Document) → HasChangesOf from to (difference from to)
difference-has from to name key =
    let c = change_of from to (name, key) in
    find-append (is_of name key) (filter differs (map (change_of from to) (settings to)))
    (filter is_lost (map (change_of from to) (settings from)))
    ∙ ap
    (λ o. option_or o (find (is_of name key) (filter is_lost (map (change_of from to) (settings from)))))
    (find-listed from to name key differs (settings to)
    ∙ ap (λ b. cond (b && differs c) (Some c) None) (has-settings name key to))
    ∙ ap (option_or (cond (is_some (value_in name key to) && differs c) (Some c) None))
    (find-listed from to name key is_lost (settings from)
    ∙ ap (λ b. cond (b && is_lost c) (Some c) None) (has-settings name key from))
    ∙ by_values c (value_in name key from) (value_in name key to)

-- where the changes have none of any setting there are none
none_of : (changes : List SettingChange)
    → ((name : Option Text) (key : Text) → find (is_of name key) changes ≡ None) → changes ≡ []
none_of [] none = refl
none_of (c ∷ changes) none =
    let no : Some c ≡ None = rw (same_setting (c.name, c.key)) at (none c.name c.key) in absurd cc

module _ (from to : Document) (changes : List SettingChange) (has : HasChangesOf from to changes) where
  agreed : changes ≡ [] → AnswerAlike from to
  agreed is name key =
      elim (cases_Bool (is_name (value_in name key from) (value_in name key to))) [
        | inl same ↦ names_equal _ _ same
        | inr apart ↦
            let none : find (is_of name key) changes ≡ None = ap (find (is_of name key)) is in
            let one : find (is_of name key) changes ≡ Some (change_of from to (name, key)) =
            rw apart at (has name key) in absurd cc
      ]

  alike : AnswerAlike from to → changes ≡ []
  alike agree =
      none_of changes (λ name key.
      has name key ∙ rw (agree name key, name_refl (value_in name key to)) refl)

  pub none-if-agree : (changes ≡ []) ↔ AnswerAlike from to
  none-if-agree = (agreed, alike)

-- as many are shown as there are
none_shown : (changes : List Change) → map setting_change changes ≡ [] → changes ≡ []
none_shown [] is = refl
none_shown (c ∷ cs) is = absurd cc

pub none-shown : (from to : Document) (changes : List Change)
    → HasChangesOf from to (map setting_change changes) → (changes ≡ []) ↔ AnswerAlike from to
none-shown from to changes has =
    let both = none-if-agree from to (map setting_change changes) has in
    (λ e. both.0 (ap (map setting_change) e), λ a. none_shown changes (both.1 a))
