-- Settings of documents that were flattened under a rule: their names and keys are told already, so that
-- changes of them are found by what a name and a key are told as.
use Rattle.std.proofs.Common.{◌≡◌, ◌∙◌, ap, sym, refl, inl, inr, Bool, true, false, cond, ◌&&◌, ◌||◌}
use Rattle.std.proofs.Common.{List, [], ◌∷◌, map, filter, Option, None, is_some}
use Rattle.std.proofs.lemmas.Bool.{and_parts, cases_Bool, false≢true}
use Rattle.std.proofs.lemmas.List.Folds.{list_all-append, list_all-map}
use Rattle.std.specs.List.{list_all, list_any}
use Rattle.ini.specs.Documents.{Document, value_in}
use Rattle.ini.specs.Texts.{Text, is_name, is_text}
use Rattle.ini.proofs.KeepingLemmas.{names_equal, texts_equal}
use Rattle.ini_dialect.specs.Flattened.{told, told_name}
use Rattle.ini_dialect.specs.Lookups.{name_fits, text_fits}
use Rattle.ini_dialect.specs.declared.rule.Lookup.{Lookup}
use Rattle.ini_dialect.proofs.FlattenedLemmas.{flat-answers, lists-answer, names_told, texts_told}
use Rattle.ini_dialect.proofs.FlattenedLemmas.{unlisted_key, unlisted_name, untold_key, untold_name}
use Rattle.ini_layers.specs.Applying.{fits_change, value_after}
use Rattle.ini_layers.specs.Differences.{SettingChange, change_of, difference, differs, is_lost, is_of}
use Rattle.ini_layers.specs.Settings.{AlikeBy, AnswerAlike, Setting, flat_by, is_setting, settings, value_by}
use Rattle.ini_layers.specs.declared.change.SettingValue.{SettingValue}
use Rattle.ini_layers.specs.declared.change.SettingValue.TheVariants.{Counting, List as WholeList}
use Rattle.ini_layers.proofs.SettingLemmas.{has-settings, same_setting}

-- what a flattened document answers
pub flat-by : (which : SettingValue) (rule : Lookup) (d : Document) (name : Option Text) (key : Text)
    → value_in (told_name rule.case name) (told rule.case key) (flat_by which rule d)
    ≡ value_by which rule name key d
flat-by Counting rule d name key = flat-answers rule d name key
flat-by WholeList rule d name key = lists-answer rule d name key

unnamed_by : (which : SettingValue) (rule : Lookup) (name : Option Text) (key : Text) (d : Document)
    → is_name name (told_name rule.case name) ≡ false → value_in name key (flat_by which rule d) ≡ None
unnamed_by Counting rule name key d untold = untold_name rule name key d untold
unnamed_by WholeList rule name key d untold = unlisted_name rule name key d untold

unkeyed_by : (which : SettingValue) (rule : Lookup) (name : Option Text) (key : Text) (d : Document)
    → is_text key (told rule.case key) ≡ false → value_in name key (flat_by which rule d) ≡ None
unkeyed_by Counting rule name key d untold = untold_key rule name key d untold
unkeyed_by WholeList rule name key d untold = unlisted_key rule name key d untold

module _ (which : SettingValue) (rule : Lookup) where
  -- look-ups by names and keys that fit answer the same
  pub alike-after : (name : Option Text) (key : Text) (c : SettingChange) (d : Document)
      → fits_change rule name key c ≡ true
      → value_by which rule name key d ≡ value_by which rule c.name c.key d
  alike-after name key c d fits =
      let both = and_parts (name_fits rule.case name c.name) (text_fits rule.case key c.key) fits in
      let n : told_name rule.case name ≡ told_name rule.case c.name =
      names_equal _ _ (names_told rule.case name c.name ∙ both.0) in
      let k : told rule.case key ≡ told rule.case c.key =
      texts_equal _ _ (texts_told rule.case key c.key ∙ both.1) in
      sym (flat-by which rule d name key)
      ∙ ap (λ m. value_in m (told rule.case key) (flat_by which rule d)) n
      ∙ ap (λ j. value_in (told_name rule.case c.name) j (flat_by which rule d)) k
      ∙ flat-by which rule d c.name c.key

  abbrev told_setting : Setting → Bool
  told_setting s = is_name s.0 (told_name rule.case s.0) && is_text s.1 (told rule.case s.1)

  abbrev pub is_told : SettingChange → Bool
  is_told c = told_setting (c.name, c.key)

  -- the settings of a flattened document
  found-told : (d : Document) (s : Setting)
      → list_any (is_setting s) (settings (flat_by which rule d)) ≡ true → told_setting s ≡ true
  found-told d s found =
      let there : is_some (value_in s.0 s.1 (flat_by which rule d)) ≡ true =
      sym (has-settings s.0 s.1 (flat_by which rule d)) ∙ found in
      elim (cases_Bool (is_name s.0 (told_name rule.case s.0))) [
        | inl n ↦
            elim (cases_Bool (is_text s.1 (told rule.case s.1))) [
              | inl k ↦ rw (n, k) refl
              | inr untold ↦ absurd
                  (false≢true (sym (ap is_some (unkeyed_by which rule s.0 s.1 d untold)) ∙ there))
            ]
        | inr untold ↦ absurd (false≢true (sym (ap is_some (unnamed_by which rule s.0 s.1 d untold)) ∙ there))
      ]

  all-told : (ss : List Setting) → ((s : Setting) → list_any (is_setting s) ss ≡ true → told_setting s ≡ true)
      → list_all told_setting ss ≡ true
  all-told [] each = refl
  all-told (s ∷ ss) each =
      let here : told_setting s ≡ true = each s (rw (same_setting s) refl) in
      let later = all-told ss (λ t found. each t (more t found)) in
      rw (here, later) refl
    where
      or_true : (b : Bool) → (b || true) ≡ true
      or_true true = refl
      or_true false = refl

      more : (t : Setting) → list_any (is_setting t) ss ≡ true → list_any (is_setting t) (s ∷ ss) ≡ true
      more t found = rw found (or_true (is_setting t s))

  pub settings-told : (d : Document) → list_all told_setting (settings (flat_by which rule d)) ≡ true
  settings-told d = all-told (settings (flat_by which rule d)) (found-told d)

  -- so are their changes, and those of them that pass a test
  pub passing-told : (test : SettingChange → Bool) (cs : List SettingChange) → list_all is_told cs ≡ true
      → list_all is_told (filter test cs) ≡ true
  passing-told test [] are = refl
  passing-told test (c ∷ cs) are =
      let both = and_parts (is_told c) (list_all is_told cs) are in
      at (test c) (passing-told test cs both.1)
    where
      at : (b : Bool) → list_all is_told (filter test cs) ≡ true
          → list_all is_told (cond b (c ∷ filter test cs) (filter test cs)) ≡ true
      at true later = rw ((and_parts (is_told c) (list_all is_told cs) are).0, later) refl
      at false later = later

  pub difference-told : (from to : Document)
      → list_all is_told (difference (flat_by which rule from) (flat_by which rule to)) ≡ true
  difference-told from to =
      let ff = flat_by which rule from in
      let ft = flat_by which rule to in
      let changed = map (change_of ff ft) (settings ft) in
      let lost = map (change_of ff ft) (settings ff) in
      let one = passing-told differs changed
      (list_all-map is_told (change_of ff ft) (settings ft) ∙ settings-told to) in
      let other = passing-told is_lost lost
      (list_all-map is_told (change_of ff ft) (settings ff) ∙ settings-told from) in
      list_all-append is_told (filter differs changed) (filter is_lost lost) ∙ rw (one, other) refl

  -- changes that are told change what a name and a key are told as
  fits-told : (name : Option Text) (key : Text) (c : SettingChange) → is_told c ≡ true
      → fits_change rule name key c ≡ is_of (told_name rule.case name) (told rule.case key) c
  fits-told name key c is =
      let both = and_parts (is_name c.name (told_name rule.case c.name))
      (is_text c.key (told rule.case c.key)) is in
      let n : c.name ≡ told_name rule.case c.name = names_equal _ _ both.0 in
      let k : c.key ≡ told rule.case c.key = texts_equal _ _ both.1 in
      ap (λ b. b && text_fits rule.case key c.key) (sym (names_told rule.case name c.name))
      ∙ ap (λ b. is_name (told_name rule.case name) (told_name rule.case c.name) && b)
      (sym (texts_told rule.case key c.key))
      ∙ ap (λ m. is_name (told_name rule.case name) m
      && is_text (told rule.case key) (told rule.case c.key)) (sym n)
      ∙ ap (λ j. is_name (told_name rule.case name) c.name && is_text (told rule.case key) j) (sym k)

  pub after-told : (name : Option Text) (key : Text) (cs : List SettingChange) (value : Option Text)
      → list_all is_told cs ≡ true
      → value_after (fits_change rule name key) cs value
      ≡ value_after (is_of (told_name rule.case name) (told rule.case key)) cs value
  after-told name key [] value are = refl
  after-told name key (c ∷ cs) value are =
      let both = and_parts (is_told c) (list_all is_told cs) are in
      ap (λ b. value_after (fits_change rule name key) cs (cond b c.new value))
      (fits-told name key c both.0)
      ∙ after-told name key cs
      (cond (is_of (told_name rule.case name) (told rule.case key) c) c.new value) both.1

  -- documents that answer alike under the rule do so once they are flattened
  pub alike-flat : (d e : Document) → AlikeBy which rule d e
      → AnswerAlike (flat_by which rule d) (flat_by which rule e)
  alike-flat d e agree name key =
      elim (cases_Bool (is_name name (told_name rule.case name))) [
        | inl n ↦
            elim (cases_Bool (is_text key (told rule.case key))) [
              | inl k ↦
                  let m : name ≡ told_name rule.case name = names_equal _ _ n in
                  let j : key ≡ told rule.case key = texts_equal _ _ k in
                  at d m j ∙ agree name key ∙ sym (at e m j)
              | inr untold ↦ unkeyed_by which rule name key d untold
                  ∙ sym (unkeyed_by which rule name key e untold)
            ]
        | inr untold ↦ unnamed_by which rule name key d untold ∙ sym (unnamed_by which rule name key e untold)
      ]
    where
      at : (x : Document) → name ≡ told_name rule.case name → key ≡ told rule.case key
          → value_in name key (flat_by which rule x) ≡ value_by which rule name key x
      at x m j =
          ap (λ n. value_in n key (flat_by which rule x)) m
          ∙ ap (λ k. value_in (told_name rule.case name) k (flat_by which rule x)) j
          ∙ flat-by which rule x name key
