-- Changes listed pair by pair, each key once.
use Rattle.std.proofs.Common.{◌≡◌, ◌∙◌, ap, sym, refl, subst, inl, inr, Bool, true, false, cond, not, ◌&&◌}
use Rattle.std.proofs.Common.{◌||◌, List, [], ◌∷◌, ◌++◌, map, filter, Option, None, Some, is_some}
use Rattle.std.proofs.Common.{append-nil, append_assoc, option_and_then}
use Rattle.std.proofs.lemmas.Bool.{cases_Bool}
use Rattle.std.proofs.lemmas.List.Folds.{list_any-append}
use Rattle.std.proofs.lemmas.List.Elements.{filter-append}
use Rattle.std.proofs.Math.Bool.{or-false, or-true}
use Rattle.std.proofs.lemmas.List.{map-append}
use Rattle.std.specs.Str.{chars}
use Rattle.std.specs.List.{flat_map, list_any}
use Rattle.ini_multimap.specs.Pairs.{fresh}
use Rattle.ini.specs.Documents.{Document, first_section, names, value_in}
use Rattle.ini.specs.Properties.{Pairs, first_value}
use Rattle.ini.specs.Texts.{Text, is_text}
use Rattle.ini_layers.specs.Settings.{settings, settings_in}
use Rattle.ini_layers.specs.Differences.{SettingChange, change_of, difference, setting_change}
use Rattle.ini_layers.specs.declared.change.Change.{Change}
use Rattle.ini_layers.specs.Inside.Listings.{is_listed, is_new, listed_from, listed_in, listed_under}
use Rattle.ini_layers.specs.Inside.Listings.{with_change, with_seen}
use Rattle.ini_layers.specs.declared.difference.Listing.{Listing}
use Rattle.ini_layers.specs.declared.difference.Listing.TheVariants.{Differing, Lost}
use Rattle.ini.proofs.KeepingLemmas.{text_refl, texts_equal}
use Rattle.ini_layers.proofs.SettingLemmas.{text_flips}

-- the key of a listed change is seen from then on
pub seen_now : (which : Listing) (c : SettingChange) (seen : Pairs) → is_listed which c ≡ true
    → is_some (first_value c.key seen) ≡ false → seen ++ (c.key, chars []) ∷ [] ≡ with_seen which c seen
seen_now which c seen listed new = rw (listed, new) refl

-- a key that is put last is there, and no other more
has-append : (key other value : Text) (ps : Pairs) → is_some (first_value key (ps ++ (other, value) ∷ []))
    ≡ (is_some (first_value key ps) || is_text key other)
has-append key other value [] = at (is_text key other)
  where
    at : (b : Bool) → is_some (cond b (Some value) None) ≡ b
    at true = refl
    at false = refl
has-append key other value (p ∷ ps) =
    elim (cases_Bool (is_text key p.0)) [
      | inl same ↦ rw same refl
      | inr apart ↦ rw apart (has-append key other value ps)
    ]

module _ (which : Listing) (from to : Document) (name : Option Text) where
  abbrev change_at : Text → SettingChange
  change_at key = change_of from to (name, key)

  -- what the pass lists of pairs that follow others
  abbrev pub listed_after : Pairs → Pairs → List SettingChange
  listed_after passed rest =
      filter (is_listed which)
      (map (change_of from to) (map (λ key. (name, key)) (fresh is_text passed rest)))

  -- The pairs before the rest were gone through: with what is listed of the rest the changes are all, and of
  -- the keys of the pairs before it those were seen whose changes are listed.
  pub record ListsKeys (all rest seen : Pairs) (before now : List SettingChange) : Type 0 where
    pub passed : Pairs
    pub listed : now ++ listed_after passed rest ≡ before ++ listed_after [] all
    pub known : (key : Text) → is_some (first_value key seen)
        ≡ (list_any (λ p. is_text p.0 key) passed && is_listed which (change_at key))

  pub lists-begin : (all : Pairs) (before : List SettingChange) → ListsKeys all all [] before before
  lists-begin all before = record { passed = []; listed = refl; known = λ key. refl }

  module _ (all rest seen : Pairs) (p : Text × Text) (before now : List SettingChange)
      (lists : ListsKeys all (p ∷ rest) seen before now) where
    abbrev here : SettingChange
    here = change_at p.0

    abbrev was_passed : Bool
    was_passed = list_any (λ q. is_text q.0 p.0) lists.passed

    -- whether it is new, by whether it is listed and its key was passed
    new-is : is_new which here seen ≡ (is_listed which here && not (was_passed && is_listed which here))
    new-is = ap (λ b. is_listed which here && not b) (lists.known p.0)

    abbrev rest_after : List SettingChange
    rest_after = listed_after (lists.passed ++ p ∷ []) rest

    split_by : (passed listed : Bool) → was_passed ≡ passed → is_listed which here ≡ listed
        → with_change which here seen now ++ rest_after ≡ now ++ listed_after lists.passed (p ∷ rest)
    split_by true true w l = rw (new-is, w, l) refl
    split_by true false w l = rw (new-is, w, l) refl
    split_by false true w l = rw (new-is, w, l) (append_assoc now (here ∷ []) rest_after)
    split_by false false w l = rw (new-is, w, l) refl

    still_seen : (key : Text) → is_text key p.0 ≡ false
        → is_some (first_value key (with_seen which here seen)) ≡ is_some (first_value key seen)
    still_seen key apart = at (is_new which here seen)
      where
        at : (b : Bool) → is_some (first_value key (cond b (seen ++ (p.0, chars []) ∷ []) seen))
            ≡ is_some (first_value key seen)
        at true = has-append key p.0 (chars []) seen ∙ rw apart (or-false (is_some (first_value key seen)))
        at false = refl

    seen_here : (passed listed : Bool) → was_passed ≡ passed → is_listed which here ≡ listed
        → is_some (first_value p.0 (with_seen which here seen)) ≡ is_listed which here
    seen_here true true w l = rw (new-is, w, l) (lists.known p.0 ∙ rw (w, l) refl)
    seen_here true false w l = rw (new-is, w, l) (lists.known p.0 ∙ rw (w, l) refl)
    seen_here false true w l =
        rw (new-is, w, l) (has-append p.0 p.0 (chars []) seen
        ∙ rw (text_refl p.0) (or-true (is_some (first_value p.0 seen))))
    seen_here false false w l = rw (new-is, w, l) (lists.known p.0 ∙ rw w refl)

    known_after : (key : Text) → is_some (first_value key (with_seen which here seen))
        ≡ (list_any (λ q. is_text q.0 key) (lists.passed ++ p ∷ []) && is_listed which (change_at key))
    known_after key =
        elim (cases_Bool (is_text key p.0)) [
          | inl same ↦
              let e : p.0 ≡ key = sym (texts_equal key p.0 same) in
              let among : list_any (λ q. is_text q.0 p.0) (lists.passed ++ p ∷ []) ≡ true =
              list_any-append (λ q. is_text q.0 p.0) lists.passed (p ∷ [])
              ∙ rw (text_refl p.0) (or-true was_passed) in
              subst (λ k. is_some (first_value k (with_seen which here seen))
              ≡ (list_any (λ q. is_text q.0 k) (lists.passed ++ p ∷ []) && is_listed which (change_at k))) e
              (seen_here was_passed (is_listed which here) refl refl
              ∙ sym (ap (λ b. b && is_listed which here) among))
          | inr apart ↦
              let unlike : is_text p.0 key ≡ false = text_flips p.0 key ∙ apart in
              let among : list_any (λ q. is_text q.0 key) (lists.passed ++ p ∷ [])
              ≡ list_any (λ q. is_text q.0 key) lists.passed =
              list_any-append (λ q. is_text q.0 key) lists.passed (p ∷ [])
              ∙ rw unlike (or-false (list_any (λ q. is_text q.0 key) lists.passed)) in
              still_seen key apart ∙ lists.known key
              ∙ sym (ap (λ b. b && is_listed which (change_at key)) among)
        ]

    pub lists-next : ListsKeys all rest (with_seen which here seen) before (with_change which here seen now)
    lists-next = record {
      passed = lists.passed ++ p ∷ [];
      listed = split_by was_passed (is_listed which here) refl refl ∙ lists.listed;
      known = known_after;
    }

  -- the same of a pair that a walk yields, and of the change that is made of it
  pub lists-step : {all it rest seen after : Pairs} {before now new : List SettingChange} (p : Text × Text)
      (c : SettingChange) → it ≡ p ∷ rest → ListsKeys all it seen before now → c ≡ change_at p.0
      → after ≡ with_seen which c seen → new ≡ with_change which c seen now
      → ListsKeys all rest after before new
  lists-step {all} {it} {rest} {seen} {after} {before} {now} {new} p c first lists is seen_is new_is =
      let here : ListsKeys all (p ∷ rest) seen before now =
      subst (λ l. ListsKeys all l seen before now) first lists in
      subst (λ s. ListsKeys all rest s before new) (sym (seen_is ∙ ap (λ x. with_seen which x seen) is))
      (subst (λ n. ListsKeys all rest (with_seen which (change_at p.0) seen) before n)
      (sym (new_is ∙ ap (λ x. with_change which x seen now) is))
      (lists-next all rest seen p before now here))

  -- at the end they are all listed
  pub lists-end : {all it seen : Pairs} {before now : List SettingChange} → it ≡ []
      → ListsKeys all it seen before now → now ≡ before ++ listed_after [] all
  lists-end {all} {it} {seen} {before} {now} none lists =
      sym (append-nil now) ∙ ap (λ l. now ++ listed_after lists.passed l) (sym none) ∙ lists.listed

-- the change that is made of a key and its two values
pub change_made : (from to : Document) (name : Option Text) (key : Text) (old new : Option Text)
    (o n : Option Pairs) → old ≡ option_and_then (first_value key) o
    → new ≡ option_and_then (first_value key) n → o ≡ first_section name from → n ≡ first_section name to
    → record { name = name; key = key; old = old; new = new } ≡ change_of from to (name, key)
change_made from to name key old new o n old_is new_is o_is n_is =
    let first : old ≡ value_in name key from = old_is ∙ ap (option_and_then (first_value key)) o_is in
    let second : new ≡ value_in name key to = new_is ∙ ap (option_and_then (first_value key)) n_is in
    let made : Option Text → Option Text → SettingChange =
    λ a b. record { name = name; key = key; old = a; new = b } in
    λ i. made (first i) (second i)

-- what a pass lists section by section is what it lists of all settings
listed-names : (which : Listing) (from to : Document) (ns : List (Option Text))
    → flat_map (listed_under which from to) ns
    ≡ filter (is_listed which)
    (map (change_of from to) (flat_map (settings_in (listed_in which from to)) ns))
listed-names which from to [] = refl
listed-names which from to (n ∷ ns) =
    ap (λ l. listed_under which from to n ++ l) (listed-names which from to ns)
    ∙ sym (ap (filter (is_listed which)) (map-append (change_of from to)
    (settings_in (listed_in which from to) n) (flat_map (settings_in (listed_in which from to)) ns))
    ∙ filter-append (is_listed which) (map (change_of from to) (settings_in (listed_in which from to) n))
    (map (change_of from to) (flat_map (settings_in (listed_in which from to)) ns)))

pub both_passes : (from to : Document)
    → listed_from Differing from to ++ listed_from Lost from to ≡ difference from to
both_passes from to =
    ap (λ l. l ++ listed_from Lost from to) (listed-names Differing from to (names to))
    ∙ ap (λ l. filter (is_listed Differing) (map (change_of from to) (settings to)) ++ l)
    (listed-names Lost from to (names from))

-- both passes, one after the other, into a list that is empty
pub listed-both : (from to : Document) (none mid all : List Change) → none ≡ []
    → map setting_change mid ≡ map setting_change none ++ listed_from Differing from to
    → map setting_change all ≡ map setting_change mid ++ listed_from Lost from to
    → map setting_change all ≡ difference from to
listed-both from to none mid all empty first second =
    second ∙ ap (λ l. l ++ listed_from Lost from to)
    (first ∙ ap (λ l. map setting_change l ++ listed_from Differing from to) empty)
    ∙ both_passes from to
