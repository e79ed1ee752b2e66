-- The settings of a document are those that a look-up answers.
use Rattle.std.proofs.Common.{◌≡◌, ◌∙◌, ap, sym, refl, inl, inr, Bool, true, false, ◌&&◌, ◌||◌, List, [], ◌∷◌}
use Rattle.std.proofs.Common.{◌++◌, map, Option, None, Some, is_some, unwrap_or, option_and_then, flat_map}
use Rattle.std.proofs.lemmas.Bool.{cases_Bool, cond_both}
use Rattle.std.proofs.lemmas.List.Folds.{list_any-append}
use Rattle.std.specs.Cmp.Lexicographic.{nat_list_eq_equiv, options_equiv}
use Rattle.std.specs.List.{list_any}
use Rattle.std.specs.Map.{lookup}
use Rattle.ini_multimap.specs.Pairs.{fresh}
use Rattle.ini.specs.Documents.{Document, first_section, names, value_in}
use Rattle.ini.specs.Properties.{Pairs, distinct, first_value}
use Rattle.ini.specs.Texts.{Text, is_name, is_text}
use Rattle.ini.proofs.KeepingLemmas.{name_refl, names_equal, text_refl, texts_equal}
use Rattle.ini_layers.specs.Settings.{Setting, is_setting, settings, settings_in}

pub text_flips : (t u : Text) → is_text t u ≡ is_text u t
text_flips = nat_list_eq_equiv.symm

pub name_flips : (m n : Option Text) → is_name m n ≡ is_name n m
name_flips = (options_equiv nat_list_eq_equiv).symm

module _ {K V : Type 0} (eq : K → K → Bool) (equal : (a b : K) → eq a b ≡ true → a ≡ b)
    (flips : (a b : K) → eq a b ≡ eq b a) where
  -- the keys that are new after others have one that is none of those, where a look-up finds it
  has-fresh : (q : K) (seen ps : List (K × V)) → list_any (λ s. eq s.0 q) seen ≡ false
      → list_any (eq q) (fresh eq seen ps) ≡ is_some (lookup (eq q) ps)
  has-fresh q seen [] unseen = refl
  has-fresh q seen (p ∷ ps) unseen =
      elim (cases_Bool (eq q p.0)) [
        | inl same ↦
            let new : list_any (λ s. eq s.0 p.0) seen ≡ false =
            ap (λ k. list_any (λ s. eq s.0 k) seen) (sym (equal q p.0 same)) ∙ unseen in
            rw (new, same) refl
        | inr apart ↦
            let unlike : eq p.0 q ≡ false = flips p.0 q ∙ apart in
            let still : list_any (λ s. eq s.0 q) (seen ++ p ∷ []) ≡ false =
            list_any-append (λ s. eq s.0 q) seen (p ∷ []) ∙ rw (unseen, unlike) refl in
            let later = has-fresh q (seen ++ p ∷ []) ps still in
            cond_both (list_any (λ s. eq s.0 p.0) seen) _ _
            (λ l. list_any (eq q) l ≡ is_some (lookup (eq q) (p ∷ ps)))
            (λ _. rw apart later) (λ _. rw apart later)
      ]

and_or : (b x y : Bool) → ((b && x) || (b && y)) ≡ (b && (x || y))
and_or true x y = refl
and_or false x y = refl

and_none : (b : Bool) → (b && false) ≡ false
and_none true = refl
and_none false = refl

absorbed : (x a : Bool) → (x || (a && x)) ≡ x
absorbed true a = refl
absorbed false a = and_none a

module _ (name : Option Text) (key : Text) where
  -- among those of one section
  has-keys : (m : Option Text) (ks : List Text) → list_any (is_setting (name, key)) (map (λ k. (m, k)) ks)
      ≡ (is_name name m && list_any (is_text key) ks)
  has-keys m [] = sym (and_none (is_name name m))
  has-keys m (k ∷ ks) =
      ap (λ b. (is_name name m && is_text key k) || b) (has-keys m ks)
      ∙ and_or (is_name name m) (is_text key k) (list_any (is_text key) ks)

  module _ (d : Document) where
    has_key : Option Text → Bool
    has_key m = list_any (is_text key) (distinct (unwrap_or (first_section m d) []))

    has_key-is : (m : Option Text) → has_key m
        ≡ list_any (is_text key) (distinct (unwrap_or (first_section m d) []))
    unfolding has_key
    has_key-is m = refl

    one_more : (n : Option Text) (a : Bool)
        → ((is_name name n && has_key n) || (a && has_key name)) ≡ ((is_name name n || a) && has_key name)
    one_more n a =
        elim (cases_Bool (is_name name n)) [
          | inl same ↦
              ap (λ m. (is_name name n && has_key m) || (a && has_key name)) (sym (names_equal name n same))
              ∙ rw same (absorbed (has_key name) a)
          | inr apart ↦ rw apart refl
        ]

    has-names : (ns : List (Option Text)) → list_any (is_setting (name, key)) (flat_map (settings_in d) ns)
        ≡ (list_any (is_name name) ns && has_key name)
    has-names [] = refl
    has-names (n ∷ ns) =
        list_any-append (is_setting (name, key)) (settings_in d n) (flat_map (settings_in d) ns)
        ∙ ap (λ b. list_any (is_setting (name, key)) (settings_in d n) || b) (has-names ns)
        ∙ ap (λ b. b || (list_any (is_name name) ns && has_key name))
        (has-keys n (distinct (unwrap_or (first_section n d) [])) ∙ ap (λ b. is_name name n && b)
        (sym (has_key-is n)))
        ∙ one_more n (list_any (is_name name) ns)

    found : (s : Option Pairs) → (is_some s && is_some (first_value key (unwrap_or s [])))
        ≡ is_some (option_and_then (first_value key) s)
    found None = refl
    found (Some pairs) = refl

    -- a document has a setting where it answers a value of it
    pub has-settings : list_any (is_setting (name, key)) (settings d) ≡ is_some (value_in name key d)
    has-settings =
        has-names (names d)
        ∙ ap (λ b. b && has_key name) (has-fresh is_name names_equal name_flips name [] d refl)
        ∙ ap (λ b. is_some (first_section name d) && b) (has_key-is name
        ∙ has-fresh is_text texts_equal text_flips key [] (unwrap_or (first_section name d) []) refl)
        ∙ found (first_section name d)

pub same_setting : (s : Setting) → is_setting s s ≡ true
same_setting s = rw (name_refl s.0, text_refl s.1) refl

both_true : (a b : Bool) → (a && b) ≡ true → (a ≡ true) × (b ≡ true)
both_true true b is = (refl, is)
both_true false b is = absurd cc

pub settings_equal : (s t : Setting) → is_setting s t ≡ true → s ≡ t
settings_equal s t is =
    let both = both_true (is_name s.0 t.0) (is_text s.1 t.1) is in
    let name : s.0 ≡ t.0 = names_equal s.0 t.0 both.0 in
    let key : s.1 ≡ t.1 = texts_equal s.1 t.1 both.1 in
    λ i. (name i, key i)
