-- What a document answers once the keys of a section, of a layer, of all layers were set in it.
use Rattle.std.proofs.Common.{◌≡◌, ◌∙◌, inl, inr, ap, sym, refl, Bool, true, false, cond, ◌||◌, List, [], ◌∷◌}
use Rattle.std.proofs.Common.{◌++◌, fold, Option, None, Some, IsSome, unwrap_or, option_and_then}
use Rattle.std.proofs.lemmas.Bool.{cases_Bool, cond_both, false≢true}
use Rattle.std.proofs.lemmas.List.Folds.{list_any-append}
use Rattle.std.specs.Cmp.Lexicographic.{bytes_decides, nat_list_eq_equiv, options_equiv}
use Rattle.std.specs.List.{filter_map, last_or, list_any}
use Rattle.std.specs.Option.{option_or}
use Rattle.ini_multimap.specs.Pairs.{fresh}
use Rattle.ini.specs.Texts.{Text, is_name, is_text}
use Rattle.ini.specs.Properties.{Pairs, first_value}
use Rattle.ini.specs.Documents.{Document, HasGeneral, first_section, names, value_in}
use Rattle.ini.proofs.EditLawLemmas.{set-keys, set-names, set-there_still}
use Rattle.ini.proofs.KeepingLemmas.{names_equal, set-there}
use Rattle.ini_layers.specs.Layers.{HasLayeredValues}
use Rattle.ini_layers.specs.Layering.{merged, with_key, with_keys, with_layer, with_name}
use Rattle.ini_layers.proofs.LookupLemmas.{last_or-cons}

-- what each step of a fold keeps, the fold keeps
module _ {A B : Type 0} (P : B → Type 0) (f : B → A → B) (keeps : (b : B) (x : A) → P b → P (f b x)) where
  fold-keeps : (b : B) (xs : List A) → P b → P (fold f b xs)
  fold-keeps b [] here = here
  fold-keeps b (x ∷ xs) here = fold-keeps (f b x) xs (keeps b x here)

-- the keys of a section in turn
module _ (name : Option Text) (section : Pairs) where
  -- what a pair's key is set to
  abbrev first_of : Text × Text → Text
  first_of p = unwrap_or (first_value p.0 section) p.1

  -- a key that no pair has keeps its value
  keys-absent : (key : Text) (d : Document) (ps : Pairs) → first_value key ps ≡ None
      → value_in name key (fold (with_key name section) d ps) ≡ value_in name key d
  keys-absent key d [] absent = refl
  keys-absent key d (p ∷ ps) absent =
      elim (cases_Bool (is_text key p.0)) [
        | inl same ↦ let none : Some p.1 ≡ None = rw same at absent in absurd cc
        | inr apart ↦
            keys-absent key (with_key name section d p) ps (rw apart at absent)
            ∙ set-keys name p.0 (first_of p) key d apart
      ]

  -- a key that the section has gets its first value there
  module _ (key value : Text) (there : first_value key section ≡ Some value) where
    abbrev IsSet : Document → Type 0
    IsSet d = value_in name key d ≡ Some value

    key_is_set : (d : Document) (p : Text × Text)
        → is_text key p.0 ≡ true → IsSet (with_key name section d p)
    key_is_set d p same =
        let e : key ≡ p.0 = (bytes_decides key p.0).0 same in
        ap (λ k. value_in name k (with_key name section d p)) e
        ∙ set-there name p.0 (first_of p) d
        ∙ ap (λ k. Some (unwrap_or (first_value k section) p.1)) (sym e)
        ∙ ap (λ v. Some (unwrap_or v p.1)) there

    stays_set : (d : Document) (p : Text × Text) → IsSet d → IsSet (with_key name section d p)
    stays_set d p here =
        elim (cases_Bool (is_text key p.0)) [
          | inl same ↦ key_is_set d p same
          | inr apart ↦ set-keys name p.0 (first_of p) key d apart ∙ here
        ]

    keys-there : (d : Document) (ps : Pairs)
        → IsSome (first_value key ps) → IsSet (fold (with_key name section) d ps)
    keys-there d [] some = absurd (false≢true some)
    keys-there d (p ∷ ps) some =
        elim (cases_Bool (is_text key p.0)) [
          | inl same ↦
              let set = key_is_set d p same in
              fold-keeps IsSet (with_key name section) stays_set (with_key name section d p) ps set
          | inr apart ↦ keys-there (with_key name section d p) ps (rw apart at some)
        ]

  -- the section's first value, or what was there
  with_keys-here : (key : Text) (d : Document)
      → value_in name key (with_keys name section d)
      ≡ option_or (first_value key section) (value_in name key d)
  with_keys-here key d = at (first_value key section) refl
    where
      at : (o : Option Text) → first_value key section ≡ o
          → value_in name key (with_keys name section d) ≡ option_or o (value_in name key d)
      at None absent = keys-absent key d section absent
      at (Some value) there = keys-there key value there d section (rw there refl)

  -- other names keep their sections
  with_keys-elsewhere : (other : Option Text) → is_name other name ≡ false → (d : Document)
      → first_section other (with_keys name section d) ≡ first_section other d
  with_keys-elsewhere other apart d =
      fold-keeps (λ e. first_section other e ≡ first_section other d) (with_key name section)
      (λ e p same. set-names name p.0 (first_of p) other e apart ∙ same) d section refl

  -- a section that is there stays there
  with_keys-keeps : (other : Option Text) (d : Document)
      → IsSome (first_section other d) → IsSome (first_section other (with_keys name section d))
  with_keys-keeps other d =
      fold-keeps (λ e. IsSome (first_section other e)) (with_key name section)
      (λ e p. set-there_still name p.0 (first_of p) other e) d section

-- a value that is put over another one, twice or once
over_twice : (v x : Option Text) → option_or v (option_or v x) ≡ option_or v x
over_twice None x = refl
over_twice (Some t) x = refl

-- one that may be put over another, once and then again
over_again : (a b : Bool) (v x : Option Text)
    → cond b (option_or v (cond a (option_or v x) x)) (cond a (option_or v x) x)
    ≡ cond (a || b) (option_or v x) x
over_again true true v x = over_twice v x
over_again true false v x = refl
over_again false true v x = refl
over_again false false v x = refl

first_value-in : (key : Text) (o : Option Pairs)
    → first_value key (unwrap_or o []) ≡ option_and_then (first_value key) o
first_value-in key None = refl
first_value-in key (Some section) = refl

-- the names of a layer in turn
module _ (name : Option Text) (key : Text) (layer : Document) where
  -- the layer's value over that of a document
  abbrev over : Document → Option Text
  over d = option_or (value_in name key layer) (value_in name key d)

  one_name-value : (d : Document) (n : Option Text)
      → value_in name key (with_name layer d n) ≡ cond (is_name name n) (over d) (value_in name key d)
  one_name-value d n =
      elim (cases_Bool (is_name name n)) [
        | inl same ↦ rw same (
            ap (λ m. value_in name key (with_name layer d m)) (sym (names_equal name n same))
            ∙ with_keys-here name (unwrap_or (first_section name layer) []) key d
            ∙ ap (λ v. option_or v (value_in name key d)) (first_value-in key (first_section name layer)))
        | inr apart ↦ rw apart (
            let stays = with_keys-elsewhere n (unwrap_or (first_section n layer) []) name apart d in
            ap (option_and_then (first_value key)) stays)
      ]

  names-value : (d : Document) (ns : List (Option Text))
      → value_in name key (fold (with_name layer) d ns)
      ≡ cond (list_any (is_name name) ns) (over d) (value_in name key d)
  names-value d [] = refl
  names-value d (n ∷ ns) =
      names-value (with_name layer d n) ns
      ∙ ap (λ x. cond (list_any (is_name name) ns) (option_or (value_in name key layer) x) x)
      (one_name-value d n)
      ∙ over_again (is_name name n) (list_any (is_name name) ns)
      (value_in name key layer) (value_in name key d)

-- the name of a section that is there is listed, unless it was seen
listed : (name : Option Text) (seen d : Document) → list_any (λ s. is_name s.0 name) seen ≡ false
    → IsSome (first_section name d) → list_any (is_name name) (fresh is_name seen d) ≡ true
listed name seen [] unseen there = absurd (false≢true there)
listed name seen (s ∷ d) unseen there =
    elim (cases_Bool (is_name name s.0)) [
      | inl same ↦
          let new : list_any (λ t. is_name t.0 s.0) seen ≡ false =
          ap (λ n. list_any (λ t. is_name t.0 n) seen) (sym (names_equal name s.0 same)) ∙ unseen in
          rw (new, same) refl
      | inr apart ↦
          let unlike : is_name s.0 name ≡ false = (options_equiv nat_list_eq_equiv).symm s.0 name ∙ apart in
          let still : list_any (λ t. is_name t.0 name) (seen ++ s ∷ []) ≡ false =
          list_any-append (λ t. is_name t.0 name) seen (s ∷ []) ∙ rw (unseen, unlike) refl in
          let later = listed name (seen ++ s ∷ []) d still (rw apart at there) in
          cond_both (list_any (λ t. is_name t.0 s.0) seen) _ _ (λ l. list_any (is_name name) l ≡ true)
          (λ _. later) (λ _. rw (apart, later) refl)
    ]

-- the layer's value, or what was there
layer-value : (name : Option Text) (key : Text) (layer d : Document)
    → value_in name key (with_layer d layer) ≡ option_or (value_in name key layer) (value_in name key d)
layer-value name key layer d =
    names-value name key layer d (names layer) ∙ at (first_section name layer) refl
  where
    at : (o : Option Pairs) → first_section name layer ≡ o
        → cond (list_any (is_name name) (names layer)) (over name key layer d) (value_in name key d)
        ≡ over name key layer d
    at None none =
        rw none (cond_both (list_any (is_name name) (names layer)) _ _
        (λ x. x ≡ value_in name key d) (λ _. refl) (λ _. refl))
    at (Some section) there =
        let among : list_any (is_name name) (names layer) ≡ true =
        listed name [] layer refl (rw there refl) in
        rw among refl

-- the last layer's value, or what was there
layers-value : (name : Option Text) (key : Text) (d : Document) (layers : List Document)
    → value_in name key (fold with_layer d layers)
    ≡ last_or (value_in name key d) (filter_map (value_in name key) layers)
layers-value name key d [] = refl
layers-value name key d (layer ∷ layers) =
    layers-value name key (with_layer d layer) layers
    ∙ ap (λ o. last_or o (filter_map (value_in name key) layers)) (layer-value name key layer d)
    ∙ sym (last_or-cons (value_in name key) (value_in name key d) layer layers)

new_has_none : (name : Option Text) (key : Text) → value_in name key ((None, []) ∷ []) ≡ None
new_has_none None key = refl
new_has_none (Some n) key = refl

pub merged-values : (layers : List Document) → HasLayeredValues layers (merged layers)
merged-values layers = record {
  same = λ name key.
      layers-value name key ((None, []) ∷ []) layers
      ∙ ap (λ o. last_or o (filter_map (value_in name key) layers)) (new_has_none name key);
}

-- the general section stays
layer-general : (d layer : Document) → HasGeneral d → HasGeneral (with_layer d layer)
layer-general d layer =
    fold-keeps HasGeneral (with_name layer)
    (λ e name. with_keys-keeps name (unwrap_or (first_section name layer) []) None e) d (names layer)

pub merged-general : (layers : List Document) → HasGeneral (merged layers)
merged-general layers = fold-keeps HasGeneral with_layer layer-general ((None, []) ∷ []) layers refl
