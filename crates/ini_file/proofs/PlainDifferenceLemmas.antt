-- Under the default rule two documents differ as they do once they are flattened.
use Rattle.std.proofs.Common.{◌≡◌, ◌∙◌, Bool, true, false, cond, List, [], ◌∷◌, ◌++◌, fold, map, filter}
use Rattle.std.proofs.Common.{Option, None, Some, is_some, ap, arith, inl, inr, refl, sym, flat_map}
use Rattle.std.proofs.Common.{unwrap_or}
use Rattle.std.proofs.lemmas.Bool.{cases_Bool}
use Rattle.std.proofs.lemmas.Grind.{fold-append}
use Rattle.std.proofs.lemmas.List.{map-append}
use Rattle.std.proofs.lemmas.Map.Made.{is_some-lookup}
use Rattle.std.specs.Cmp.{IsEquivalence}
use Rattle.std.specs.Cmp.Lexicographic.{nat_list_eq_equiv, options_equiv}
use Rattle.std.specs.List.{list_any}
use Rattle.std.specs.Map.{keys_of, lookup}
use Rattle.std.specs.Option.{option_map, option_or}
use Rattle.ini.specs.Documents.{Document, first_section, names, value_in}
use Rattle.ini.specs.Edits.{edit_section}
use Rattle.ini.specs.Properties.{Pairs, distinct, first_value, inserted}
use Rattle.ini.specs.Texts.{Text, is_name}
use Rattle.ini.proofs.EditLemmas.{edit_section-last, edit_section-there, set_section-same}
use Rattle.ini_dialect.specs.Flattened.{flattened, put_by, told_name, with_told, with_told_section}
use Rattle.ini_dialect.specs.Inside.{kept}
use Rattle.ini_dialect.specs.Rules.{default_lookup, is_own}
use Rattle.ini_dialect.specs.declared.rule.CaseRule.TheVariants.{Kept}
use Rattle.ini_dialect.specs.declared.rule.Lookup.{Lookup}
use Rattle.ini_dialect.specs.declared.rule.ValueRule.TheVariants.{First as FirstValue}
use Rattle.ini_dialect.proofs.DefaultLemmas.{default-answers}
use Rattle.ini_dialect.proofs.FlattenedLemmas.{flat-answers}
use Rattle.ini_dialect.proofs.KeyLemmas.{kept-distinct}
use Rattle.ini_dialect.proofs.RuleLemmas.{own-default}
use Rattle.ini_layers.specs.Settings.{Setting, settings}
use Rattle.ini_layers.specs.Differences.{change_of, difference, differs, is_lost}

lookup-append : {K V : Type 0} (test : K → Bool) (xs ys : List (K × V))
    → lookup test (xs ++ ys) ≡ option_or (lookup test xs) (lookup test ys)
lookup-append test [] ys = refl
lookup-append test (x ∷ xs) ys = grind (arith, lookup-append test xs ys)

or-none : {X : Type 0} (a : Option X) → option_or a None ≡ a
or-none None = refl
or-none (Some x) = refl

or_assoc : {X : Type 0} (a b c : Option X) → option_or (option_or a b) c ≡ option_or a (option_or b c)
or_assoc None b c = refl
or_assoc (Some x) b c = refl

-- pairs put one after another, each where its key isn't there yet
module _ {K V : Type 0} {eq : K → K → Bool} (equiv : IsEquivalence eq) (f : V → V) where
  abbrev put_new : List (K × V) → K × V → List (K × V)
  put_new ps p = cond (is_some (lookup (eq p.0) ps)) ps (ps ++ (p.0, f p.1) ∷ [])

  is_there : (ps : List (K × V)) (k : K) → list_any (λ x. eq x k) (keys_of ps) ≡ is_some (lookup (eq k) ps)
  is_there ps k =
      sym (is_some-lookup (eq k) ps ∙ ap (λ t. list_any t (keys_of ps)) (λ i x. equiv.symm k x i))

  keys-put : (ps : List (K × V)) (p : K × V) → keys_of (put_new ps p) ≡ kept eq (keys_of ps) p
  keys-put ps p =
      elim (cases_Bool (is_some (lookup (eq p.0) ps))) [
        | inl there ↦ rw (is_there ps p.0, there) refl
        | inr new ↦ rw (is_there ps p.0, new) (map-append (λ e. e.0) ps ((p.0, f p.1) ∷ []))
      ]

  once-put : (ps : List (K × V)) (p : K × V) → fold (kept eq) [] ps ≡ keys_of ps
      → fold (kept eq) [] (put_new ps p) ≡ keys_of (put_new ps p)
  once-put ps p once =
      elim (cases_Bool (is_some (lookup (eq p.0) ps))) [
        | inl there ↦ rw there once
        | inr new ↦
            let unknown : list_any (λ x. eq x p.0) (keys_of ps) ≡ false = is_there ps p.0 ∙ new in
            rw new (
            fold-append (kept eq) [] ps ((p.0, f p.1) ∷ [])
            ∙ ap (λ ks. kept eq ks (p.0, f p.1)) once
            ∙ rw unknown (sym (map-append (λ e. e.0) ps ((p.0, f p.1) ∷ []))))
      ]

  kept-put : (there ps : List (K × V)) → fold (kept eq) [] there ≡ keys_of there
      → fold (kept eq) [] (fold put_new there ps) ≡ fold (kept eq) (keys_of there) ps
  kept-put there [] once = once
  kept-put there (p ∷ ps) once =
      kept-put (put_new there p) ps (once-put there p once)
      ∙ ap (λ ks. fold (kept eq) ks ps) (keys-put there p)

  -- each once, they are those of the pairs themselves
  kept-alike : (ps : List (K × V)) → fold (kept eq) [] (fold put_new [] ps) ≡ fold (kept eq) [] ps
  kept-alike ps = kept-put [] ps refl

  module _ (k : K) where
    one-put : (there : List (K × V)) (p : K × V) → lookup (eq k) (put_new there p)
        ≡ option_or (lookup (eq k) there) (cond (eq k p.0) (Some (f p.1)) None)
    one-put there p =
        elim (cases_Bool (is_some (lookup (eq p.0) there))) [
          | inl old ↦
              elim (cases_Bool (eq k p.0)) [
                | inl same ↦
                    let found : is_some (lookup (eq k) there) ≡ true =
                    ap (λ t. is_some (lookup t there)) (λ i x. equiv.congr k p.0 x same i) ∙ old in
                    rw (old, same) (stays (lookup (eq k) there) found)
                | inr apart ↦ rw (old, apart) (sym (or-none (lookup (eq k) there)))
              ]
          | inr new ↦ rw new (lookup-append (eq k) there ((p.0, f p.1) ∷ []))
        ]
      where
        stays : (o : Option V) → is_some o ≡ true → o ≡ option_or o (Some (f p.1))
        stays None is = absurd cc
        stays (Some v) is = refl

    mapped : (b : Bool) (v : V) (o : Option V)
        → option_or (cond b (Some (f v)) None) (option_map f o) ≡ option_map f (cond b (Some v) o)
    mapped true v o = refl
    mapped false v o = refl

    first-put : (there ps : List (K × V)) → lookup (eq k) (fold put_new there ps)
        ≡ option_or (lookup (eq k) there) (option_map f (lookup (eq k) ps))
    first-put there [] = sym (or-none (lookup (eq k) there))
    first-put there (p ∷ ps) =
        first-put (put_new there p) ps
        ∙ ap (λ o. option_or o (option_map f (lookup (eq k) ps))) (one-put there p)
        ∙ or_assoc (lookup (eq k) there) (cond (eq k p.0) (Some (f p.1)) None)
        (option_map f (lookup (eq k) ps))
        ∙ ap (option_or (lookup (eq k) there)) (mapped (eq k p.0) p.1 (lookup (eq k) ps))

names_equiv : IsEquivalence is_name
names_equiv = options_equiv nat_list_eq_equiv

-- so the default rule puts the pairs of a section, and sections
abbrev flat_pairs : Pairs → Pairs
flat_pairs ps = fold (with_told (put_by FirstValue) default_lookup) [] ps

inserted-last : (key value : Text) (ps : Pairs) → first_value key ps ≡ None
    → inserted key value ps ≡ ps ++ (key, value) ∷ []
inserted-last key value [] none = refl
inserted-last key value (p ∷ ps) none = grind (arith, inserted-last key value ps, none)

told-put : (ps : Pairs) (p : Text × Text)
    → with_told (put_by FirstValue) default_lookup ps p ≡ put_new nat_list_eq_equiv (λ v. v) ps p
told-put ps p = at (first_value p.0 ps) refl
  where
    at : (o : Option Text) → first_value p.0 ps ≡ o
        → with_told (put_by FirstValue) default_lookup ps p ≡ put_new nat_list_eq_equiv (λ v. v) ps p
    at None is = rw is (inserted-last p.0 p.1 ps is)
    at (Some v) is = rw is refl

told_kept : (n : Option Text) → told_name Kept n ≡ n
told_kept None = refl
told_kept (Some t) = refl

section-put : (flat : Document) (s : Option Text × Pairs)
    → with_told_section (put_by FirstValue) default_lookup flat s ≡ put_new names_equiv flat_pairs flat s
section-put flat s =
    ap (λ n. edit_section n (λ ps. ps) ((n, flat_pairs s.1) ∷ []) flat) (told_kept s.0)
    ∙ at (first_section s.0 flat) refl
  where
    at : (o : Option Pairs) → first_section s.0 flat ≡ o
        → edit_section s.0 (λ ps. ps) ((s.0, flat_pairs s.1) ∷ []) flat
        ≡ put_new names_equiv flat_pairs flat s
    at None is = rw is (edit_section-last s.0 (λ ps. ps) ((s.0, flat_pairs s.1) ∷ []) flat is)
    at (Some ps) is =
        rw is (edit_section-there s.0 (λ ps. ps) ((s.0, flat_pairs s.1) ∷ []) flat ps is
        ∙ set_section-same s.0 flat ps is)

-- each section keeps its keys
keys-flat : (o : Option Pairs)
    → distinct (unwrap_or (option_map flat_pairs o) []) ≡ distinct (unwrap_or o [])
keys-flat None = refl
keys-flat (Some ps) =
    ap (λ f. distinct (fold f [] ps)) (λ i qs p. told-put qs p i)
    ∙ sym (kept-distinct nat_list_eq_equiv (fold (put_new nat_list_eq_equiv (λ v. v)) [] ps))
    ∙ kept-alike nat_list_eq_equiv (λ v. v) ps
    ∙ kept-distinct nat_list_eq_equiv ps

module _ (d : Document) where
  abbrev flat : Document
  flat = flattened default_lookup d

  flat-put : flat ≡ fold (put_new names_equiv flat_pairs) [] d
  flat-put = ap (λ f. fold f [] d) (λ i there s. section-put there s i)

  names-flat : names flat ≡ names d
  names-flat =
      ap names flat-put
      ∙ sym (kept-distinct names_equiv (fold (put_new names_equiv flat_pairs) [] d))
      ∙ kept-alike names_equiv flat_pairs d
      ∙ kept-distinct names_equiv d

  keys-in : (n : Option Text)
      → distinct (unwrap_or (first_section n flat) []) ≡ distinct (unwrap_or (first_section n d) [])
  keys-in n =
      ap (λ o. distinct (unwrap_or o []))
      (ap (first_section n) flat-put ∙ first-put names_equiv flat_pairs n [] d)
      ∙ keys-flat (first_section n d)

  settings-flat : settings flat ≡ settings d
  settings-flat = λ i. flat_map (λ n. map (λ key. (n, key)) (keys-in n i)) (names-flat i)

  value-flat : (name : Option Text) (key : Text) → value_in name key flat ≡ value_in name key d
  value-flat name key =
      ap (λ n. value_in n key flat) (sym (told_kept name))
      ∙ flat-answers default_lookup d name key
      ∙ default-answers.value name key d

module _ (from to : Document) where
  changes-flat : (s : Setting)
      → change_of (flattened default_lookup from) (flattened default_lookup to) s ≡ change_of from to s
  changes-flat s = λ i. record {
    name = s.0;
    key = s.1;
    old = value-flat from s.0 s.1 i;
    new = value-flat to s.0 s.1 i;
  }

  default-difference : difference (flattened default_lookup from) (flattened default_lookup to)
      ≡ difference from to
  default-difference = λ i.
      filter differs (map (λ s. changes-flat s i) (settings-flat to i))
      ++ filter is_lost (map (λ s. changes-flat s i) (settings-flat from i))

  pub own_difference : (rule : Lookup) → is_own rule ≡ true
      → difference (flattened rule from) (flattened rule to) ≡ difference from to
  own_difference rule own =
      ap (λ r. difference (flattened r from) (flattened r to)) (own-default rule own) ∙ default-difference
