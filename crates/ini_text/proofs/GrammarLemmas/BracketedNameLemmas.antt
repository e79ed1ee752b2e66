-- The name before the last closing bracket of a text, after which blanks alone stand, found.
use Rattle.std.proofs.Common.{◌≡◌, ◌≢◌, inl, inr, ℕ, Bool, true, false, ◌&&◌, ◌==◌, if◌then◌else◌, List, []}
use Rattle.std.proofs.Common.{◌∷◌, ◌++◌, Option, Some, None, refl, sym, ap, ◌∙◌, subst, eqb-true, ne_eqb}
use Rattle.std.specs.List.{list_all}
use Rattle.std.proofs.Math.Bool.{and-true}
use Rattle.std.proofs.lemmas.Bool.{cases_Bool, cond-true, cond-false, and_parts, or_cases}
use Rattle.std.proofs.lemmas.List.Folds.{list_all-append}
use Rattle.ini_text.specs.Grammar.CharacterKinds.{close_bracket, is_blank}
use Rattle.ini_text.specs.Grammar.Elements.{IsBracketed}
use Rattle.ini_text.specs.Inside.ElementReader.{name_from, name_in}

blank-apart : (c : ℕ) → is_blank c ≡ true → (c == close_bracket) ≡ false
blank-apart c h = elim (or_cases (c == 0x20) (c == 0x09) h) [
  | inl q ↦ subst (λ x. (x == close_bracket) ≡ false) (sym (eqb-true c 0x20 q)) refl
  | inr q ↦ subst (λ x. (x == close_bracket) ≡ false) (sym (eqb-true c 0x09 q)) refl
]

no_name_in_blanks : (w : List ℕ) → list_all is_blank w ≡ true → name_in w ≡ None
no_name_in_blanks [] h = refl
no_name_in_blanks (c ∷ w) h =
    let parts = and_parts (is_blank c) (list_all is_blank w) h in
    rw (no_name_in_blanks w parts.1, blank-apart c parts.0) refl

name_before : (name w : List ℕ) → list_all is_blank w ≡ true
    → name_in (name ++ close_bracket ∷ w) ≡ Some name
name_before [] w h = rw (no_name_in_blanks w h, h) refl
name_before (c ∷ name) w h = rw (name_before name w h) refl

pub finds_name : {text name : List ℕ} → IsBracketed text name → name_in text ≡ Some name
finds_name {name = name} i = ap name_in i.whole ∙ name_before name i.blanks i.blank

pub no_name : (text : List ℕ) → name_in text ≡ None → (name : List ℕ) → ¬ IsBracketed text name
no_name text none name i = let some = finds_name i in cc

-- at the front of a text, where the rest has a name or none
name_found_from : (c : ℕ) (cs : List ℕ) (found : Option (List ℕ)) (name : List ℕ)
    → ((n : List ℕ) → found ≡ Some n → IsBracketed cs n) → name_from c cs found ≡ Some name
    → IsBracketed (c ∷ cs) name
name_found_from c cs (Some n) name more e =
    let rest = more n refl in
    let same : c ∷ n ≡ name = cc in
    subst (IsBracketed (c ∷ cs)) same
    (record { blanks = rest.blanks; blank = rest.blank; whole = ap (λ y. c ∷ y) rest.whole })
name_found_from c cs None name more e = elim (cases_Bool (c == close_bracket && list_all is_blank cs)) [
  | inl h ↦
      let parts = and_parts (c == close_bracket) (list_all is_blank cs) h in
      let none : Some [] ≡ Some name = sym (cond-true _ (Some []) None h) ∙ e in
      let same : [] ≡ name = cc in
      subst (IsBracketed (c ∷ cs)) same
      (record { blanks = cs; blank = parts.1; whole = ap (λ y. y ∷ cs) (eqb-true c 0x5D parts.0) })
  | inr n ↦ let none : None ≡ Some name = sym (cond-false _ (Some []) None n) ∙ e in cc
]

pub name_found : (text name : List ℕ) → name_in text ≡ Some name → IsBracketed text name
name_found [] name e = cc
name_found (c ∷ cs) name e = name_found_from c cs (name_in cs) name (λ n. name_found cs n) e

pub none_found : (text : List ℕ) → ((name : List ℕ) → ¬ IsBracketed text name) → name_in text ≡ None
none_found text none = by (name_in text) refl
  where
    by : (found : Option (List ℕ)) → name_in text ≡ found → found ≡ None
    by (Some name) e = absurd (none name (name_found text name e))
    by None e = refl

-- the same from the text's end: before a blank, before the bracket, and before another character
pub name_before_blank : (text : List ℕ) (c : ℕ) → is_blank c ≡ true → name_in (text ++ c ∷ []) ≡ name_in text
name_before_blank [] c h = rw (blank-apart c h) refl
name_before_blank (d ∷ text) c h = rw (name_before_blank text c h) (by (name_in text))
  where
    by : (x : Option (List ℕ)) → name_from d (text ++ c ∷ []) x ≡ name_from d text x
    by (Some name) = refl
    by None = rw (list_all-append is_blank text (c ∷ []), h, and-true) refl

pub name_before_bracket : (text : List ℕ) (c : ℕ) → c ≡ close_bracket → name_in (text ++ c ∷ []) ≡ Some text
name_before_bracket text c h = rw h (name_before text [] refl)

pub no_name_before : (text : List ℕ) (c : ℕ) → is_blank c ≡ false → c ≢ close_bracket
    → name_in (text ++ c ∷ []) ≡ None
no_name_before [] c h n = rw (ne_eqb c 0x5D n) refl
no_name_before (d ∷ text) c h n =
    rw (no_name_before text c h n, list_all-append is_blank text (c ∷ []), h)
    (by (d == close_bracket) (list_all is_blank text))
  where
    none : Option (List ℕ)
    none = None

    by : (x y : Bool) → (if x && (y && false) then Some [] else none) ≡ none
    by true true = refl
    by true false = refl
    by false y = refl
