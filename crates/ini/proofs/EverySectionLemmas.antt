-- An edit of every section of a name, one after another.
use Rattle.std.proofs.Common.{◌≡◌, ◌∙◌, ℕ, zero, suc, ◌<◌, ◌≤◌, Bool, false, cond, List, [], ◌∷◌, length}
use Rattle.std.proofs.Common.{map, slice_get, Option, None, Some, String, is_some, refl, sym, arith}
use Rattle.std.specs.Borrow.{Bor}
use Rattle.ini_multimap.specs.Keys.{name_fits}
use Rattle.ini_multimap.specs.Pairs.{set_nth_value, values_at}
use Rattle.ini_multimap.proofs.MoveLemmas.{key_none}
use Rattle.ini.specs.Texts.{Text, str_name}
use Rattle.ini.specs.Inside.LentNames.{IsTextName}
use Rattle.ini.specs.Properties.{Pairs, removed}
use Rattle.ini.specs.Documents.{Document, all_sections_removed, first_section, section_removed, sections_of}
use Rattle.ini.specs.Edits.{delete_in_all}
use Rattle.ini.proofs.TextLemmas.{same_name}

module _ {K V : Type 0} (test : K → Bool) (f : V → V) where
  -- f at the first n that fit
  abbrev pub edited : ℕ → List (K × V) → List (K × V)
  edited n [] = []
  edited zero (p ∷ ps) = p ∷ ps
  edited (suc n) (p ∷ ps) = cond (test p.0) ((p.0, f p.1) ∷ edited n ps) (p ∷ edited (suc n) ps)

  -- f at all that fit
  abbrev pub all_edited : List (K × V) → List (K × V)
  all_edited ps = map (λ p. (p.0, cond (test p.0) (f p.1) p.1)) ps

  pub edited-zero : (ps : List (K × V)) → edited 0 ps ≡ ps
  edited-zero [] = refl
  edited-zero (p ∷ ps) = refl

  -- one more
  pub edited-more : (n : ℕ) (ps : List (K × V)) (v : V)
      → slice_get (values_at test (edited n ps)) n ≡ Some v
      → set_nth_value test (edited n ps) n (f v) ≡ edited (suc n) ps
  edited-more n [] v e = refl
  edited-more zero (p ∷ ps) v e = grind (arith, edited-more zero ps v, edited-zero ps)
  edited-more (suc n) (p ∷ ps) v e = grind (arith, edited-more n ps v, edited-more (suc n) ps v)

  -- no more are there
  pub edited-all : (n : ℕ) (ps : List (K × V)) → slice_get (values_at test (edited n ps)) n ≡ None
      → edited n ps ≡ all_edited ps
  edited-all n [] e = refl
  edited-all zero (p ∷ ps) e = grind (arith, edited-all zero ps, edited-zero ps)
  edited-all (suc n) (p ∷ ps) e = grind (arith, edited-all n ps, edited-all (suc n) ps)

  -- no more can be there
  pub edited-long : (n : ℕ) (ps : List (K × V)) → length ps ≤ n → edited n ps ≡ all_edited ps
  edited-long n [] h = refl
  edited-long zero (p ∷ ps) h = absurd (omega arith)
  edited-long (suc n) (p ∷ ps) h = grind (arith, edited-long n ps, edited-long (suc n) ps)

-- the sections of a name go, one after another
module _ (name : Option Text) where
  pub removed_all-removed : (d : Document)
      → all_sections_removed name (section_removed name d) ≡ all_sections_removed name d
  removed_all-removed [] = refl
  removed_all-removed (s ∷ d) = grind (arith, removed_all-removed d)

  removed_all-none : (d : Document) → first_section name d ≡ None → all_sections_removed name d ≡ d
  removed_all-none [] none = refl
  removed_all-none (s ∷ d) none = grind (arith, removed_all-none d)

  pub fewer-removed : (d : Document) (pairs : Pairs) → first_section name d ≡ Some pairs
      → length (section_removed name d) < length d
  fewer-removed [] pairs there =
      let none : ⊥ = cc in
      absurd none
  fewer-removed (s ∷ d) pairs there = grind (arith, fewer-removed d pairs)

  removed-none : (d : Document) → first_section name d ≡ None → section_removed name d ≡ d
  removed-none [] none = refl
  removed-none (s ∷ d) none = grind (arith, removed-none d)

  -- once none is there
  pub all_gone : (start d new : Document)
      → all_sections_removed name d ≡ all_sections_removed name start
      → is_some (first_section name d) ≡ false
      → new ≡ section_removed name d → new ≡ all_sections_removed name start
  all_gone start d new same none is =
      let gone = key_none (first_section name d) none in
      is ∙ removed-none d gone ∙ sym (removed_all-none d gone) ∙ same

pub ruleset all_removed = (removed_all-removed, fewer-removed)

-- what it makes of the document
pub all_edited-sections : {Z : Type 0} (name : Option (Bor (List ℕ))) (key : Text)
    (ss : List (Option (String Z) × Pairs))
    → IsTextName name
    → sections_of (all_edited (name_fits name) (removed key) ss)
    ≡ delete_in_all (str_name name) key (sections_of ss)
all_edited-sections name key [] text = refl
all_edited-sections name key (s ∷ ss) text =
    grind (arith, same_name name text s.0, all_edited-sections name key ss text)
