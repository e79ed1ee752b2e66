-- What edits leave as it is.
use Rattle.std.proofs.Common.{◌≡◌, ◌≤◌, true, false, [], ◌∷◌, ◌++◌, length, drop, Option, None, Some, IsSome}
use Rattle.std.proofs.Common.{refl, ap, arith}
use Rattle.std.proofs.lemmas.Bool.{false≢true}
use Rattle.std.specs.Cmp.Lexicographic.{nat_list_eq_equiv, options_equiv, bytes_decides}
use Rattle.std.specs.Map.{set_value}
use Rattle.ini.specs.Texts.{Text, is_name, is_text}
use Rattle.ini.specs.Properties.{Pairs, all_removed, first_value, inserted, removed, values}
use Rattle.ini.specs.Documents.{Document, all_sections_removed, first_section, section_removed}
use Rattle.ini.specs.Documents.{sections_named, value_in}
use Rattle.ini.specs.Edits.{delete_in, delete_in_all, edit_section, replace_in, section_set, set_in}
use Rattle.ini.specs.Edits.{with_section}
use Rattle.ini.specs.EditLaws.{apart_from, values_in}

pub text_refl : (t : Text) → is_text t t ≡ true
text_refl t = nat_list_eq_equiv.refl t

pub name_refl : (n : Option Text) → is_name n n ≡ true
name_refl n = (options_equiv nat_list_eq_equiv).refl n

-- texts that fit are equal
pub texts_equal : (s t : Text) → is_text s t ≡ true → s ≡ t
texts_equal s t h = (bytes_decides s t).0 h

-- names that fit are equal
pub names_equal : (m n : Option Text) → is_name m n ≡ true → m ≡ n
names_equal None None h = refl
names_equal None (Some t) h = absurd cc
names_equal (Some s) None h = absurd cc
names_equal (Some s) (Some t) h = ap Some (texts_equal s t h)

-- what was inserted is there
pub inserted-there : (key value : Text) (ps : Pairs) → first_value key (inserted key value ps) ≡ Some value
inserted-there key value [] = grind (arith, text_refl key)
inserted-there key value (p ∷ ps) = grind (arith, inserted-there key value ps)

-- edits of pairs
module _ (key other : Text) (apart : is_text other key ≡ false) where
  pub first-all_removed : (ps : Pairs) → first_value other (all_removed key ps) ≡ first_value other ps
  first-all_removed [] = refl
  first-all_removed (p ∷ ps) = grind (arith, first-all_removed ps, texts_equal key p.0, apart)

  pub first-removed : (ps : Pairs) → first_value other (removed key ps) ≡ first_value other ps
  first-removed [] = refl
  first-removed (p ∷ ps) = grind (arith, first-removed ps, texts_equal key p.0, apart)

  pub first-appended : (value : Text) (ps : Pairs)
      → first_value other (ps ++ (key, value) ∷ []) ≡ first_value other ps
  first-appended value [] = grind (arith, apart)
  first-appended value (p ∷ ps) = grind (arith, first-appended value ps)

  pub first-inserted : (value : Text) (ps : Pairs)
      → first_value other (inserted key value ps) ≡ first_value other ps
  first-inserted value [] = grind (arith, apart)
  first-inserted value (p ∷ ps) =
      grind (arith, first-inserted value ps, first-all_removed ps, texts_equal key p.0, apart)

  pub values-all_removed : (ps : Pairs) → values other (all_removed key ps) ≡ values other ps
  values-all_removed [] = refl
  values-all_removed (p ∷ ps) = grind (arith, values-all_removed ps, texts_equal key p.0, apart)

  pub values-removed : (ps : Pairs) → values other (removed key ps) ≡ values other ps
  values-removed [] = refl
  values-removed (p ∷ ps) = grind (arith, values-removed ps, texts_equal key p.0, apart)

  pub values-appended : (value : Text) (ps : Pairs)
      → values other (ps ++ (key, value) ∷ []) ≡ values other ps
  values-appended value [] = grind (arith, apart)
  values-appended value (p ∷ ps) = grind (arith, values-appended value ps)

  pub values-inserted : (value : Text) (ps : Pairs) → values other (inserted key value ps) ≡ values other ps
  values-inserted value [] = grind (arith, apart)
  values-inserted value (p ∷ ps) =
      grind (arith, values-inserted value ps, values-all_removed ps, texts_equal key p.0, apart)

  pub first-replaced : (value : Text) (ps : Pairs)
      → first_value other (set_value (is_text key) ps value) ≡ first_value other ps
  first-replaced value [] = refl
  first-replaced value (p ∷ ps) = grind (arith, first-replaced value ps, texts_equal key p.0, apart)

-- the pairs of the other keys
pub others-removed : (key : Text) (ps : Pairs) → all_removed key (removed key ps) ≡ all_removed key ps
others-removed key [] = refl
others-removed key (p ∷ ps) = grind (arith, others-removed key ps)

pub others-all_removed : (key : Text) (ps : Pairs)
    → all_removed key (all_removed key ps) ≡ all_removed key ps
others-all_removed key [] = refl
others-all_removed key (p ∷ ps) = grind (arith, others-all_removed key ps)

pub others-appended : (key value : Text) (ps : Pairs)
    → all_removed key (ps ++ (key, value) ∷ []) ≡ all_removed key ps
others-appended key value [] = grind (arith, text_refl key)
others-appended key value (p ∷ ps) = grind (arith, others-appended key value ps)

pub others-inserted : (key value : Text) (ps : Pairs)
    → all_removed key (inserted key value ps) ≡ all_removed key ps
others-inserted key value [] = grind (arith, text_refl key)
others-inserted key value (p ∷ ps) = grind (arith, others-inserted key value ps, others-all_removed key ps)

pub others-replaced : (key value : Text) (ps : Pairs)
    → all_removed key (set_value (is_text key) ps value) ≡ all_removed key ps
others-replaced key value [] = refl
others-replaced key value (p ∷ ps) = grind (arith, others-replaced key value ps)

-- edits of the first section of a name, with `last` where there is none
module _ (name : Option Text) (f : Pairs → Pairs) (last : Document) where
  pub first-edited : (other : Option Text) → first_section other last ≡ None → is_name other name ≡ false
      → (d : Document) → first_section other (edit_section name f last d) ≡ first_section other d
  first-edited other none apart [] = none
  first-edited other none apart (s ∷ d) =
      grind (arith, first-edited other none apart d, names_equal name s.0, apart)

  pub named-edited : (other : Option Text) → sections_named other last ≡ [] → is_name other name ≡ false
      → (d : Document) → sections_named other (edit_section name f last d) ≡ sections_named other d
  named-edited other none apart [] = none
  named-edited other none apart (s ∷ d) =
      grind (arith, named-edited other none apart d, names_equal name s.0, apart)

  pub there-edited : (other : Option Text) (d : Document) → IsSome (first_section other d)
      → IsSome (first_section other (edit_section name f last d))
  there-edited other [] there = absurd (false≢true there)
  there-edited other (s ∷ d) there = grind (arith, there-edited other d)

  pub value-edited : (other : Text) → value_in name other last ≡ None
      → ((ps : Pairs) → first_value other (f ps) ≡ first_value other ps) → (d : Document)
      → value_in name other (edit_section name f last d) ≡ value_in name other d
  value-edited other none same [] = none
  value-edited other none same (s ∷ d) = grind (arith, value-edited other none same d, same s.1)

  pub rest-edited : (key : Text) → ((ps : Pairs) → all_removed key (f ps) ≡ all_removed key ps)
      → (d : Document) → IsSome (first_section name d)
      → apart_from name key (edit_section name f last d) ≡ apart_from name key d
  rest-edited key same [] there = absurd (false≢true there)
  rest-edited key same (s ∷ d) there = grind (arith, rest-edited key same d, same s.1)

  pub later-edited : (d : Document) → drop 1 (sections_named name last) ≡ []
      → drop 1 (sections_named name (edit_section name f last d)) ≡ drop 1 (sections_named name d)
  later-edited [] none = none
  later-edited (s ∷ d) none = grind (arith, later-edited d none)

-- edits of every section of a name
module _ (name : Option Text) (key : Text) where
  pub first-deleted : (other : Option Text) → is_name other name ≡ false → (d : Document)
      → first_section other (delete_in_all name key d) ≡ first_section other d
  first-deleted other apart [] = refl
  first-deleted other apart (s ∷ d) = grind (arith, first-deleted other apart d, names_equal name s.0, apart)

  pub named-deleted : (other : Option Text) → is_name other name ≡ false → (d : Document)
      → sections_named other (delete_in_all name key d) ≡ sections_named other d
  named-deleted other apart [] = refl
  named-deleted other apart (s ∷ d) = grind (arith, named-deleted other apart d, names_equal name s.0, apart)

  pub there-deleted : (other : Option Text) (d : Document) → IsSome (first_section other d)
      → IsSome (first_section other (delete_in_all name key d))
  there-deleted other [] there = absurd (false≢true there)
  there-deleted other (s ∷ d) there = grind (arith, there-deleted other d)

  pub value-deleted : (other : Text) → is_text other key ≡ false → (d : Document)
      → value_in name other (delete_in_all name key d) ≡ value_in name other d
  value-deleted other apart [] = refl
  value-deleted other apart (s ∷ d) =
      grind (arith, value-deleted other apart d, first-removed key other apart s.1)

  pub rest-deleted : (d : Document) → apart_from name key (delete_in_all name key d) ≡ apart_from name key d
  rest-deleted [] = refl
  rest-deleted (s ∷ d) = grind (arith, rest-deleted d, others-removed key s.1)

-- the first section of a name goes, or is another one
module _ (name other : Option Text) (apart : is_name other name ≡ false) where
  pub first-section_removed : (d : Document)
      → first_section other (section_removed name d) ≡ first_section other d
  first-section_removed [] = refl
  first-section_removed (s ∷ d) = grind (arith, first-section_removed d, names_equal name s.0, apart)

  pub named-section_removed : (d : Document)
      → sections_named other (section_removed name d) ≡ sections_named other d
  named-section_removed [] = refl
  named-section_removed (s ∷ d) = grind (arith, named-section_removed d, names_equal name s.0, apart)

  pub first-all_sections_removed : (d : Document)
      → first_section other (all_sections_removed name d) ≡ first_section other d
  first-all_sections_removed [] = refl
  first-all_sections_removed (s ∷ d) = grind (
    arith,
    first-all_sections_removed d,
    names_equal name s.0,
    apart,
  )

  pub named-all_sections_removed : (d : Document)
      → sections_named other (all_sections_removed name d) ≡ sections_named other d
  named-all_sections_removed [] = refl
  named-all_sections_removed (s ∷ d) = grind (
    arith,
    named-all_sections_removed d,
    names_equal name s.0,
    apart,
  )

  pub first-section_set : (pairs : Pairs) (d : Document)
      → first_section other (section_set name pairs d) ≡ first_section other d
  first-section_set pairs [] = refl
  first-section_set pairs (s ∷ d) = grind (arith, first-section_set pairs d, names_equal name s.0, apart)

  pub named-section_set : (pairs : Pairs) (d : Document)
      → sections_named other (section_set name pairs d) ≡ sections_named other d
  named-section_set pairs [] = refl
  named-section_set pairs (s ∷ d) = grind (arith, named-section_set pairs d, names_equal name s.0, apart)

pub there-section_set : (name other : Option Text) (pairs : Pairs) (d : Document)
    → IsSome (first_section other d) → IsSome (first_section other (section_set name pairs d))
there-section_set name other pairs [] there = absurd (false≢true there)
there-section_set name other pairs (s ∷ d) there = grind (arith, there-section_set name other pairs d)

-- what is there afterwards
pub set-there : (name : Option Text) (key value : Text) (d : Document)
    → value_in name key (set_in name key value d) ≡ Some value
set-there name key value [] = grind (arith, name_refl name, text_refl key)
set-there name key value (s ∷ d) = grind (arith, set-there name key value d, inserted-there key value s.1)

pub lent-there : (name : Option Text) (pairs : Pairs) (d : Document) → IsSome (first_section name d)
    → first_section name (section_set name pairs d) ≡ Some pairs
lent-there name pairs [] there = absurd (false≢true there)
lent-there name pairs (s ∷ d) there = grind (arith, lent-there name pairs d)

pub entry-there : (name : Option Text) (pairs : Pairs) (d : Document)
    → first_section name (with_section name d pairs) ≡ Some pairs
entry-there name pairs [] = grind (arith, name_refl name)
entry-there name pairs (s ∷ d) = grind (arith, entry-there name pairs d)

replaced-there : (key value : Text) (ps : Pairs) → IsSome (first_value key ps)
    → first_value key (set_value (is_text key) ps value) ≡ Some value
replaced-there key value [] there = absurd (false≢true there)
replaced-there key value (p ∷ ps) there = grind (arith, replaced-there key value ps)

pub replace-there : (name : Option Text) (key value : Text) (d : Document)
    → IsSome (value_in name key d) → value_in name key (replace_in name key value d) ≡ Some value
replace-there name key value [] there = absurd (false≢true there)
replace-there name key value (s ∷ d) there = grind (
  arith,
  replace-there name key value d,
  replaced-there key value s.1,
)

-- the last value of a key goes
none-of : (key : Text) (ps : Pairs) → length (values key ps) ≡ 0 → first_value key ps ≡ None
none-of key [] e = refl
none-of key (p ∷ ps) e = grind (arith, none-of key ps)

removed-last : (key : Text) (ps : Pairs) → length (values key ps) ≤ 1
    → first_value key (removed key ps) ≡ None
removed-last key [] h = refl
removed-last key (p ∷ ps) h = grind (arith, removed-last key ps, none-of key ps)

pub deleted-last : (name : Option Text) (key : Text) (d : Document) → length (values_in name key d) ≤ 1
    → value_in name key (delete_in_all name key d) ≡ None
deleted-last name key [] h = refl
deleted-last name key (s ∷ d) h = grind (arith, deleted-last name key d, removed-last key s.1)

pub deleted_from-last : (name : Option Text) (key : Text) (d : Document)
    → length (values_in name key d) ≤ 1 → value_in name key (delete_in name key d) ≡ None
deleted_from-last name key [] h = refl
deleted_from-last name key (s ∷ d) h = grind (arith, deleted_from-last name key d, removed-last key s.1)
