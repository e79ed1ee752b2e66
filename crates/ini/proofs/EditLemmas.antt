-- An edit of the first section of a name, by what stands there.
use Rattle.std.proofs.Common.{◌≡◌, true, false, [], ◌∷◌, ◌++◌, Option, None, Some, IsSome, IfNone, Result, Ok}
use Rattle.std.proofs.Common.{Err, OnOk, OnErr, subst, refl, sym, arith, append-nil}
use Rattle.std.proofs.lemmas.Bool.{false≢true}
use Rattle.std.specs.Map.{set_value}
use Rattle.ini.specs.Texts.{Text, is_name, is_text}
use Rattle.ini.specs.Properties.{Pairs, first_value, inserted, removed}
use Rattle.ini.specs.Documents.{Document, first_section, value_in}
use Rattle.ini.specs.Edits.{add_in, delete_in, edit_section, key_renamed, rename_key_in, replace_in, set_in}

module _ (name : Option Text) (f : Pairs → Pairs) (last : Document) where
  -- where it is there
  pub edit_section-there : (d : Document) (pairs : Pairs) → first_section name d ≡ Some pairs
      → edit_section name f last d ≡ set_value (is_name name) d (f pairs)
  edit_section-there [] pairs e =
      let none : ⊥ = cc in
      absurd none
  edit_section-there (s ∷ d) pairs e = grind (arith, edit_section-there d pairs)

  -- where it isn't
  pub edit_section-last : (d : Document) → first_section name d ≡ None
      → edit_section name f last d ≡ d ++ last
  edit_section-last [] e = refl
  edit_section-last (s ∷ d) e = grind (arith, edit_section-last d)

-- putting back what is there
pub set_section-same : (name : Option Text) (d : Document) (pairs : Pairs)
    → first_section name d ≡ Some pairs → set_value (is_name name) d pairs ≡ d
set_section-same name [] pairs e = refl
set_section-same name (s ∷ d) pairs e = grind (arith, set_section-same name d pairs)

-- nothing is put where no section has the name
pub set_section-none : (name : Option Text) (d : Document) (pairs : Pairs) → first_section name d ≡ None
    → set_value (is_name name) d pairs ≡ d
set_section-none name [] pairs e = refl
set_section-none name (s ∷ d) pairs e = grind (arith, set_section-none name d pairs)

set_value-none : (key value : Text) (ps : Pairs) → first_value key ps ≡ None
    → set_value (is_text key) ps value ≡ ps
set_value-none key value [] e = refl
set_value-none key value (p ∷ ps) e = grind (arith, set_value-none key value ps)

pub replace_in-none : (name : Option Text) (key value : Text) (d : Document) → value_in name key d ≡ None
    → replace_in name key value d ≡ d
replace_in-none name key value [] e = refl
replace_in-none name key value (s ∷ d) e =
    grind (arith, replace_in-none name key value d, set_value-none key value s.1)

-- what holds where nothing was lent
pub if_none : {A P : Type 0} (lent : Option A) → (lent ≡ None → P) → IfNone lent P
if_none None holds = holds refl
if_none (Some a) holds = tt

-- what each edit makes of the first section of the name
module _ (name : Option Text) (key value : Text) (d : Document) (pairs : Pairs)
    (there : first_section name d ≡ Some pairs) where
  pub set_in-there : set_value (is_name name) d (inserted key value pairs) ≡ set_in name key value d
  set_in-there =
      sym (edit_section-there name (inserted key value) ((name, (key, value) ∷ []) ∷ []) d pairs there)

  pub add_in-there : set_value (is_name name) d (pairs ++ (key, value) ∷ []) ≡ add_in name key value d
  add_in-there =
      sym (edit_section-there name (λ ps. ps ++ (key, value) ∷ [])
      ((name, (key, value) ∷ []) ∷ []) d pairs there)

  pub replace_in-there : set_value (is_name name) d (set_value (is_text key) pairs value)
      ≡ replace_in name key value d
  replace_in-there = sym (edit_section-there name (λ ps. set_value (is_text key) ps value) [] d pairs there)

pub delete_in-there : (name : Option Text) (key : Text) (d : Document) (pairs : Pairs)
    → first_section name d ≡ Some pairs
    → set_value (is_name name) d (removed key pairs) ≡ delete_in name key d
delete_in-there name key d pairs there = sym (edit_section-there name (removed key) [] d pairs there)

pub rename_key_in-there : (name : Option Text) (key other : Text) (d : Document) (pairs : Pairs)
    → first_section name d ≡ Some pairs
    → set_value (is_name name) d (key_renamed key other pairs) ≡ rename_key_in name key other d
rename_key_in-there name key other d pairs there = sym (edit_section-there name
    (key_renamed key other) [] d pairs there)

-- a section stays where others are put after it
pub first_section-append : (name : Option Text) (d e : Document) → IsSome (first_section name d)
    → IsSome (first_section name (d ++ e))
first_section-append name [] e there = absurd (false≢true there)
first_section-append name (s ∷ d) e there = grind (arith, first_section-append name d e)

pub stays_there : {X E : Type 0} (r : Result X E) (name : Option Text) (d e new : Document)
    → OnOk r (new ≡ d ++ e) → OnErr r (new ≡ d) → IsSome (first_section name d)
    → IsSome (first_section name new)
stays_there (Ok x) name d e new appended unchanged there =
    subst (λ l. IsSome (first_section name l)) (sym appended) (first_section-append name d e there)
stays_there (Err x) name d e new appended unchanged there =
    subst (λ l. IsSome (first_section name l)) (sym unchanged) there

pub ruleset edits = (
  set_in-there,
  add_in-there,
  delete_in-there,
  rename_key_in-there,
  edit_section-last,
  set_section-same,
  append-nil,
)
