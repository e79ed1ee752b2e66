-- What the calls of a list of sections named by strings do to the document that it shows.
use Rattle.std.proofs.Common.{◌≡◌, ◌∙◌, ap, refl, ℕ, List, [], ◌∷◌, length, Option, None, Some, IfSome}
use Rattle.std.proofs.Common.{IsSome, String}
use Rattle.std.proofs.lemmas.Iterator.Adapters.{option_map_id}
use Rattle.std.proofs.lemmas.List.{length-map, map-id}
use Rattle.std.specs.Borrow.{Bor}
use Rattle.std.specs.List.{AllZip}
use Rattle.std.specs.Map.{lookup, remove_entry, set_value}
use Rattle.std.specs.Option.{option_eq}
use Rattle.std.specs.Str.{IsUtf8, chars}
use Rattle.std.specs.String.{string_bytes, string_eq}
use Rattle.ini_multimap.specs.Keys.{name_fits}
use Rattle.ini_multimap.specs.Pairs.{distinct_keys, values_at}
use Rattle.ini.specs.Texts.{is_name, name_of, str_name}
use Rattle.ini.specs.Inside.LentNames.{IsTextName}
use Rattle.ini.specs.Properties.{Pairs}
use Rattle.ini.specs.Documents.{first_section, names, names_of, section_removed, sections_named, sections_of}
use Rattle.ini.proofs.ListLemmas.{lookup-both, remove_entry-both, set_value-both, distinct_keys-both}
use Rattle.ini.proofs.ListLemmas.{values_at-both, found}
use Rattle.ini.proofs.TextLemmas.{fitting_name, same_name, same_names}

module _ {Z : Type 0} (ss : List (Option (String Z) × Pairs)) where
  pub names-sections : names (sections_of ss) ≡ names_of (distinct_keys (option_eq string_eq) ss)
  names-sections = distinct_keys-both name_of (λ ps. ps) (option_eq string_eq) is_name same_names ss

  pub length-names-sections : length (names (sections_of ss))
      ≡ length (distinct_keys (option_eq string_eq) ss)
  length-names-sections = ap length names-sections ∙ simp length-map

  module _ (name : Option (Bor (List ℕ))) (text : IsTextName name) where
    pub first_section-sections : first_section (str_name name) (sections_of ss) ≡ lookup (name_fits name) ss
    first_section-sections =
        lookup-both name_of (λ ps. ps) _ (is_name (str_name name)) (same_name name text) ss ∙ option_map_id _

    pub section_removed-sections : section_removed (str_name name) (sections_of ss)
        ≡ sections_of (remove_entry (name_fits name) ss)
    section_removed-sections =
        remove_entry-both name_of (λ ps. ps) _ (is_name (str_name name)) (same_name name text) ss

    pub sections_named-sections : sections_named (str_name name) (sections_of ss)
        ≡ values_at (name_fits name) ss
    sections_named-sections =
        values_at-both name_of (λ ps. ps) _ (is_name (str_name name)) (same_name name text) ss ∙ map-id _

    pub set-sections : (ps : Pairs)
        → set_value (is_name (str_name name)) (sections_of ss) ps
        ≡ sections_of (set_value (name_fits name) ss ps)
    set-sections ps =
        set_value-both name_of (λ qs. qs) _ (is_name (str_name name)) (same_name name text) ss ps

-- bytes by which a section is found are UTF-8
module _ {Z : Type 0} (name : Option (Bor (List ℕ))) where
  pub found_by_text : (ss : List (Option (String Z) × Pairs)) → IsSome (lookup (name_fits name) ss)
      → IfSome name (λ s. IsUtf8 s.now)
  found_by_text = found (name_fits name) (IfSome name (λ s. IsUtf8 s.now)) (fitting_name name)

-- clones show the same
module _ {Z : Type 0} (IsClone : Option (String Z) → Option (String Z) → Type 0)
    (none : (t : String Z) → ¬ (IsClone None (Some t))) (some : (s : String Z) → ¬ (IsClone (Some s) None))
    (both : (s t : String Z) → IsClone (Some s) (Some t) → string_bytes t ≡ string_bytes s) where
  name_of-clone : (m n : Option (String Z)) → IsClone m n → name_of n ≡ name_of m
  name_of-clone None None h = refl
  name_of-clone None (Some t) h = absurd (none t h)
  name_of-clone (Some s) None h = absurd (some s h)
  name_of-clone (Some s) (Some t) h = ap (λ bs. Some (chars bs)) (both s t h)

  pub sections_of-clones : (ss ts : List (Option (String Z) × Pairs))
      → AllZip (λ s t. IsClone s.0 t.0 × (t.1 ≡ s.1)) ss ts → sections_of ts ≡ sections_of ss
  sections_of-clones [] [] e = refl
  sections_of-clones [] (t ∷ ts) e = absurd e
  sections_of-clones (s ∷ ss) [] e = absurd e
  sections_of-clones (s ∷ ss) (t ∷ ts) e =
      λ i. (name_of-clone s.0 t.0 e.0.0 i, e.0.1 i) ∷ sections_of-clones ss ts e.1 i

pub ruleset sections = (
  length-names-sections,
  names-sections,
  sections_named-sections,
  first_section-sections,
  section_removed-sections,
)
