-- What the calls of a list of strings do to the texts that it shows.
use Rattle.std.proofs.Common.{◌≡◌, ◌∙◌, ap, refl, [], ◌∷◌, ℕ, List, length, map, IsSome, String}
use Rattle.std.proofs.lemmas.List.{length-map}
use Rattle.std.specs.List.{AllZip}
use Rattle.std.specs.Map.{lookup, remove_entry, set_value}
use Rattle.std.specs.Option.{option_map}
use Rattle.std.specs.Str.{IsUtf8, chars, bytes_eq}
use Rattle.std.specs.String.{string_bytes, string_eq}
use Rattle.ini_multimap.specs.Pairs.{distinct_keys, insert_pair, values_at, without}
use Rattle.ini.specs.Texts.{is_text, text_of}
use Rattle.ini.specs.Properties.{all_removed, distinct, first_value, inserted, pairs_of, removed, values}
use Rattle.ini.proofs.ListLemmas.{lookup-both, remove_entry-both, set_value-both, without-both}
use Rattle.ini.proofs.ListLemmas.{values_at-both, insert_pair-both, distinct_keys-both, found}
use Rattle.ini.proofs.TextLemmas.{fitting_key, same_key, same_keys}

module _ {Z : Type 0} (ps : List (String Z × String Z)) where
  pub length-distinct-pairs : length (distinct (pairs_of ps)) ≡ length (distinct_keys string_eq ps)
  length-distinct-pairs =
      ap length (distinct_keys-both text_of text_of string_eq is_text same_keys ps) ∙ simp length-map

  pub inserted-pairs : (k v : String Z)
      → inserted (text_of k) (text_of v) (pairs_of ps) ≡ pairs_of (insert_pair (string_eq k) k v ps)
  inserted-pairs k v =
      insert_pair-both text_of text_of (string_eq k) (is_text (text_of k)) (same_keys k) k v ps

  -- bytes by which a value is found are UTF-8
  pub found_by_text : (u : List ℕ) → IsSome (lookup (λ k. bytes_eq u (string_bytes k)) ps) → IsUtf8 u
  found_by_text u = found (λ k. bytes_eq u (string_bytes k)) (IsUtf8 u) (fitting_key u) ps

  pub first_value-owned : (k : String Z)
      → first_value (text_of k) (pairs_of ps) ≡ option_map text_of (lookup (string_eq k) ps)
  first_value-owned k = lookup-both text_of text_of (string_eq k) (is_text (text_of k)) (same_keys k) ps

  module _ (u : List ℕ) (utf8 : IsUtf8 u) where
    pub first_value-pairs : first_value (chars u) (pairs_of ps)
        ≡ option_map text_of (lookup (λ k. bytes_eq u (string_bytes k)) ps)
    first_value-pairs = lookup-both text_of text_of _ (is_text (chars u)) (same_key u utf8) ps

    pub values-pairs : values (chars u) (pairs_of ps)
        ≡ map text_of (values_at (λ k. bytes_eq u (string_bytes k)) ps)
    values-pairs = values_at-both text_of text_of _ (is_text (chars u)) (same_key u utf8) ps

    pub removed-pairs : removed (chars u) (pairs_of ps)
        ≡ pairs_of (remove_entry (λ k. bytes_eq u (string_bytes k)) ps)
    removed-pairs = remove_entry-both text_of text_of _ (is_text (chars u)) (same_key u utf8) ps

    pub all_removed-pairs : all_removed (chars u) (pairs_of ps)
        ≡ pairs_of (without (λ k. bytes_eq u (string_bytes k)) ps)
    all_removed-pairs = without-both text_of text_of _ (is_text (chars u)) (same_key u utf8) ps

    pub set-pairs : (v : String Z)
        → set_value (is_text (chars u)) (pairs_of ps) (text_of v)
        ≡ pairs_of (set_value (λ k. bytes_eq u (string_bytes k)) ps v)
    set-pairs v = set_value-both text_of text_of _ (is_text (chars u)) (same_key u utf8) ps v

module _ {Z : Type 0} where
  -- clones show the same
  pub pairs_of-clones : (ps qs : List (String Z × String Z))
      → AllZip (λ p q. (string_bytes q.0 ≡ string_bytes p.0) × (string_bytes q.1 ≡ string_bytes p.1)) ps qs
      → pairs_of qs ≡ pairs_of ps
  pairs_of-clones [] [] e = refl
  pairs_of-clones [] (q ∷ qs) e = absurd e
  pairs_of-clones (p ∷ ps) [] e = absurd e
  pairs_of-clones (p ∷ ps) (q ∷ qs) e = λ i. (chars (e.0.0 i), chars (e.0.1 i)) ∷ pairs_of-clones ps qs e.1 i

pub ruleset reads = (
  first_value-owned,
  length-distinct-pairs,
  inserted-pairs,
  first_value-pairs,
  values-pairs,
  removed-pairs,
  all_removed-pairs,
  pairs_of-clones,
)
