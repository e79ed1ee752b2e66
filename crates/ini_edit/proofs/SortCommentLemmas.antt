-- A text that is sorted has its comments, each as often.
use Rattle.std.proofs.Common.{◌≡◌, ◌∙◌, ◌+◌, ℕ, Bool, true, false, List, [], ◌∷◌, ap, ap₂, map, refl, sym}
use Rattle.std.specs.Prelude.{count_by, sum_by}
use Rattle.std.proofs.lemmas.List.Sums.{sum_by-cons}
use Rattle.std.proofs.lemmas.List.Sorted.{IsPermutation-map, sum_by-IsPermutation}
use Rattle.ini.specs.Texts.{Text, is_text}
use Rattle.ini_edit.specs.SourceEntries.{comments_in}
use Rattle.ini_edit.specs.Sorting.{IsKeySorted, IsOrdered, IsSortedIf, KeysSorted, PairUnit, SectionUnit}
use Rattle.ini_edit.specs.Sorting.{pair_said, section_said, sorts_keys, sorts_sections, times_in}
use Rattle.ini_edit.specs.Sorting.{times_of_pair, times_of_section, unit_key, unit_name, units_in}
use Rattle.ini_edit.specs.Sources.{Pieces}
use Rattle.ini_edit.specs.declared.source.layout.sort.Sorting.{Sorting}
use Rattle.ini_edit.proofs.SortAnswersLemmas.{sections_moved}

module _ (comments : Text) where
  pairs_times : (sorts : Bool) (ps qs : List PairUnit) → IsSortedIf sorts unit_key ps qs
      → sum_by (times_of_pair comments) (map pair_said qs)
      ≡ sum_by (times_of_pair comments) (map pair_said ps)
  pairs_times true ps qs h =
      sum_by-IsPermutation (times_of_pair comments) (map pair_said ps) (map pair_said qs)
      (IsPermutation-map pair_said ps qs h.moved)
  pairs_times false ps qs h = ap (λ l. sum_by (times_of_pair comments) (map pair_said l)) h

  section_times : (sorts : Bool) (u v : SectionUnit) → IsKeySorted sorts u v
      → times_of_section comments (section_said v) ≡ times_of_section comments (section_said u)
  section_times sorts u v h =
      let own : SectionUnit → ℕ =
      λ w. count_by (is_text comments) (comments_in w.above ∷ comments_in w.rest ∷ []) in
      ap₂ (λ m n. m + n) (ap own h.stays) (pairs_times sorts u.pairs v.pairs h.pairs)

  abbrev times : List SectionUnit → ℕ
  times us = sum_by (times_of_section comments) (map section_said us)

  keys_times : (sorts : Bool) (us vs : List SectionUnit) → KeysSorted sorts us vs → times vs ≡ times us
  keys_times sorts [] [] h = refl
  keys_times sorts [] (v ∷ vs) h = absurd h
  keys_times sorts (u ∷ us) [] h = absurd h
  keys_times sorts (u ∷ us) (v ∷ vs) h =
      sum_by-cons (times_of_section comments) (section_said v) (map section_said vs)
      ∙ ap₂ (λ m n. m + n) (section_times sorts u v h.0) (keys_times sorts us vs h.1)
      ∙ sym (sum_by-cons (times_of_section comments) (section_said u) (map section_said us))

  sections_times : (sorts : Bool) (us vs : List SectionUnit) → IsSortedIf sorts unit_name us vs
      → times vs ≡ times us
  sections_times sorts us vs h =
      sum_by-IsPermutation (times_of_section comments) (map section_said us) (map section_said vs)
      (IsPermutation-map section_said us vs (sections_moved sorts us vs h))

  pub text_times : (sorting : Sorting) (old new : Pieces) (us : List SectionUnit)
      → IsOrdered sorting (units_in old) us → map section_said (units_in new) ≡ map section_said us
      → times_in comments new ≡ times_in comments old
  text_times sorting old new us h said =
      ap (sum_by (times_of_section comments)) said
      ∙ sections_times (sorts_sections sorting) h.by_key us h.sections
      ∙ keys_times (sorts_keys sorting) (units_in old) h.by_key h.keys
