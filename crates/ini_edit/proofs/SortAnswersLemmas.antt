-- A text that is sorted answers each look-up as before.
use Rattle.std.proofs.Common.{◌≡◌, ◌∙◌, ◌&&◌, ℕ, Bool, true, false, cond, List, [], ◌∷◌, Option, None, Some}
use Rattle.std.proofs.Common.{ap, ap₂, map, refl, subst, sym}
use Rattle.std.specs.List.{filter}
use Rattle.std.specs.List.Sorted.{IsPermutation}
use Rattle.std.proofs.lemmas.List.Sorted.{IsPermutation-map, IsPermutation-refl}
use Rattle.ini.specs.Properties.{Pairs}
use Rattle.ini.specs.Texts.{Text, is_name, is_text}
use Rattle.ini_text.specs.Grammar.CharacterKinds.{line_feed}
use Rattle.ini_text.specs.Grammar.Positions.{last_or}
use Rattle.ini_edit.specs.SourcePlaces.{is_nil}
use Rattle.ini_edit.specs.Sorting.{IsKeySorted, IsOrdered, IsSortedIf, KeysSorted, PairUnit, SectionSaid}
use Rattle.ini_edit.specs.Sorting.{SectionUnit, above_after, above_header, looked_up, name_key}
use Rattle.ini_edit.specs.Sorting.{pair_said, pair_units, section_said, section_units, sorts_keys}
use Rattle.ini_edit.specs.Sorting.{sorts_sections, unit_key, unit_name, units_in, values_of}
use Rattle.ini_edit.specs.Sources.{PairPiece, Pieces, SectionPiece, document_in, given_pair, given_section}
use Rattle.ini_edit.specs.Sources.{section_text}
use Rattle.ini_edit.specs.declared.source.layout.sort.Sorting.{Sorting}
use Rattle.ini_edit.proofs.SortedLemmas.{filter_mapped, filter_same}
use Rattle.ini_edit.proofs.UnitSaidLemmas.{mapped_twice}

-- what a unit gives: a name, and keys with values
abbrev given_unit : PairUnit → Text × Text
given_unit u = given_pair u.pair

abbrev pub section_given : SectionUnit → Option Text × Pairs
section_given u = (u.section.name, map given_unit u.pairs)

abbrev said_given : SectionSaid → Option Text × Pairs
said_given s = (s.name, map (λ p. (p.key, p.value)) s.pairs)

-- that of a text's units is its document
pairs_give : (is_last : Bool) (above : Text) (ps : List PairPiece)
    → map given_unit (pair_units is_last above ps) ≡ map given_pair ps
pairs_give is_last above [] = refl
pairs_give is_last above (p ∷ ps) =
    ap (λ l. given_pair p ∷ l) (pairs_give is_last (above_after (is_last && is_nil ps) p) ps)

sections_give : (front : ℕ) (above : Text) (ss : List SectionPiece)
    → map section_given (section_units front above ss) ≡ map given_section ss
sections_give front above [] = refl
sections_give front above (s ∷ ss) =
    ap₂ (λ x xs. x ∷ xs) (ap (λ l. (s.name, l)) (pairs_give (is_nil ss) _ s.pairs))
    (sections_give (last_or front (section_text s)) (above_header front (is_nil ss) s) ss)

pub units_give : (p : Pieces) → map section_given (units_in p) ≡ document_in p
units_give p = sections_give line_feed [] p.sections

-- and what units say gives it
section_says : (u : SectionUnit) → section_given u ≡ said_given (section_said u)
section_says u = ap (λ l. (u.section.name, l)) (sym (mapped_twice (λ p. (p.key, p.value)) pair_said u.pairs))

sections_say : (us : List SectionUnit) → map section_given us ≡ map said_given (map section_said us)
sections_say [] = refl
sections_say (u ∷ us) = ap₂ (λ x xs. x ∷ xs) (section_says u) (sections_say us)

pub said_gives : (us vs : List SectionUnit) → map section_said us ≡ map section_said vs
    → map section_given us ≡ map section_given vs
said_gives us vs h = sections_say us ∙ ap (map said_given) h ∙ sym (sections_say vs)

-- the values of a key in a section whose pairs are sorted, or as they are
key_kept : (sorts : Bool) (key : Text) (ps qs : List PairUnit) → IsSortedIf sorts unit_key ps qs
    → filter (λ p. is_text key p.pair.key) qs ≡ filter (λ p. is_text key p.pair.key) ps
key_kept true key ps qs h = h.each key
key_kept false key ps qs h = ap (filter (λ p. is_text key p.pair.key)) h

values_kept : (sorts : Bool) (key : Text) (name : Option Text) (ps qs : List PairUnit)
    → IsSortedIf sorts unit_key ps qs
    → values_of key (name, map given_unit qs) ≡ values_of key (name, map given_unit ps)
values_kept sorts key name ps qs h =
    let test : Text × Text → Bool = λ p. is_text key p.0 in
    let snd : Text × Text → Text = λ p. p.1 in
    ap (map snd) (filter_mapped test given_unit qs ∙ ap (map given_unit) (key_kept sorts key ps qs h)
    ∙ sym (filter_mapped test given_unit ps))

abbrev with_units : SectionUnit → List PairUnit → SectionUnit
with_units u ps = record u { pairs = ps }

name_kept : (sorts : Bool) (u v : SectionUnit) → IsKeySorted sorts u v → v.section.name ≡ u.section.name
name_kept sorts u v h = ap (λ w. w.section.name) h.stays

module _ (sorts : Bool) (name : Option Text) (key : Text) where
  section_kept : (u v : SectionUnit) → IsKeySorted sorts u v
      → values_of key (section_given v) ≡ values_of key (section_given u)
  section_kept u v h =
      ap (λ n. values_of key (n, map given_unit v.pairs)) (name_kept sorts u v h)
      ∙ values_kept sorts key u.section.name u.pairs v.pairs h.pairs

  pub keys_kept : (us vs : List SectionUnit) → KeysSorted sorts us vs
      → looked_up name key (map section_given vs) ≡ looked_up name key (map section_given us)
  keys_kept [] [] h = refl
  keys_kept [] (v ∷ vs) h = absurd h
  keys_kept (u ∷ us) [] h = absurd h
  keys_kept (u ∷ us) (v ∷ vs) h =
      let found : List SectionUnit → List (Option Text × Pairs) =
      λ l. filter (λ s. is_name name s.0) (map section_given l) in
      let one = section_kept u v h.0 in
      let rest = keys_kept us vs h.1 in
      ap (λ n. map (values_of key) (cond (is_name name n) (section_given v ∷ found vs) (found vs)))
      (name_kept sorts u v h.0)
      ∙ elim (is_name name u.section.name) as (λ b.
      map (values_of key) (cond b (section_given v ∷ found vs) (found vs))
      ≡ map (values_of key) (cond b (section_given u ∷ found us) (found us))) [
        | true ↦ ap₂ (λ x xs. x ∷ xs) one rest
        | false ↦ rest
      ]

pub names_kept : (sorts : Bool) (us vs : List SectionUnit) → KeysSorted sorts us vs
    → map (λ u. u.section.name) vs ≡ map (λ u. u.section.name) us
names_kept sorts [] [] h = refl
names_kept sorts [] (v ∷ vs) h = absurd h
names_kept sorts (u ∷ us) [] h = absurd h
names_kept sorts (u ∷ us) (v ∷ vs) h =
    ap₂ (λ x xs. x ∷ xs) (name_kept sorts u v h.0) (names_kept sorts us vs h.1)

-- sections that are sorted, or as they are
name_keyed : (a b : Option Text) → is_name a b ≡ is_text (name_key a) (name_key b)
name_keyed None None = refl
name_keyed None (Some b) = refl
name_keyed (Some a) None = refl
name_keyed (Some a) (Some b) = refl

of_name : (sorts : Bool) (name : Option Text) (us vs : List SectionUnit) → IsSortedIf sorts unit_name us vs
    → filter (λ u. is_name name u.section.name) vs ≡ filter (λ u. is_name name u.section.name) us
of_name true name us vs h =
    let same : (u : SectionUnit) → is_name name u.section.name ≡ is_text (name_key name) (unit_name u) =
    λ u. name_keyed name u.section.name in
    filter_same _ _ same vs ∙ h.each (name_key name) ∙ sym (filter_same _ _ same us)
of_name false name us vs h = ap (filter (λ u. is_name name u.section.name)) h

pub sections_kept : (sorts : Bool) (name : Option Text) (key : Text) (us vs : List SectionUnit)
    → IsSortedIf sorts unit_name us vs
    → looked_up name key (map section_given vs) ≡ looked_up name key (map section_given us)
sections_kept sorts name key us vs h =
    let test : Option Text × Pairs → Bool = λ s. is_name name s.0 in
    ap (map (values_of key)) (filter_mapped test section_given vs
    ∙ ap (map section_given) (of_name sorts name us vs h) ∙ sym (filter_mapped test section_given us))

pub sections_moved : (sorts : Bool) (us vs : List SectionUnit) → IsSortedIf sorts unit_name us vs
    → IsPermutation us vs
sections_moved true us vs h = h.moved
sections_moved false us vs h = subst (IsPermutation us) (sym h) (IsPermutation-refl us)

-- both
module _ (sorting : Sorting) (us vs : List SectionUnit) (h : IsOrdered sorting us vs) where
  pub order_answers : (name : Option Text) (key : Text)
      → looked_up name key (map section_given vs) ≡ looked_up name key (map section_given us)
  order_answers name key =
      sections_kept (sorts_sections sorting) name key h.by_key vs h.sections
      ∙ keys_kept (sorts_keys sorting) name key us h.by_key h.keys

  pub order_names : IsPermutation (map (λ u. u.section.name) us) (map (λ u. u.section.name) vs)
  order_names =
      subst (λ l. IsPermutation l (map (λ u. u.section.name) vs))
      (names_kept (sorts_keys sorting) us h.by_key h.keys)
      (IsPermutation-map (λ u. u.section.name) h.by_key vs
      (sections_moved (sorts_sections sorting) h.by_key vs h.sections))

-- names of what units give
names_given : (us : List SectionUnit) → map (λ s. s.0) (map section_given us) ≡ map (λ u. u.section.name) us
names_given us = mapped_twice (λ s. s.0) section_given us

module _ (sorting : Sorting) (old new : Pieces) (us : List SectionUnit)
    (h : IsOrdered sorting (units_in old) us)
    (said : map section_said (units_in new) ≡ map section_said us) where
  given_new : document_in new ≡ map section_given us
  given_new = sym (units_give new) ∙ said_gives (units_in new) us said

  pub text_answers : (name : Option Text) (key : Text)
      → looked_up name key (document_in new) ≡ looked_up name key (document_in old)
  text_answers name key =
      ap (looked_up name key) given_new ∙ order_answers sorting (units_in old) us h name key
      ∙ ap (looked_up name key) (units_give old)

  pub text_names : IsPermutation (map (λ s. s.0) (document_in old)) (map (λ s. s.0) (document_in new))
  text_names =
      let from : map (λ u. u.section.name) (units_in old) ≡ map (λ s. s.0) (document_in old) =
      sym (names_given (units_in old)) ∙ ap (map (λ s. s.0)) (units_give old) in
      let to : map (λ u. u.section.name) us ≡ map (λ s. s.0) (document_in new) =
      sym (names_given us) ∙ ap (map (λ s. s.0)) (sym given_new) in
      subst (λ l. IsPermutation l (map (λ s. s.0) (document_in new))) from
      (subst (IsPermutation (map (λ u. u.section.name) (units_in old))) to
      (order_names sorting (units_in old) us h))
