-- Steps of the walk that makes the units of sections, each with its pairs sorted, or as they are.
use Rattle.std.proofs.Common.{◌≡◌, ◌∙◌, ◌<◌, ◌≤◌, ◌+◌, ℕ, Bool, false, List, [], ◌∷◌, ◌++◌, ap, append-nil}
use Rattle.std.proofs.Common.{append_assoc, drop, get_or, length, refl, subst, sym}
use Rattle.std.proofs.lemmas.List.{drop_all}
use Rattle.ini.specs.Texts.{Text}
use Rattle.ini_text.specs.Grammar.Positions.{last_or}
use Rattle.ini_edit.specs.SourcePlaces.{is_nil}
use Rattle.ini_edit.specs.Sorting.{IsKeySorted, KeysSorted, PairUnit, SectionUnit, above_header}
use Rattle.ini_edit.specs.Sorting.{section_unit, section_units}
use Rattle.ini_edit.specs.Sources.{SectionPiece, section_text}
use Rattle.ini_edit.proofs.LayoutLemmas.{here}

module _ (sorts : Bool) (whole : List SectionUnit) where
  -- what is left of the units fits what is made so far
  abbrev pub UnitsFit : (so_far left : List SectionUnit) → Type 0
  UnitsFit so_far left =
      (us : List SectionUnit) → KeysSorted sorts left us → KeysSorted sorts whole (so_far ++ us)

  pub units_step : (front : ℕ) (above : Text) (so_far : List SectionUnit) (ss : List SectionPiece) (i : ℕ)
      (s : SectionPiece) {ends : Bool} {next : Text} {last : ℕ} {unit : SectionUnit}
      {more : List SectionUnit} → i < length ss → s ≡ get_or ss i s
      → UnitsFit so_far (section_units front above (drop i ss)) → ends ≡ is_nil (drop (i + 1) ss)
      → IsKeySorted sorts (section_unit above front ends s) unit → more ≡ so_far ++ unit ∷ []
      → next ≡ above_header front ends s → last ≡ last_or front (section_text s)
      → UnitsFit more (section_units last next (drop (i + 1) ss))
  units_step front above so_far ss i s {ends} {next} {last} {unit} {more} within is fit ends_is sorted
      more_is next_is last_is = λ us h.
      let left = drop (i + 1) ss in
      let end = is_nil left in
      let first : IsKeySorted sorts (section_unit above front end s) unit =
      subst (λ b. IsKeySorted sorts (section_unit above front b s) unit) ends_is sorted in
      let next_at : next ≡ above_header front end s = next_is ∙ ap (λ b. above_header front b s) ends_is in
      let rest : KeysSorted sorts
      (section_units (last_or front (section_text s)) (above_header front end s) left) us =
      subst (λ n. KeysSorted sorts (section_units n (above_header front end s) left) us) last_is
      (subst (λ a. KeysSorted sorts (section_units last a left) us) next_at h) in
      let both : KeysSorted sorts (section_units front above (s ∷ left)) (unit ∷ us) = (first, rest) in
      let all : KeysSorted sorts whole (so_far ++ unit ∷ us) =
      fit (unit ∷ us)
      (subst (λ l. KeysSorted sorts (section_units front above l) (unit ∷ us)) (sym (here ss i s within is))
      both) in
      subst (λ l. KeysSorted sorts whole l)
      (sym (ap (λ l. l ++ us) more_is ∙ append_assoc so_far (unit ∷ []) us)) all

  pub units_end : (front : ℕ) (above : Text) (so_far : List SectionUnit) (ss : List SectionPiece) (i : ℕ)
      → length ss ≤ i → UnitsFit so_far (section_units front above (drop i ss))
      → KeysSorted sorts whole so_far
  units_end front above so_far ss i all fit =
      let none : section_units front above (drop i ss) ≡ [] =
      ap (section_units front above) (drop_all i ss all) in
      subst (λ l. KeysSorted sorts whole l) (append-nil so_far)
      (fit [] (subst (λ l. KeysSorted sorts l []) (sym none) tt))

-- where pairs aren't sorted, all stay
abbrev with_units : SectionUnit → List PairUnit → SectionUnit
with_units u ps = record u { pairs = ps }

pub keys_stay : (us vs : List SectionUnit) → KeysSorted false us vs → vs ≡ us
keys_stay [] [] h = refl
keys_stay [] (v ∷ vs) h = absurd h
keys_stay (u ∷ us) [] h = absurd h
keys_stay (u ∷ us) (v ∷ vs) h =
    let same : v.pairs ≡ u.pairs = h.0.pairs in
    let one : v ≡ u = h.0.stays ∙ ap (with_units u) same in
    ap (λ x. x ∷ vs) one ∙ ap (λ l. u ∷ l) (keys_stay us vs h.1)
