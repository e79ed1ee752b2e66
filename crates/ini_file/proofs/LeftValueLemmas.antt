-- What look-ups answer once conflicts are left.
use Rattle.std.proofs.Common.{◌≡◌, ◌∙◌, ap, refl, sym, Bool, true, false, cond, not, ◌&&◌, List, []}
use Rattle.std.proofs.Common.{◌∷◌, ◌++◌, map, filter, Option, None, Some, is_some}
use Rattle.std.proofs.lemmas.List.{map-append}
use Rattle.std.proofs.lemmas.List.Elements.{filter-append}
use Rattle.std.specs.Prelude.{MatchOption}
use Rattle.std.specs.Option.{option_or}
use Rattle.ini_text.specs.declared.write.option.WriteOption.{WriteOption}
use Rattle.ini.specs.Documents.{Document, value_in}
use Rattle.ini.specs.Texts.{Text, is_name}
use Rattle.ini_edit.specs.Sources.{Pieces, document_in}
use Rattle.ini_dialect.specs.Flattened.{told, told_name}
use Rattle.ini_dialect.specs.declared.rule.Lookup.{Lookup}
use Rattle.ini_layers.specs.Applying.{HasChangedBy, fits_change, meant_changes, value_after}
use Rattle.ini_layers.specs.Differences.{SettingChange, change_of, difference}
use Rattle.ini_layers.specs.Merging.{IsMergedBy, SettingConflict, chosen, conflicts_by, conflicts_with}
use Rattle.ini_layers.specs.Merging.{is_conflict, merged_value, with_theirs}
use Rattle.ini_layers.specs.Settings.{flat_by, value_by}
use Rattle.ini_layers.specs.SourceChanges.{AreMadeBy, IsMadeBy}
use Rattle.ini_layers.specs.declared.change.SettingValue.{SettingValue}
use Rattle.ini_layers.specs.declared.merging.Side.{Side}
use Rattle.ini_layers.specs.declared.merging.Side.TheVariants.{Theirs as TheirSide}
use Rattle.ini_layers.proofs.AfterLemmas.{after-append, after-difference, filter-both, meant-difference}
use Rattle.ini_layers.proofs.MadeLemmas.{made-values, meant-append}
use Rattle.ini_layers.proofs.ToldLemmas.{after-told, difference-told, flat-by, passing-told}
use Rattle.ini_file.specs.LeftConflicts.{AreLeft, AreLeftUnless, IsLeft, IsPutAbove, MakesOurs}
use Rattle.ini_file.specs.ThreeWays.{HasThreeWayValues, side_below, three_way_value}

-- ours has a value
abbrev has_value : SettingChange → Bool
has_value c = is_some c.new

-- the changes of ours that are set where conflicts are left
abbrev set_changes : List SettingConflict → List SettingChange
set_changes conflicts = filter has_value (map (λ (c : SettingConflict). c.change) conflicts)

module _ (which : SettingValue) (rule : Lookup) (w : WriteOption) where
  -- a comment keeps the document
  put-document : {name : Option Text} {key comment : Text} {old new : Pieces}
      → IsPutAbove which rule w name key comment old new → document_in new ≡ document_in old
  put-document (IsPutAbove.above stands put) = put.commented.document
  put-document (IsPutAbove.nowhere none is) = ap document_in is

  left-document : {old new : Pieces} {c : SettingConflict} (left : IsLeft which rule w c old new)
      → document_in new ≡ document_in left.made
  left-document left = put-document left.theirs ∙ put-document left.ours

  -- the value of ours is set, where it has one
  ours-values : (old made : Pieces) (c : SettingChange) → MakesOurs which rule w c old made
      → HasChangedBy which rule (filter has_value (c ∷ [])) (document_in old) (document_in made)
  ours-values old made c is name key = at c.new is
    where
      at : (n : Option Text) → MatchOption n (made ≡ old) (λ value. IsMadeBy which rule w c old made)
          → value_by which rule name key (document_in made)
          ≡ value_after (fits_change rule name key) (meant_changes which (cond (is_some n) (c ∷ []) []))
          (value_by which rule name key (document_in old))
      at None same =
          ap (λ p. value_by which rule name key (document_in p)) same
          ∙ made-values which rule w {old = old} {new = old} {changes = []} AreMadeBy.none name key
      at (Some value) sets = made-values which rule w (AreMadeBy.then c AreMadeBy.none sets) name key

  -- so are those of all conflicts
  left-values : {old new : Pieces} {conflicts : List SettingConflict} → AreLeft which rule w old conflicts new
      → HasChangedBy which rule (set_changes conflicts) (document_in old) (document_in new)
  left-values {old} AreLeft.none name key =
      made-values which rule w {old = old} {new = old} {changes = []} AreMadeBy.none name key
  left-values {old} {new} (AreLeft.then {conflicts} c left is) name key =
      let of = fits_change rule name key in
      let value = value_by which rule name key (document_in old) in
      let last = filter has_value (c.change ∷ []) in
      let before = meant_changes which (set_changes conflicts) in
      let split : set_changes (conflicts ++ c ∷ []) ≡ set_changes conflicts ++ last =
      ap (filter has_value) (map-append (λ (x : SettingConflict). x.change) conflicts (c ∷ []))
      ∙ filter-append has_value (map (λ (x : SettingConflict). x.change) conflicts) (c.change ∷ []) in
      ap (value_by which rule name key) (left-document is)
      ∙ ours-values _ _ c.change is.is_made name key
      ∙ ap (value_after of (meant_changes which last)) (left-values left name key)
      ∙ sym (ap (λ l. value_after of (meant_changes which l) value) split
      ∙ ap (λ l. value_after of l value) (meant-append which rule w (set_changes conflicts) last)
      ∙ after-append of before (meant_changes which last) value)

-- those are the changes of settings in conflict to which ours gave a value
conflict_changes : (theirs : Document) (changes : List SettingChange)
    → map (λ (c : SettingConflict). c.change) (map (with_theirs theirs) changes) ≡ changes
conflict_changes theirs [] = refl
conflict_changes theirs (c ∷ changes) = ap (λ l. c ∷ l) (conflict_changes theirs changes)

-- that value, or what was merged, is what the setting has then
left_value : (base ours theirs : Option Text)
    → cond (not (is_name base ours) && (is_conflict base ours theirs && is_some ours)) ours
    (merged_value TheirSide base ours theirs)
    ≡ three_way_value None base ours theirs
left_value base ours theirs = at (is_name base ours) (is_name base theirs) (is_name ours theirs) ours theirs
  where
    at : (x z y : Bool) (o t : Option Text)
        → cond (not x && ((not x && (not z && not y)) && is_some o)) o
        (cond x t (cond z o (cond y t (chosen TheirSide o t))))
        ≡ cond (not x && (not z && not y)) (option_or o t)
        (cond x t (cond z o (cond y t (chosen TheirSide o t))))
    at true z y o t = refl
    at false true y o t = refl
    at false false true o t = refl
    at false false false None t = refl
    at false false false (Some value) t = refl

at_each : {X : Type 0} (f : (base ours theirs : Option Text) → X) {b o t base ours theirs : Option Text}
    → b ≡ base → o ≡ ours → t ≡ theirs → f b o t ≡ f base ours theirs
at_each f {b} {o} {t} {base} {ours} p q r =
    ap (λ v. f v o t) p ∙ ap (λ v. f base v t) q ∙ ap (f base ours) r

left-merged : (which : SettingValue) (rule : Lookup) (base ours theirs mid new : Document)
    → IsMergedBy which rule TheirSide base ours theirs mid
    → HasChangedBy which rule (set_changes (conflicts_by which rule base ours theirs)) mid new
    → (name : Option Text) (key : Text) → value_by which rule name key new
    ≡ three_way_value None (value_by which rule name key base) (value_by which rule name key ours)
    (value_by which rule name key theirs)
left-merged which rule base ours theirs mid new merged has name key =
    let n = told_name rule.case name in
    let k = told rule.case key in
    let fb = flat_by which rule base in
    let fo = flat_by which rule ours in
    let ft = flat_by which rule theirs in
    let b = value_in n k fb in
    let o = value_in n k fo in
    let t = value_in n k ft in
    let p : b ≡ value_by which rule name key base = flat-by which rule base name key in
    let q : o ≡ value_by which rule name key ours = flat-by which rule ours name key in
    let r : t ≡ value_by which rule name key theirs = flat-by which rule theirs name key in
    let test : SettingChange → Bool = λ c. conflicts_with ft c && has_value c in
    let value = value_by which rule name key mid in
    let listed : set_changes (conflicts_by which rule base ours theirs) ≡ filter test (difference fb fo) =
    ap (filter has_value) (conflict_changes ft (filter (conflicts_with ft) (difference fb fo)))
    ∙ filter-both (conflicts_with ft) has_value (difference fb fo) in
    has name key
    ∙ ap (λ cs. value_after (fits_change rule name key) (meant_changes which cs) value) listed
    ∙ ap (λ cs. value_after (fits_change rule name key) cs value) (meant-difference which rule test base ours)
    ∙ after-told which rule name key (filter test (difference fb fo)) value
    (passing-told which rule test (difference fb fo) (difference-told which rule base ours))
    ∙ after-difference fb fo n k test value
    ∙ ap (cond (not (is_name b o) && test (change_of fb fo (n, k))) o)
    (merged name key ∙ sym (at_each (merged_value TheirSide) p q r))
    ∙ left_value b o t
    ∙ at_each (three_way_value None) p q r

-- with a side, and without one
pub has_values : (which : SettingValue) (rule : Lookup) (w : WriteOption) (side : Option Side)
    (base ours theirs : Document) (mid new : Pieces)
    → IsMergedBy which rule (side_below side) base ours theirs (document_in mid)
    → AreLeftUnless which rule w side mid (conflicts_by which rule base ours theirs) new
    → HasThreeWayValues which rule side base ours theirs (document_in new)
has_values which rule w (Some side) base ours theirs mid new merged same = record {
  each = λ name key. ap (λ p. value_by which rule name key (document_in p)) same ∙ merged name key;
}
has_values which rule w None base ours theirs mid new merged left = record {
  each = left-merged which rule base ours theirs (document_in mid) (document_in new) merged
      (left-values which rule w left);
}
