-- Conflicts left one after another, and comments put above a pair.
use Rattle.std.proofs.Common.{◌≡◌, ◌<◌, ◌+◌, ◌∙◌, ap, refl, subst, sym, ℕ, Bool, true, false, List, [], ◌∷◌}
use Rattle.std.proofs.Common.{◌++◌, Ok, Option, None, Err, Result, Some, add-one, alloc_error, append-nil}
use Rattle.std.proofs.Common.{append_assoc, arith, drop, drop-cons, get_or, length, length-take, map, take}
use Rattle.std.proofs.Common.{take-append-drop, take-suc}
use Rattle.std.proofs.lemmas.List.{length-map, map-append}
use Rattle.std.proofs.lemmas.Str.{chars-nil, scalars-chars}
use Rattle.std.specs.Prelude.{IfErr, IfOk, MatchOption, OnOk, codes, encode_utf8_all}
use Rattle.std.specs.Str.{IsUtf8, all_scalars, chars}
use Rattle.ini_text.specs.declared.error.Error.TheVariants.{Memory}
use Rattle.ini_text.specs.declared.write.option.WriteOption.{WriteOption}
use Rattle.ini_text.specs.declared.write.policy.EscapePolicy.TheVariants.{Basics}
use Rattle.ini_text.proofs.LawLemmas.ExportedLemmas.{escaped-scalars, scalars-append}
use Rattle.ini.specs.Texts.{Text}
use Rattle.ini_edit.specs.Sources.{Pieces}
use Rattle.ini_edit.specs.declared.edit_list.RefusedEdit.{RefusedEdit}
use Rattle.ini_edit.specs.declared.error.EditError.{EditError}
use Rattle.ini_edit.specs.declared.error.EditError.TheVariants.{Text as TextError}
use Rattle.ini_dialect.specs.CommentEdits.{IsCommentedUnder, RefusesCommentUnder, SetsCommentUnder}
use Rattle.ini_dialect.specs.CommentEdits.{StandsAbove}
use Rattle.ini_dialect.specs.declared.rule.Lookup.{Lookup}
use Rattle.ini_layers.specs.Differences.{SettingChange}
use Rattle.ini_layers.specs.Merging.{SettingConflict, setting_conflict}
use Rattle.ini_layers.specs.SourceChanges.{IsMadeBy}
use Rattle.ini_layers.specs.declared.merging.Conflict.{Conflict}
use Rattle.ini_layers.specs.declared.merging.Side.{Side}
use Rattle.ini_layers.specs.declared.change.SettingValue.{SettingValue}
use Rattle.ini_layers.proofs.MadeLemmas.{memory_refused}
use Rattle.ini_file.specs.ChangeLines.{escaped_part}
use Rattle.ini_file.specs.LeftConflicts.{AreLeft, IsLeft, IsPutAbove, MakesOurs, RefusesAbove}
use Rattle.ini_file.specs.LeftConflicts.{RefusesFirstToLeave, RefusesOneToLeave, RefusesToLeave}
use Rattle.ini_file.specs.LeftConflicts.{RefusesUnless, refused_before, side_comment}

chars-mark-ours : chars (codes "; ours") ≡ codes "; ours"
unfolding chars
chars-mark-ours = refl

chars-mark-theirs : chars (codes "; theirs") ≡ codes "; theirs"
unfolding chars
chars-mark-theirs = refl

module _ (which : SettingValue) (rule : Lookup) (w : WriteOption) where
  -- what is put above a pair that is there, as the call that puts it answers
  pub put_if : (old new : Pieces) (name : Option Text) (key above comment whole : Text)
      (r : Result Bool EditError) → StandsAbove rule name key old above → whole ≡ above ++ comment
      → IfOk r (SetsCommentUnder rule name key w old new whole)
      → OnOk r (IsPutAbove which rule w name key comment old new)
  put_if old new name key above comment whole (Ok true) stands is set =
      IsPutAbove.above stands (subst (IsCommentedUnder rule name key w old new) is set)
  put_if old new name key above comment whole (Ok false) stands is set = IsPutAbove.nowhere set.1 set.0
  put_if old new name key above comment whole (Err refusal) stands is set = tt

  pub refused_if : (p : Pieces) (name : Option Text) (key above comment whole : Text)
      (r : Result Bool EditError) → StandsAbove rule name key p above → whole ≡ above ++ comment
      → IfErr r (RefusesCommentUnder rule name key w p whole)
      → IfErr r (RefusesAbove which rule w name key comment p)
  refused_if p name key above comment whole (Ok is_found) stands is refused = tt
  refused_if p name key above comment whole (Err refusal) stands is refused =
      RefusesAbove.at_pair stands
      (subst (λ text. RefusesCommentUnder rule name key w p text refusal) is refused)

  -- ours is set, as the call that sets it answers
  pub ours_made : {A : Type 0} (old new : Pieces) (c : SettingChange) (value : Text)
      (r : Result A EditError) → c.new ≡ Some value → OnOk r (IsMadeBy which rule w c old new)
      → OnOk r (MakesOurs which rule w c old new)
  ours_made old new c value (Ok done) is made =
      subst (λ v. MatchOption v (new ≡ old) (λ x. IsMadeBy which rule w c old new)) (sym is) made
  ours_made old new c value (Err refusal) is made = tt

  -- a conflict is left
  module _ (c : SettingConflict) where
    ours_put : (old new : Pieces) → IsPutAbove which rule w c.change.name c.change.key
        (side_comment (chars (codes "; ours")) c.change.new) old new
        → IsPutAbove which rule w c.change.name c.change.key
        (side_comment (codes "; ours") c.change.new) old new
    ours_put old new = subst (λ side. IsPutAbove which rule w c.change.name c.change.key
        (side_comment side c.change.new) old new) chars-mark-ours

    pub all_left : (old made half new : Pieces) → MakesOurs which rule w c.change old made
        → IsPutAbove which rule w c.change.name c.change.key
        (side_comment (chars (codes "; ours")) c.change.new) made half
        → IsPutAbove which rule w c.change.name c.change.key
        (side_comment (chars (codes "; theirs")) c.theirs) half new
        → IsLeft which rule w c old new
    all_left old made half new is_made ours theirs = record {
      made = made;
      half = half;
      is_made = is_made;
      ours = ours_put made half ours;
      theirs = subst (λ side. IsPutAbove which rule w c.change.name c.change.key
          (side_comment side c.theirs) half new) chars-mark-theirs theirs;
    }

    pub ours_refused : (old made : Pieces) {e : EditError} → MakesOurs which rule w c.change old made
        → RefusesAbove which rule w c.change.name c.change.key
        (side_comment (chars (codes "; ours")) c.change.new) made e
        → RefusesToLeave which rule w c old e
    ours_refused old made {e} is_made refused =
        RefusesToLeave.ours made is_made (subst (λ side. RefusesAbove which rule w c.change.name c.change.key
        (side_comment side c.change.new) made e) chars-mark-ours refused)

    pub theirs_refused : (old made half : Pieces) {e : EditError} → MakesOurs which rule w c.change old made
        → IsPutAbove which rule w c.change.name c.change.key
        (side_comment (chars (codes "; ours")) c.change.new) made half
        → RefusesAbove which rule w c.change.name c.change.key
        (side_comment (chars (codes "; theirs")) c.theirs) half e
        → RefusesToLeave which rule w c old e
    theirs_refused old made half {e} is_made ours refused =
        RefusesToLeave.theirs made half is_made (ours_put made half ours)
        (subst (λ side. RefusesAbove which rule w c.change.name c.change.key
        (side_comment side c.theirs) half e)
        chars-mark-theirs refused)

  -- one conflict more is left
  pub one_left : {old mid new : Pieces} (conflicts : List Conflict) (i : ℕ) (d : Conflict)
      → i < length conflicts → AreLeft which rule w old (map setting_conflict (take i conflicts)) mid
      → IsLeft which rule w (setting_conflict (get_or conflicts i d)) mid new
      → AreLeft which rule w old (map setting_conflict (take (i + 1) conflicts)) new
  one_left {old} {mid} {new} conflicts i d within left is =
      let c = setting_conflict (get_or conflicts i d) in
      let taken : map setting_conflict (take (i + 1) conflicts)
      ≡ map setting_conflict (take i conflicts) ++ c ∷ [] =
      rw (add-one, take-suc conflicts i d within)
      (map-append setting_conflict (take i conflicts) (get_or conflicts i d ∷ [])) in
      subst (λ cs. AreLeft which rule w old cs new) (sym taken) (AreLeft.then c left is)

  -- of the conflicts the one at the index is refused
  pub one_not_left : {old mid : Pieces} (conflicts : List Conflict) (i : ℕ) (d : Conflict)
      (refusal : EditError) → i < length conflicts
      → AreLeft which rule w old (map setting_conflict (take i conflicts)) mid
      → RefusesToLeave which rule w (setting_conflict (get_or conflicts i d)) mid refusal
      → RefusesOneToLeave which rule w old (map setting_conflict conflicts)
      (record { index = i; refusal = refusal })
  one_not_left {old} {mid} conflicts i d refusal within left refused = record {
    before = map setting_conflict (take i conflicts);
    following = map setting_conflict (drop i conflicts);
    mid = mid;
    whole = ap (map setting_conflict) (sym (take-append-drop i conflicts))
        ∙ map-append setting_conflict (take i conflicts) (drop i conflicts);
    index = simp (length-map, length-take) (omega arith);
    are_left = left;
    is_refused = rw (drop-cons conflicts i d within) refused;
  }

  -- memory is refused before any is left
  pub none_left : (conflicts : List SettingConflict) (p : Pieces)
      → RefusesOneToLeave which rule w p conflicts
      (record { index = 0; refusal = TextError (Memory alloc_error) })
  none_left conflicts p = record {
    before = [];
    following = conflicts;
    mid = p;
    whole = refl;
    index = refl;
    are_left = AreLeft.none;
    is_refused = of conflicts;
  }
    where
      of : (cs : List SettingConflict)
          → RefusesFirstToLeave which rule w cs p (TextError (Memory alloc_error))
      of [] = refl
      of (c ∷ cs) =
          RefusesToLeave.value (memory_refused which rule w c.change.name c.change.key c.change.new p)

  pub refused_early : (side : Option Side) (conflicts : List SettingConflict) (p : Pieces)
      (refused : RefusedEdit) → refused ≡ refused_before → RefusesUnless which rule w side p conflicts refused
  refused_early (Some s) conflicts p refused is = is
  refused_early None conflicts p refused is =
      subst (RefusesOneToLeave which rule w p conflicts) (sym is) (none_left conflicts p)

-- the parts of a comment
module _ (above side has value : List ℕ) where
  abbrev parts : Text
  parts = (escaped_part [] ++ chars above) ++ ((escaped_part [] ++ chars side)
      ++ ((escaped_part [] ++ chars has) ++ ((escaped_part value ++ chars []) ++ [])))

  of-comment : parts ≡ chars above ++ (chars side ++ (chars has ++ escaped_part value))
  of-comment = rw chars-nil (simp (append_assoc, append-nil) refl)

  pub comment-bytes : (old new : List ℕ) → old ≡ [] → new ≡ old ++ encode_utf8_all parts
      → new ≡ encode_utf8_all (chars above ++ (chars side ++ (chars has ++ escaped_part value)))
  comment-bytes old new empty is =
      is ∙ ap (λ x. x ++ encode_utf8_all parts) empty ∙ ap encode_utf8_all of-comment

  pub comment-scalars : IsUtf8 above → IsUtf8 side → IsUtf8 has → IsUtf8 value
      → all_scalars (chars above ++ (chars side ++ (chars has ++ escaped_part value))) ≡ true
  comment-scalars a s h v =
      scalars-append (chars above) _ (scalars-chars above a)
      (scalars-append (chars side) _ (scalars-chars side s)
      (scalars-append (chars has) _ (scalars-chars has h)
      (escaped-scalars Basics (chars value) (scalars-chars value v))))
