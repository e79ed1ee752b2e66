-- Settings made under a rule, one setting on.
use Rattle.std.proofs.Common.{◌≡◌, ◌<◌, ◌+◌, ◌∙◌, ℕ, List, [], ◌∷◌, ◌++◌, length, suc, subst, sym, ap, map}
use Rattle.std.proofs.Common.{refl, add-one, arith, drop, drop-cons, get_or, length-take, take}
use Rattle.std.proofs.Common.{take-append-drop, take-suc}
use Rattle.std.proofs.lemmas.List.{get_or_default, length-map, map-append}
use Rattle.ini_text.specs.declared.write.option.WriteOption.{WriteOption}
use Rattle.ini_edit.specs.Editings.{Editing, Set, SetExisting, Add, Delete, RenameKey, DeleteSection}
use Rattle.ini_edit.specs.Editings.{RenameSection, editing_of}
use Rattle.ini_edit.specs.Sources.{Pieces}
use Rattle.ini_edit.specs.declared.edits.Edit.{Edit}
use Rattle.ini_edit.specs.declared.error.EditError.{EditError}
use Rattle.ini_dialect.specs.SourceLookups.{IsPutUnder}
use Rattle.ini_dialect.specs.declared.rule.Lookup.{Lookup}
use Rattle.ini_file.specs.RuledMerges.{AreSettingsMade, MakesSetting, RefusesOneSetting, RefusesSetting}
use Rattle.ini_file.proofs.FurtherLemmas.{added_pair}

module _ (rule : Lookup) (w : WriteOption) where
  module _ (edits : List Edit) (i : ℕ) (otherwise : Edit) (within : i < length edits) {p q : Pieces}
      (made : AreSettingsMade rule w (map editing_of (take i edits)) p q) where
    abbrev edit : Edit
    edit = get_or edits i otherwise

    is_at : edit ≡ get_or edits i edit
    is_at = get_or_default edits i otherwise edit within

    -- one setting more is made
    pub one_more_made : {r : Pieces} → MakesSetting rule w (editing_of edit) q r
        → AreSettingsMade rule w (map editing_of (take (i + 1) edits)) p r
    one_more_made {r} makes =
        let taken : map editing_of (take (i + 1) edits)
        ≡ map editing_of (take i edits) ++ editing_of edit ∷ [] =
        rw (add-one, take-suc edits i edit within, ← is_at) (map-append editing_of (take i edits) (edit ∷ [])) in
        subst (λ es. AreSettingsMade rule w es p r) (sym taken)
        (AreSettingsMade.then_made made (editing_of edit) makes)

    -- it is refused
    pub one_not_made : (e : EditError) → RefusesSetting rule w (editing_of edit) q e
        → RefusesOneSetting rule w (map editing_of edits) p (record { index = i; refusal = e })
    one_not_made e refused =
        let split : drop i edits ≡ edit ∷ drop (suc i) edits =
        drop-cons edits i edit within ∙ ap (λ x. x ∷ drop (suc i) edits) (sym is_at) in
        record {
          before = map editing_of (take i edits);
          edit = editing_of edit;
          following = map editing_of (drop (suc i) edits);
          whole = ap (map editing_of) (sym (take-append-drop i edits))
              ∙ (map-append editing_of (take i edits) (drop i edits)
              ∙ ap (λ es. map editing_of (take i edits) ++ map editing_of es) split);
          is_at = simp (length-map, length-take) (omega arith);
          mid = q;
          are_made = made;
          is_refused = refused;
        }

  put_keeps : (p q : Pieces) (e : Editing) → MakesSetting rule w e p q → q.option ≡ p.option
  put_keeps p q (Set name key value) (IsPutUnder.in_place set) = set.is_set.option
  put_keeps p q (Set name key value) (IsPutUnder.in_new_pair none added) = added_pair added.adds
  put_keeps p q (SetExisting name key value) same = ap (λ (p : Pieces). p.option) same
  put_keeps p q (Add name key value) same = ap (λ (p : Pieces). p.option) same
  put_keeps p q (Delete name key) same = ap (λ (p : Pieces). p.option) same
  put_keeps p q (RenameKey name old new) same = ap (λ (p : Pieces). p.option) same
  put_keeps p q (DeleteSection name) same = ap (λ (p : Pieces). p.option) same
  put_keeps p q (RenameSection old new) same = ap (λ (p : Pieces). p.option) same

  pub settings_keep : {edits : List Editing} {p q : Pieces} → AreSettingsMade rule w edits p q
      → q.option ≡ p.option
  settings_keep AreSettingsMade.none_made = refl
  settings_keep (AreSettingsMade.then_made made e makes) = put_keeps _ _ e makes ∙ settings_keep made
