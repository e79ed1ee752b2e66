-- Changes put into a text in pieces one after another: what each keeps, and where a list stops.
use Rattle.std.proofs.Common.{◌≡◌, ◌<◌, ◌+◌, ◌∙◌, ap, sym, refl, subst, inl, inr, ℕ, Bool, true, false, List}
use Rattle.std.proofs.Common.{[], ◌∷◌, ◌++◌, cond, map, take, drop, length, get_or, Option, None, Some}
use Rattle.std.proofs.Common.{Err, Ok, OnOk, Result, add-one, alloc_error, arith, drop-cons, length-take}
use Rattle.std.proofs.Common.{option_and_then, take-append-drop, take-suc}
use Rattle.std.proofs.lemmas.Bool.{cases_Bool}
use Rattle.std.proofs.lemmas.List.{length-map, map-append}
use Rattle.ini_text.specs.declared.error.Error.TheVariants.{Memory}
use Rattle.ini_text.specs.declared.write.option.WriteOption.{WriteOption}
use Rattle.ini.specs.Documents.{Document, value_in}
use Rattle.ini.specs.Edits.{set_in}
use Rattle.ini.specs.Properties.{first_value}
use Rattle.ini.specs.Texts.{Text, is_name, is_text}
use Rattle.ini.proofs.EditLawLemmas.{set-keys, set-names}
use Rattle.ini.proofs.KeepingLemmas.{names_equal, set-there}
use Rattle.ini_edit.specs.SourceEditsAdded.{IsSetIn}
use Rattle.ini_edit.specs.Sources.{Pieces, document_in}
use Rattle.ini_edit.specs.declared.error.EditError.{EditError}
use Rattle.ini_edit.specs.declared.error.EditError.TheVariants.{Text as TextError}
use Rattle.ini_edit.specs.declared.source.set.LaterPairs.{LaterPairs}
use Rattle.ini_edit.specs.declared.source.set.LaterPairs.TheVariants.{TakenOut}
use Rattle.ini_dialect.specs.ListEdits.{AreAllSetUnder, RefusesToSetAll}
use Rattle.ini_dialect.specs.Lists.{list_text, list_values}
use Rattle.ini_dialect.specs.Lookups.{all_values, counting, delete_under, name_fits, set_under}
use Rattle.ini_dialect.specs.Lookups.{value_under}
use Rattle.ini_dialect.specs.Rules.{default_lookup, is_own}
use Rattle.ini_dialect.specs.SourceLookups.{AddsPair, AreDeletedUnder, IsPutUnder, RefusesToPutUnder}
use Rattle.ini_dialect.specs.declared.rule.CaseRule.TheVariants.{Kept}
use Rattle.ini_dialect.specs.declared.rule.Lookup.{Lookup}
use Rattle.ini_dialect.specs.declared.rule.ValueRule.{ValueRule}
use Rattle.ini_dialect.specs.declared.rule.ValueRule.TheVariants.{First as FirstValue, Last}
use Rattle.ini_dialect.proofs.DefaultLemmas.{default-answers}
use Rattle.ini_dialect.proofs.LookupLawLemmas.{delete-answers, delete-keeps, set-answers, set-keeps}
use Rattle.ini_dialect.proofs.RuleLemmas.{own-default}
use Rattle.ini_layers.specs.Applying.{HasChangedBy, KeepsOthers, fits_change, meant_changes, meant_value}
use Rattle.ini_layers.specs.Applying.{value_after}
use Rattle.ini_layers.specs.Differences.{SettingChange, setting_change}
use Rattle.ini_layers.specs.Settings.{value_by}
use Rattle.ini_layers.specs.SourceChanges.{AreMadeBy, GetsValue, IsMadeBy, MakesValue, RefusesFirst}
use Rattle.ini_layers.specs.SourceChanges.{RefusesOneBy, RefusesToGet, RefusesValueBy, made_by}
use Rattle.ini_layers.specs.declared.change.SettingValue.{SettingValue}
use Rattle.ini_layers.specs.declared.change.SettingValue.TheVariants.{Counting, List as WholeList}
use Rattle.ini_layers.specs.declared.change.Change.{Change}
use Rattle.ini_layers.proofs.AfterLemmas.{after-append}
use Rattle.ini_layers.proofs.ToldLemmas.{alike-after}

-- what two clauses of a call give together
pub on_both : {A E : Type 0} {P Q R : Type 0} (r : Result A E) → OnOk r P → OnOk r Q → (P → Q → R) → OnOk r R
on_both (Ok x) p q both = both p q
on_both (Err e) p q both = tt

pub name_kept : (n m : Option Text) → name_fits Kept n m ≡ is_name n m
name_kept None None = refl
name_kept None (Some u) = refl
name_kept (Some t) None = refl
name_kept (Some t) (Some u) = refl

-- a value set in the first section of the name is what the default rule answers, and other look-ups stay
default_keeps : (name : Option Text) (key value : Text) (d : Document)
    → KeepsOthers default_lookup name key d (set_in name key value d)
default_keeps name key value d n k apart =
    default-answers.value n k (set_in name key value d)
    ∙ elim (cases_Bool (is_name n name)) [
      | inl same ↦
          let unlike : is_text k key ≡ false = rw (name_kept n name, same) at apart in
          subst (λ m. value_in m k (set_in name key value d) ≡ value_in m k d)
          (sym (names_equal n name same)) (set-keys name key value k d unlike)
      | inr unlike ↦ ap (option_and_then (first_value k)) (set-names name key value n d unlike)
    ]
    ∙ sym (default-answers.value n k d)

none_counts : (values : ValueRule) → counting values [] ≡ None
none_counts FirstValue = refl
none_counts Last = refl

module _ (rule : Lookup) (w : WriteOption) where
  set_option : {later : LaterPairs} {old new : Pieces} {name : Option Text} {key value : Text}
      → IsSetIn old.option w later old new name key value → new.option ≡ old.option
  set_option (IsSetIn.in_its_place set) = set.0
  set_option (IsSetIn.in_new_pair none added) = added.option

  -- a change that sets, by the default rule and by another, and one that takes out
  pub default-made : {old new : Pieces} (c : SettingChange) (value : Text) → c.new ≡ Some value
      → is_own rule ≡ true → IsSetIn old.option w TakenOut old new c.name c.key value
      → document_in new ≡ set_in c.name c.key value (document_in old) → IsMadeBy Counting rule w c old new
  default-made {old} {new} c value is own set document = record {
    made = subst (λ v. MakesValue Counting rule w c.name c.key v old new) (sym is)
        (subst (λ b. GetsValue rule w b c.name c.key value old new) (sym own) set);
    option = set_option set;
    value = subst (λ r. value_under r c.name c.key (document_in new) ≡ c.new) (sym (own-default rule own))
        (default-answers.value c.name c.key (document_in new)
        ∙ ap (value_in c.name c.key) document
        ∙ set-there c.name c.key value (document_in old)
        ∙ sym is);
    others = subst (λ r. KeepsOthers r c.name c.key (document_in old) (document_in new))
        (sym (own-default rule own))
        (λ n k apart. ap (value_under default_lookup n k) document
        ∙ default_keeps c.name c.key value (document_in old) n k apart);
  }

  adds_option : {old new : Pieces} {name : Option Text} {key value : Text}
      → AddsPair rule name key old.option w old new value → new.option ≡ old.option
  adds_option (AddsPair.in_section takes added) = added.option
  adds_option (AddsPair.in_new_section lacks added) = added.option

  put_option : {old new : Pieces} {name : Option Text} {key value : Text}
      → IsPutUnder rule name key old.option w old new value → new.option ≡ old.option
  put_option (IsPutUnder.in_place set) = set.is_set.option
  put_option (IsPutUnder.in_new_pair none added) = adds_option added.adds

  pub set-made : {old new : Pieces} (c : SettingChange) (value : Text) → c.new ≡ Some value
      → is_own rule ≡ false → IsPutUnder rule c.name c.key old.option w old new value
      → document_in new ≡ set_under rule c.name c.key value (document_in old)
      → IsMadeBy Counting rule w c old new
  set-made {old} {new} c value is other put document = record {
    made = subst (λ v. MakesValue Counting rule w c.name c.key v old new) (sym is)
        (subst (λ b. GetsValue rule w b c.name c.key value old new) (sym other) put);
    option = put_option put;
    value = ap (value_under rule c.name c.key) document
        ∙ set-answers rule c.name c.key value (document_in old)
        ∙ sym is;
    others = λ n k apart.
        ap (value_under rule n k) document
        ∙ ap (counting rule.values) (set-keeps rule c.name c.key value n k (document_in old) apart);
  }

  -- a list that is set, by any rule
  pub list-made : {old new : Pieces} (c : SettingChange) (list : Text) → c.new ≡ Some list
      → AreAllSetUnder rule c.name c.key w old new (list_values list) → IsMadeBy WholeList rule w c old new
  list-made {old} {new} c list is set = record {
    made = subst (λ v. MakesValue WholeList rule w c.name c.key v old new) (sym is) set;
    option = set.option;
    value = ap list_text set.answers ∙ ap (meant_value WholeList) (sym is);
    others = λ n k apart. ap list_text (set.others n k apart);
  }

  value_as : (which : SettingValue) (n : Option Text) (k : Text) (d e : Document)
      → all_values rule n k d ≡ all_values rule n k e → value_by which rule n k d ≡ value_by which rule n k e
  value_as Counting n k d e same = ap (counting rule.values) same
  value_as WholeList n k d e same = ap list_text same

  no_value : (which : SettingValue) (n : Option Text) (k : Text) (d : Document) → all_values rule n k d ≡ []
      → value_by which rule n k d ≡ meant_value which None
  no_value Counting n k d none = ap (counting rule.values) none ∙ none_counts rule.values
  no_value WholeList n k d none = ap list_text none

  pub out-made : (which : SettingValue) {old new : Pieces} (c : SettingChange) → c.new ≡ None
      → AreDeletedUnder rule c.name c.key old.option old.sections new.sections → new.option ≡ old.option
      → document_in new ≡ delete_under rule c.name c.key (document_in old) → IsMadeBy which rule w c old new
  out-made which {old} {new} c is out option document = record {
    made = subst (λ v. MakesValue which rule w c.name c.key v old new) (sym is) out;
    option = option;
    value = no_value which c.name c.key (document_in new)
        (ap (all_values rule c.name c.key) document ∙ delete-answers rule c.name c.key (document_in old))
        ∙ ap (meant_value which) (sym is);
    others = λ n k apart.
        value_as which n k (document_in new) (document_in old)
        (ap (all_values rule n k) document
        ∙ delete-keeps rule c.name c.key n k (document_in old) apart);
  }

  -- what setting a value by another rule is refused with
  pub set_refused : (which : SettingValue) (name : Option Text) (key value : Text) (new : Option Text)
      (p : Pieces) → which ≡ Counting → new ≡ Some value → is_own rule ≡ false → (e : EditError)
      → RefusesToPutUnder rule name key p.option w p value e → RefusesValueBy which rule w name key new p e
  set_refused which name key value new p counts is other e refused =
      subst (λ v. RefusesValueBy v rule w name key new p e) (sym counts)
      (subst (λ n. RefusesValueBy Counting rule w name key n p e) (sym is)
      (subst (λ own. RefusesToGet rule w own name key value p e) (sym other) refused))

module _ (which : SettingValue) (rule : Lookup) (w : WriteOption) where
  -- what look-ups answer after changes that were made
  pub meant-append : (xs ys : List SettingChange)
      → meant_changes which (xs ++ ys) ≡ meant_changes which xs ++ meant_changes which ys
  meant-append xs ys = at which
    where
      at : (v : SettingValue) → meant_changes v (xs ++ ys) ≡ meant_changes v xs ++ meant_changes v ys
      at Counting = refl
      at WholeList = map-append {A = SettingChange}
          (λ c. record c { new = meant_value WholeList c.new }) xs ys

  meant-one : (name : Option Text) (key : Text) (c : SettingChange) (value : Option Text)
      → value_after (fits_change rule name key) (meant_changes which (c ∷ [])) value
      ≡ cond (fits_change rule name key c) (meant_value which c.new) value
  meant-one name key c value = at which
    where
      at : (v : SettingValue) → value_after (fits_change rule name key) (meant_changes v (c ∷ [])) value
          ≡ cond (fits_change rule name key c) (meant_value v c.new) value
      at Counting = refl
      at WholeList = refl

  pub made-values : {old new : Pieces} {changes : List SettingChange} → AreMadeBy which rule w old changes new
      → HasChangedBy which rule changes (document_in old) (document_in new)
  made-values {new = new} AreMadeBy.none name key = at which
    where
      at : (v : SettingValue) → value_by v rule name key (document_in new)
          ≡ value_after (fits_change rule name key) (meant_changes v [])
          (value_by v rule name key (document_in new))
      at Counting = refl
      at WholeList = refl
  made-values {old} {new} (AreMadeBy.then {changes} {mid} c made is) name key =
      let of = fits_change rule name key in
      let before = made-values made name key in
      let value = value_by which rule name key (document_in old) in
      let more : value_after of (meant_changes which (changes ++ c ∷ [])) value
      ≡ cond (of c) (meant_value which c.new) (value_after of (meant_changes which changes) value) =
      ap (λ cs. value_after of cs value) (meant-append changes (c ∷ []))
      ∙ after-append of (meant_changes which changes) (meant_changes which (c ∷ [])) value
      ∙ meant-one name key c (value_after of (meant_changes which changes) value) in
      elim (cases_Bool (of c)) [
        | inl same ↦
            alike-after which rule name key c (document_in new) same
            ∙ is.value
            ∙ sym (more ∙ rw same refl)
        | inr apart ↦ is.others name key apart ∙ before ∙ sym (more ∙ rw apart refl)
      ]

  -- memory may be refused at any change
  pub memory_refused : (name : Option Text) (key : Text) (new : Option Text) (p : Pieces)
      → RefusesValueBy which rule w name key new p (TextError (Memory alloc_error))
  memory_refused name key None p = refl
  memory_refused name key (Some value) p = at which (is_own rule)
    where
      at : (v : SettingValue) (own : Bool) → made_by v
          (RefusesToGet rule w own name key value p (TextError (Memory alloc_error)))
          (RefusesToSetAll rule name key w p (list_values value) (TextError (Memory alloc_error)))
      at Counting true = tt
      at Counting false = RefusesToPutUnder.in_place tt
      at WholeList own = RefusesToSetAll.no_memory tt

  -- one change more was made
  pub one_more : {old mid new : Pieces} (changes : List Change) (i : ℕ) (d : Change) → i < length changes
      → AreMadeBy which rule w old (map setting_change (take i changes)) mid
      → IsMadeBy which rule w (setting_change (get_or changes i d)) mid new
      → AreMadeBy which rule w old (map setting_change (take (i + 1) changes)) new
  one_more {old} {mid} {new} changes i d within made is =
      let c = setting_change (get_or changes i d) in
      let taken : map setting_change (take (i + 1) changes)
      ≡ map setting_change (take i changes) ++ c ∷ [] =
      rw (add-one, take-suc changes i d within)
      (map-append setting_change (take i changes) (get_or changes i d ∷ [])) in
      subst (λ cs. AreMadeBy which rule w old cs new) (sym taken) (AreMadeBy.then c made is)

  -- of the changes the one at the index is refused
  pub one_refused : {old mid : Pieces} (changes : List Change) (i : ℕ) (d : Change) (refusal : EditError)
      → i < length changes → AreMadeBy which rule w old (map setting_change (take i changes)) mid
      → RefusesFirst which rule w (setting_change (get_or changes i d) ∷ []) mid refusal
      → RefusesOneBy which rule w old (map setting_change changes) (record { index = i; refusal = refusal })
  one_refused {old} {mid} changes i d refusal within made refused = record {
    before = map setting_change (take i changes);
    following = map setting_change (drop i changes);
    mid = mid;
    whole = ap (map setting_change) (sym (take-append-drop i changes))
        ∙ map-append setting_change (take i changes) (drop i changes);
    index = simp (length-map, length-take) (omega arith);
    are_made = made;
    is_refused = rw (drop-cons changes i d within) refused;
  }

  -- memory is refused before any change is made
  pub none_made : (changes : List SettingChange) (p : Pieces)
      → RefusesOneBy which rule w p changes (record { index = 0; refusal = TextError (Memory alloc_error) })
  none_made changes p = record {
    before = [];
    following = changes;
    mid = p;
    whole = refl;
    index = refl;
    are_made = AreMadeBy.none;
    is_refused = of changes;
  }
    where
      of : (cs : List SettingChange) → RefusesFirst which rule w cs p (TextError (Memory alloc_error))
      of [] = refl
      of (c ∷ cs) = memory_refused c.name c.key c.new p
