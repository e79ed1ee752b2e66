-- Pairs that are added for values, one value on.
use Rattle.std.proofs.Common.{◌≡◌, ◌<◌, ◌+◌, ◌∙◌, ℕ, List, [], ◌∷◌, ◌++◌, length, suc, subst, sym, ap, map}
use Rattle.std.proofs.Common.{add-one, chars, drop, drop-cons, get_or, take, take-append-drop, take-suc}
use Rattle.std.proofs.Common.{Bool, Option, String, string_bytes, true}
use Rattle.std.proofs.lemmas.List.{map-append}
use Rattle.std.specs.declared.alloc.Global.{Global}
use Rattle.ini_text.specs.declared.write.option.WriteOption.{WriteOption}
use Rattle.ini.specs.Texts.{Text}
use Rattle.ini_edit.specs.Sources.{Pieces}
use Rattle.ini_edit.specs.declared.error.EditError.{EditError}
use Rattle.ini_edit.specs.SourceEditsAdded.{RefusesOneValue}
use Rattle.ini_dialect.specs.SourceLookups.{AreDeletedUnder, IsAddedUnder, RefusesUnder}
use Rattle.ini_dialect.specs.declared.rule.Lookup.{Lookup}
use Rattle.ini_file.specs.ValueLists.{AreAddedUnder, AreReplacedUnder, RefusesAdded}
use Rattle.ini_file.specs.ValueLists.{RefusesReplaced, RefusesValuesBy, texts_in}

texts-append : (xs ys : List (String Global)) → texts_in (xs ++ ys) ≡ texts_in xs ++ texts_in ys
texts-append xs ys =
    ap (map chars) (map-append string_bytes xs ys)
    ∙ map-append chars (map string_bytes xs) (map string_bytes ys)

module _ (rule : Lookup) (w : WriteOption) (name : Option Text) (key : Text) (values : List (String Global))
    (i : ℕ) (value : String Global) (within : i < length values) (is_at : value ≡ get_or values i value)
    {p q : Pieces} (added : AreAddedUnder rule w name key (texts_in (take i values)) p q) where
  -- one value more has its pair
  pub one_more_added : {r : Pieces} → IsAddedUnder rule name key q.option w q r (chars (string_bytes value))
      → AreAddedUnder rule w name key (texts_in (take (i + 1) values)) p r
  one_more_added {r} is_added =
      let taken : texts_in (take (i + 1) values)
      ≡ texts_in (take i values) ++ chars (string_bytes value) ∷ [] =
      rw (add-one, take-suc values i value within, ← is_at) (texts-append (take i values) (value ∷ [])) in
      subst (λ vs. AreAddedUnder rule w name key vs p r) (sym taken)
      (AreAddedUnder.then_added added (chars (string_bytes value)) is_added)

  -- its pair is refused
  pub one_not_added : (e : EditError)
      → RefusesUnder rule name key q.option w q (chars (string_bytes value)) e
      → RefusesAdded rule w name key (texts_in values) p e
  one_not_added e refused =
      let split : drop i values ≡ value ∷ drop (suc i) values =
      drop-cons values i value within ∙ ap (λ v. v ∷ drop (suc i) values) (sym is_at) in
      record {
        before = texts_in (take i values);
        value = chars (string_bytes value);
        following = texts_in (drop (suc i) values);
        whole = ap texts_in (sym (take-append-drop i values))
            ∙ (texts-append (take i values) (drop i values)
            ∙ ap (λ vs. texts_in (take i values) ++ texts_in vs) split);
        mid = q;
        are_added = added;
        is_refused = refused;
      }

module _ (rule : Lookup) (w : WriteOption) (name : Option Text) (key : Text) (values : List Text)
    (p mid : Pieces) (option : mid.option ≡ p.option)
    (out : AreDeletedUnder rule name key p.option p.sections mid.sections) where
  -- once the pairs of the key are out, those with the values are added; or one is refused
  pub replaced : {q : Pieces} → AreAddedUnder rule w name key values mid q
      → AreReplacedUnder rule w name key values p q
  replaced added = record { mid = mid; option = option; are_out = out; are_added = added }

  pub not_replaced : (e : EditError) → RefusesAdded rule w name key values mid e
      → RefusesReplaced rule w name key values p e
  not_replaced e refused = RefusesReplaced.adding option out refused

module _ (rule : Lookup) (w : WriteOption) (name : Option Text) (key : Text) (own : Bool) (is : own ≡ true)
    (values given : List Text) (same : given ≡ values) (p : Pieces) where
  -- by the crate's own rule one of the list is refused
  pub own_refused : (e : EditError) → RefusesOneValue p.option w p name key given e
      → RefusesValuesBy rule w name key own values p e
  own_refused e refused =
      subst (λ b. RefusesValuesBy rule w name key b values p e) (sym is)
      (subst (λ vs. RefusesOneValue p.option w p name key vs e) same refused)
