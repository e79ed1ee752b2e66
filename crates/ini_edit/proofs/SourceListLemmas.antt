-- Lists of edits of a text in pieces, one edit on; and values of a key, one value on.
use Rattle.std.proofs.Common.{◌≡◌, ◌<◌, ◌+◌, ◌∙◌, ℕ, Bool, List, [], ◌∷◌, ◌++◌, length, subst, sym, ap, refl}
use Rattle.std.proofs.Common.{take, drop, map, arith, add-one, alloc_error, drop-cons, get_or}
use Rattle.std.proofs.Common.{None, Option, length-take, take-append-drop, take-suc}
use Rattle.std.proofs.lemmas.List.{map-append, length-map}
use Rattle.ini_text.specs.declared.error.Error.TheVariants.{Io, Memory, NoProgress, NotUtf8, Parse}
use Rattle.ini_text.specs.declared.option.ParseOption.{ParseOption}
use Rattle.ini_text.specs.declared.write.option.WriteOption.{WriteOption}
use Rattle.ini.specs.Texts.{Text}
use Rattle.ini_edit.specs.Editings.{Editing, Add, Delete, DeleteSection, RenameKey, RenameSection, Set}
use Rattle.ini_edit.specs.Editings.{SetExisting, editing_of}
use Rattle.ini_edit.specs.SourceEditsAdded.{ArePut, IsPut, RefusesAdding, RefusesOneValue, RefusesToPut}
use Rattle.ini_edit.specs.SourceEditsList.{AreMadeOf, MakesNext, RefusesFirstOf, RefusesOf, RefusesOneOfThem}
use Rattle.ini_edit.specs.SourcePlaces.{pair_place}
use Rattle.ini_edit.specs.SourceWritten.{HasForm, RefusesNew}
use Rattle.ini_edit.specs.Sources.{Pieces, SectionPiece}
use Rattle.ini_edit.specs.declared.edits.Edit.{Edit}
use Rattle.ini_edit.specs.declared.error.EditError.{EditError}
use Rattle.ini_edit.specs.declared.error.EditError.TheVariants.{Key, Name, NoPlace, Separator, Value}
use Rattle.ini_edit.specs.declared.error.EditError.TheVariants.{Text as TextError}
use Rattle.ini_edit.specs.declared.source.set.LaterPairs.{LaterPairs}

module _ (w : WriteOption) (later : LaterPairs) where
  -- memory may be refused at any edit
  pub edit_memory : (e : Editing) (p : Pieces) → RefusesOf w later e p (TextError (Memory alloc_error))
  edit_memory (Set name key value) p = tt
  edit_memory (SetExisting name key value) p = tt
  edit_memory (Add name key value) p = RefusesAdding.unwritable tt
  edit_memory (Delete name key) p = tt
  edit_memory (RenameKey name old new) p = tt
  edit_memory (DeleteSection name) p = tt
  edit_memory (RenameSection old new) p = tt

  -- one edit more was made
  pub one_more_made : {old mid new : Pieces} {found more : List Bool} (edits : List Edit) (i : ℕ) (d : Edit)
      → i < length edits → AreMadeOf w later old (map editing_of (take i edits)) found mid
      → MakesNext w later (editing_of (get_or edits i d)) mid new found more
      → AreMadeOf w later old (map editing_of (take (i + 1) edits)) more new
  one_more_made {old} {mid} {new} {found} {more} edits i d within made makes =
      let e = editing_of (get_or edits i d) in
      let taken : map editing_of (take (i + 1) edits) ≡ map editing_of (take i edits) ++ e ∷ [] =
      rw (add-one, take-suc edits i d within)
      (map-append editing_of (take i edits) (get_or edits i d ∷ [])) in
      subst (λ es. AreMadeOf w later old es more new) (sym taken) (AreMadeOf.then e made makes)

  -- of the edits the one at the index is refused
  pub one_refused : {old mid : Pieces} {found : List Bool} (edits : List Edit) (i : ℕ) (d : Edit)
      (refusal : EditError) → i < length edits
      → AreMadeOf w later old (map editing_of (take i edits)) found mid
      → RefusesFirstOf w later (editing_of (get_or edits i d) ∷ []) mid refusal
      → RefusesOneOfThem w later old (map editing_of edits) (record { index = i; refusal = refusal })
  one_refused {old} {mid} {found} edits i d refusal within made refused = record {
    before = map editing_of (take i edits);
    following = map editing_of (drop i edits);
    found = found;
    mid = mid;
    whole = ap (map editing_of) (sym (take-append-drop i edits))
        ∙ map-append editing_of (take i edits) (drop i edits);
    index = simp (length-map, length-take) (omega arith);
    are_made = made;
    is_refused = rw (drop-cons edits i d within) refused;
  }

  -- memory is refused before any edit is made
  pub none_made : (edits : List Editing) (p : Pieces)
      → RefusesOneOfThem w later p edits (record { index = 0; refusal = TextError (Memory alloc_error) })
  none_made edits p = record {
    before = [];
    following = edits;
    found = [];
    mid = p;
    whole = refl;
    index = refl;
    are_made = AreMadeOf.none;
    is_refused = of edits;
  }
    where
      of : (es : List Editing) → RefusesFirstOf w later es p (TextError (Memory alloc_error))
      of [] = refl
      of (e ∷ es) = edit_memory e p

module _ (o : ParseOption) (w : WriteOption) (name : Option Text) (key : Text) where
  -- one value more was put
  put_last : {n m : ℕ} {values : List Text} {old mid new : Pieces} {value : Text}
      → ArePut o w name key n values old mid → m ≡ n + length values → IsPut o w mid new name key value m
      → ArePut o w name key n (values ++ value ∷ []) old new
  put_last {n} {m} {mid = mid} {new} {value} ArePut.nothing_put is put =
      ArePut.put_then (subst (IsPut o w mid new name key value) (let same : m ≡ n = omega arith in same) put)
      ArePut.nothing_put
  put_last {n} {m} (ArePut.put_then {values = values} first rest) is put =
      ArePut.put_then first (put_last rest (let same : m ≡ n + 1 + length values = omega arith in same) put)

  pub one_more_put : {old mid new : Pieces} {A : Type 0} (f : A → Text) (values : List A) (i : ℕ) (d : A)
      → i < length values → ArePut o w name key 0 (map f (take i values)) old mid
      → IsPut o w mid new name key (f (get_or values i d)) i
      → ArePut o w name key 0 (map f (take (i + 1) values)) old new
  one_more_put {old} {mid} {new} f values i d within are put =
      let taken : map f (take (i + 1) values) ≡ map f (take i values) ++ f (get_or values i d) ∷ [] =
      rw (add-one, take-suc values i d within) (map-append f (take i values) (get_or values i d ∷ [])) in
      subst (λ vs. ArePut o w name key 0 vs old new) (sym taken)
      (put_last are (simp (length-map, length-take) (omega arith)) put)

  -- of the values the one at the index is refused
  pub one_value_refused : {old mid : Pieces} {A : Type 0} (f : A → Text) (values : List A) (i : ℕ) (d : A)
      (refusal : EditError) → i < length values → ArePut o w name key 0 (map f (take i values)) old mid
      → RefusesToPut o w mid.sections name key (f (get_or values i d)) i refusal
      → RefusesOneValue o w old name key (map f values) refusal
  one_value_refused {old} {mid} f values i d refusal within are refused =
      let count : length (map f (take i values)) ≡ i = simp (length-map, length-take) (omega arith) in
      RefusesOneValue.refused_value (map f (drop (i + 1) values)) (f (get_or values i d))
      (ap (map f) (sym (take-append-drop i values)) ∙ map-append f (take i values) (drop i values)
      ∙ ap (λ l. map f (take i values) ++ map f l) (drop-cons values i d within)
      ∙ ap (λ n. map f (take i values) ++ f (get_or values i d) ∷ map f (drop n values)) (sym (add-one i)))
      are
      (subst (λ n. RefusesToPut o w mid.sections name key (f (get_or values i d)) n refusal) (sym count)
      refused)

-- a value that can be written is refused as a new pair is
module _ (o : ParseOption) (w : WriteOption) (ss : List SectionPiece) (name : Option Text) (key value : Text)
    (n : ℕ) (form : HasForm o w.escape_policy value) (none : pair_place name key n ss ≡ None) where
  pub new_refused : (e : EditError) → RefusesNew o w key value e → RefusesToPut o w ss name key value n e
  new_refused Value h = h.1
  new_refused Separator h = (form, (none, RefusesAdding.unwritable h))
  new_refused Key h = (form, (none, RefusesAdding.unwritable h))
  new_refused Name h = absurd h
  new_refused NoPlace h = absurd h
  new_refused (TextError (Memory refused)) h = tt
  new_refused (TextError (Io refused)) h = absurd h
  new_refused (TextError (Parse refused)) h = absurd h
  new_refused (TextError NotUtf8) h = absurd h
  new_refused (TextError NoProgress) h = absurd h

  pub add_refused : {e : EditError} → RefusesAdding o w ss name key value e
      → RefusesToPut o w ss name key value n e
  add_refused (RefusesAdding.unwritable {e} h) = new_refused e h
  add_refused (RefusesAdding.unplain_name writable lacks) =
      (form, (none, RefusesAdding.unplain_name writable lacks))
  add_refused (RefusesAdding.no_place writable there first gone) =
      (form, (none, RefusesAdding.no_place writable there first gone))

-- what a value that is put keeps
pub put_option : {o : ParseOption} {w : WriteOption} {old new : Pieces} {name : Option Text}
    {key value : Text}
    {n : ℕ} → IsPut o w old new name key value n → new.option ≡ old.option
put_option (IsPut.is_set same set) = same
put_option (IsPut.is_added none added) = added.option
put_option (IsPut.is_inserted none inserted) = inserted.option
put_option (IsPut.is_added_later n none added) = added.option

pub put_by : {p q : ParseOption} {w : WriteOption} {old new : Pieces} {name : Option Text} {key value : Text}
    {n : ℕ} → p ≡ q → IsPut p w old new name key value n → IsPut q w old new name key value n
put_by {w = w} {old} {new} {name} {key} {value} {n} same put =
    subst (λ o. IsPut o w old new name key value n) same put
