-- All values of a key set under a rule in a text in pieces: its three loops, and the whole.
use Rattle.std.proofs.Common.{◌≡◌, ◌∙◌, ◌<◌, ◌≤◌, ◌+◌, ℕ, suc, zero, Bool, true, false, List, [], ◌∷◌, ◌++◌}
use Rattle.std.proofs.Common.{None, Option, Some, ap, append_assoc, append-nil, arith, drop, get_or, length}
use Rattle.std.proofs.Common.{map, refl, subst, sym, take}
use Rattle.std.proofs.lemmas.List.{drop-map, drop_all, drop_more, take-append-drop}
use Rattle.std.specs.List.{remove}
use Rattle.std.specs.Prelude.{is_some}
use Rattle.ini.specs.Documents.{Document}
use Rattle.ini.specs.Texts.{Text}
use Rattle.ini_text.specs.declared.option.ParseOption.{ParseOption}
use Rattle.ini_text.specs.declared.write.option.WriteOption.{WriteOption}
use Rattle.ini_text.specs.declared.write.policy.EscapePolicy.{EscapePolicy}
use Rattle.ini_edit.specs.SourceEditsAt.{SetsAtIndex, at_index, at_section, deleted_at_index, indexed_pair}
use Rattle.ini_edit.specs.SourceEditsAt.{indexed_place}
use Rattle.ini_edit.specs.SourceEditsDelete.{deleted_at}
use Rattle.ini_edit.specs.SourceEditsList.{with_sections}
use Rattle.ini_edit.specs.SourcePlaces.{PairPlace, edited_at}
use Rattle.ini_edit.specs.Sources.{Pieces, document_in, given_pair}
use Rattle.ini_edit.specs.declared.error.EditError.{EditError}
use Rattle.ini_dialect.specs.Inside.{taken_out, values_put}
use Rattle.ini_dialect.specs.KeyEdits.{numbers_under}
use Rattle.ini_dialect.specs.ListEdits.{AreAdded, AreAllSetUnder, AreTakenOut, AreValuesSet, RefusesOneValue}
use Rattle.ini_dialect.specs.ListEdits.{RefusesToAdd, RefusesToSetAll, all_added}
use Rattle.ini_dialect.specs.Lookups.{add_under, all_values}
use Rattle.ini_dialect.specs.SourceLookups.{AddsPair, IsAddedUnder, RefusesUnder, RefusesValue}
use Rattle.ini_dialect.specs.declared.rule.Lookup.{Lookup}
use Rattle.ini_dialect.specs.declared.source.PairNumber.{PairNumber}
use Rattle.ini_dialect.proofs.KeyEditLemmas.{none_behind, nothing_there, unchanged_there}
use Rattle.ini_dialect.proofs.ListLawLemmas.{drop_nil, put_whole, set_keeps, set_values}

-- the text at an index among those that are seen of a list
module _ {A : Type 0} (view : A → Text) (values : List A) (i : ℕ) (d : A) (within : i < length values) where
  pub value_next : drop i (map view values) ≡ view (get_or values i d) ∷ drop (i + 1) (map view values)
  value_next =
      drop-map view i values ∙ ap (map view) (drop_more values i d within)
      ∙ ap (λ l. view (get_or values i d) ∷ l) (sym (drop-map view (i + 1) values))

  pub value_refused : {o : ParseOption} {policy : EscapePolicy} {e : EditError}
      → RefusesValue o policy (view (get_or values i d)) e → RefusesOneValue o policy (map view values) e
  value_refused refused =
      RefusesOneValue.refused_value (take i (map view values)) (drop (i + 1) (map view values))
      (view (get_or values i d))
      (sym (take-append-drop i (map view values)) ∙ ap (λ l. take i (map view values) ++ l) value_next)
      refused

-- values set up to this one of the numbers
pub record SetSoFar (policy : EscapePolicy) (numbers : List PairNumber) (values : List Text)
    (old now : Pieces) (n : ℕ) : Type 0 where
  pub goes_on : (q : Pieces) → AreValuesSet policy (drop n numbers) (drop n values) now q
      → AreValuesSet policy numbers values old q
  pub option : now.option ≡ old.option
  pub document : values_put (drop n numbers) (drop n values) (document_in now)
      ≡ values_put numbers values (document_in old)

module _ (policy : EscapePolicy) (numbers : List PairNumber) (values : List Text) where
  pub set_start : (old : Pieces) → SetSoFar policy numbers values old old 0
  set_start old = record { goes_on = λ q more. more; option = refl; document = refl }

  module _ {old now : Pieces} {n : ℕ} (so_far : SetSoFar policy numbers values old now n) where
    pub set_more : {next : Pieces} (at : PairNumber) (value : Text) (made : Bool)
        → drop n numbers ≡ at ∷ drop (n + 1) numbers → drop n values ≡ value ∷ drop (n + 1) values
        → SetsAtIndex now.option policy now next at.section at.pair value made
        → SetSoFar policy numbers values old next (n + 1)
    set_more {next} at value made rest rest_too sets = record {
      goes_on = λ q more. so_far.goes_on q
          (subst (λ l. AreValuesSet policy l (drop n values) now q) (sym rest)
          (subst (λ l. AreValuesSet policy (at ∷ drop (n + 1) numbers) l now q) (sym rest_too)
          (AreValuesSet.first_set made sets more)));
      option = (step made sets).0 ∙ so_far.option;
      document = ap (values_put (drop (n + 1) numbers) (drop (n + 1) values)) (step made sets).1
          ∙ ap (λ l. values_put l (value ∷ drop (n + 1) values) (document_in now)) (sym rest)
          ∙ ap (λ l. values_put (drop n numbers) l (document_in now)) (sym rest_too) ∙ so_far.document;
    }
      where
        step : (b : Bool) → SetsAtIndex now.option policy now next at.section at.pair value b
            → (next.option ≡ now.option) × (document_in next
            ≡ at_section at.section (at_index at.pair (λ p. (p.0, value))) (document_in now))
        step true set = (set.option, set.document)
        step false same = (
          ap (λ (p : Pieces). p.option) same.0,
          ap document_in same.0
              ∙ sym (nothing_there (at_index at.pair (λ p. (p.0, value))) at.pair
              (λ ps none. unchanged_there given_pair (λ p. (p.0, value)) ps at.pair none)
              now.sections at.section same.1),
        )

    -- no number is left, or no value
    pub set_done_numbers : length numbers ≤ n → AreValuesSet policy numbers values old now
    set_done_numbers all =
        so_far.goes_on now
        (subst (λ l. AreValuesSet policy l (drop n values) now now) (sym (drop_all n numbers all))
        AreValuesSet.no_number)

    pub set_done_values : length values ≤ n → AreValuesSet policy numbers values old now
    set_done_values all =
        so_far.goes_on now
        (subst (λ l. AreValuesSet policy (drop n numbers) l now now) (sym (drop_all n values all))
        AreValuesSet.no_value)

    no_number_put : (vs : List Text) (d : Document) → values_put [] vs d ≡ d
    no_number_put [] d = refl
    no_number_put (v ∷ vs) d = refl

    pub put_done_numbers : length numbers ≤ n
        → document_in now ≡ values_put numbers values (document_in old)
    put_done_numbers all =
        sym (no_number_put (drop n values) (document_in now))
        ∙ ap (λ l. values_put l (drop n values) (document_in now)) (sym (drop_all n numbers all))
        ∙ so_far.document

    pub put_done_values : length values ≤ n
        → document_in now ≡ values_put numbers values (document_in old)
    put_done_values all =
        ap (λ l. values_put (drop n numbers) l (document_in now)) (sym (drop_all n values all))
        ∙ so_far.document

-- nothing taken out where nothing stands
unremoved : {X Y : Type 0} (view : X → Y) (xs : List X) (i : ℕ) → indexed_place i xs ≡ None
    → remove (map view xs) i ≡ map view xs
unremoved view [] zero none = refl
unremoved view [] (suc i) none = refl
unremoved view (x ∷ xs) zero none = absurd cc
unremoved view (x ∷ xs) (suc i) none =
    ap (λ l. view x ∷ l) (unremoved view xs i (none_behind x (indexed_place i xs) none))

out_step : (now next : Pieces) (i j : ℕ) (found : Bool) → found ≡ is_some (indexed_pair i j now.sections)
    → next ≡ with_sections now (deleted_at_index now.option i j now.sections)
    → (found ≡ true → document_in next ≡ at_section i (λ ps. remove ps j) (document_in now))
    → document_in next ≡ at_section i (λ ps. remove ps j) (document_in now)
out_step now next i j found is made document = by (indexed_pair i j now.sections) refl
  where
    by : (o : Option PairPlace) → indexed_pair i j now.sections ≡ o
        → document_in next ≡ at_section i (λ ps. remove ps j) (document_in now)
    by (Some p) there = document (is ∙ ap is_some there)
    by None none =
        ap document_in made
        ∙ ap (λ o. document_in (with_sections now (edited_at (deleted_at now.option) o now.sections))) none
        ∙ sym (nothing_there (λ ps. remove ps j) j (λ ps free. unremoved given_pair ps j free)
        now.sections i none)

drop_same : {X : Type 0} (xs : List X) (i j : ℕ) → i ≤ j → (i < j → length xs ≤ i) → drop i xs ≡ drop j xs
drop_same [] i j up short = drop_nil i ∙ sym (drop_nil j)
drop_same (x ∷ xs) zero zero up short = refl
drop_same (x ∷ xs) zero (suc j) up short =
    let less : zero < suc j = omega arith in
    let no : length (x ∷ xs) ≤ zero = short less in
    absurd (omega (arith, no))
drop_same (x ∷ xs) (suc i) zero up short = absurd (omega (arith, up))
drop_same (x ∷ xs) (suc i) (suc j) up short =
    drop_same xs i j (omega (arith, up)) (λ less.
    let more : suc i < suc j = omega (arith, less) in
    let long : length (x ∷ xs) ≤ suc i = short more in
    omega (arith, long))

-- pairs taken out down to this one of the numbers
pub record OutSoFar (numbers : List PairNumber) (first : ℕ) (old now : Pieces) (left : ℕ) : Type 0 where
  pub are : AreTakenOut (drop left numbers) old now
  pub option : now.option ≡ old.option
  pub document : document_in now ≡ taken_out (drop left numbers) (document_in old)
  pub within : left ≤ length numbers
  pub short : left < first → length numbers ≤ left

module _ (numbers : List PairNumber) (first : ℕ) where
  pub out_start : (old : Pieces) (left : ℕ) → left ≡ length numbers → OutSoFar numbers first old old left
  out_start old left all = record {
    are = subst (λ l. AreTakenOut l old old) (sym (drop_all left numbers (omega (arith, all))))
        AreTakenOut.none_out;
    option = refl;
    document = ap (λ l. taken_out l (document_in old))
        (sym (drop_all left numbers (omega (arith, all))));
    within = omega (arith, all);
    short = λ less. omega (arith, all);
  }

  module _ {old now : Pieces} {n : ℕ} (so_far : OutSoFar numbers first old now n) where
    pub out_more : {next : Pieces} (d : PairNumber) (left : ℕ) (found : Bool) → first < n → left + 1 ≡ n
        → found ≡ is_some (indexed_pair (get_or numbers left d).section (get_or numbers left d).pair
        now.sections)
        → next ≡ with_sections now (deleted_at_index now.option (get_or numbers left d).section
        (get_or numbers left d).pair now.sections)
        → (found ≡ true → document_in next
        ≡ at_section (get_or numbers left d).section (λ ps. remove ps (get_or numbers left d).pair)
        (document_in now))
        → OutSoFar numbers first old next left
    out_more {next} d left found more one there made document =
        let at = get_or numbers left d in
        let within = so_far.within in
        let inside : left < length numbers = omega (arith, one, within) in
        let rest : drop left numbers ≡ at ∷ drop n numbers =
        drop_more numbers left d inside ∙ ap (λ m. at ∷ drop m numbers) one in
        record {
          are = subst (λ l. AreTakenOut l old next) (sym rest)
              (subst (λ (p : Pieces). AreTakenOut (at ∷ drop n numbers) old p) (sym made)
              (AreTakenOut.later_out so_far.are));
          option = ap (λ (p : Pieces). p.option) made ∙ so_far.option;
          document = out_step now next at.section at.pair found there made document
              ∙ ap (at_section at.section (λ ps. remove ps at.pair)) so_far.document
              ∙ ap (λ l. taken_out l (document_in old)) (sym rest);
          within = omega (arith, inside);
          short = λ less. absurd (omega (arith, less, more, one));
        }

    module _ (all : n ≤ first) where
      pub out_done : AreTakenOut (drop first numbers) old now
      out_done =
          subst (λ l. AreTakenOut l old now) (drop_same numbers n first all so_far.short) so_far.are

      pub out_document : document_in now ≡ taken_out (drop first numbers) (document_in old)
      out_document =
          so_far.document
          ∙ ap (λ l. taken_out l (document_in old)) (drop_same numbers n first all so_far.short)

module _ (rule : Lookup) (name : Option Text) (key : Text) (w : WriteOption) where
  added_option : {o : ParseOption} {value : Text} {old new : Pieces}
      → IsAddedUnder rule name key o w old new value → new.option ≡ old.option
  added_option added = by added.adds
    where
      by : {o : ParseOption} {value : Text} {old new : Pieces} → AddsPair rule name key o w old new value
          → new.option ≡ old.option
      by (AddsPair.in_section takes is) = is.option
      by (AddsPair.in_new_section lacks is) = is.option

  one_more_added : {before : List Text} {old mid new : Pieces} (value : Text)
      → AreAdded rule name key w before old mid → IsAddedUnder rule name key mid.option w mid new value
      → AreAdded rule name key w (before ++ value ∷ []) old new
  one_more_added value AreAdded.none_new added = AreAdded.first_new added AreAdded.none_new
  one_more_added value (AreAdded.first_new first are) added =
      AreAdded.first_new first (one_more_added value are added)

  all_added-more : (vs : List Text) (v : Text) (d : Document)
      → all_added rule name key (vs ++ v ∷ []) d ≡ add_under rule name key v (all_added rule name key vs d)
  all_added-more [] v d = refl
  all_added-more (u ∷ vs) v d = all_added-more vs v (add_under rule name key u d)

  -- pairs added up to this one of the values
  pub record AddedSoFar (values : List Text) (first : ℕ) (old now : Pieces) (n : ℕ) : Type 0 where
    pub before : List Text
    pub split : drop first values ≡ before ++ drop n values
    pub are : AreAdded rule name key w before old now
    pub option : now.option ≡ old.option
    pub document : document_in now ≡ all_added rule name key before (document_in old)

  module _ (values : List Text) (first : ℕ) where
    pub added_start : (old : Pieces) → AddedSoFar values first old old first
    added_start old = record {
      before = [];
      split = refl;
      are = AreAdded.none_new;
      option = refl;
      document = refl;
    }

    module _ {old now : Pieces} {n : ℕ} (so_far : AddedSoFar values first old now n) where
      pub added_more : {next : Pieces} (value : Text) → drop n values ≡ value ∷ drop (n + 1) values
          → IsAddedUnder rule name key now.option w now next value
          → AddedSoFar values first old next (n + 1)
      added_more value rest added = record {
        before = so_far.before ++ value ∷ [];
        split = so_far.split ∙ ap (λ l. so_far.before ++ l) rest
            ∙ sym (append_assoc so_far.before (value ∷ []) (drop (n + 1) values));
        are = one_more_added value so_far.are added;
        option = added_option added ∙ so_far.option;
        document = added.document ∙ ap (add_under rule name key value) so_far.document
            ∙ sym (all_added-more so_far.before value (document_in old));
      }

      pub adding_refused : {e : EditError} (value : Text) → drop n values ≡ value ∷ drop (n + 1) values
          → RefusesUnder rule name key now.option w now value e
          → RefusesToAdd rule name key w old (drop first values) e
      adding_refused value rest refused =
          RefusesToAdd.refused_new (drop (n + 1) values) value
          (so_far.split ∙ ap (λ l. so_far.before ++ l) rest) so_far.are refused

      module _ (all : length values ≤ n) where
        whole : so_far.before ≡ drop first values
        whole =
            sym (so_far.split ∙ ap (λ l. so_far.before ++ l) (drop_all n values all)
            ∙ append-nil so_far.before)

        pub added_done : AreAdded rule name key w (drop first values) old now
        added_done = subst (λ l. AreAdded rule name key w l old now) whole so_far.are

        pub added_document : document_in now ≡ all_added rule name key (drop first values) (document_in old)
        added_document =
            so_far.document ∙ ap (λ l. all_added rule name key l (document_in old)) whole

  -- the three of them
  module _ (values : List Text) (old set out new : Pieces) where
    abbrev numbers : List PairNumber
    numbers = numbers_under rule name key (document_in old)

    pub all_set : AreValuesSet w.escape_policy numbers values old set
        → AreTakenOut (drop (length values) numbers) set out
        → AreAdded rule name key w (drop (length numbers) values) out new
        → new.option ≡ old.option
        → document_in set ≡ values_put numbers values (document_in old)
        → document_in out ≡ taken_out (drop (length values) numbers) (document_in set)
        → document_in new ≡ all_added rule name key (drop (length numbers) values) (document_in out)
        → AreAllSetUnder rule name key w old new values
    all_set are_set are_out are_new option put gone added =
        let whole = added ∙ ap (all_added rule name key (drop (length numbers) values))
        (gone ∙ ap (taken_out (drop (length values) numbers)) put)
        ∙ put_whole rule name key values (document_in old) in
        record {
          set = set;
          out = out;
          are_set = are_set;
          are_out = are_out;
          are_new = are_new;
          option = option;
          document = whole;
          answers = ap (all_values rule name key) whole ∙ set_values rule name key values (document_in old);
          others = λ n k apart. ap (all_values rule n k) whole
              ∙ set_keeps rule name key values n k (document_in old) apart;
        }

    -- by the numbers that were found, and so many values
    module _ (found : List PairNumber) (count : ℕ) (is : found ≡ numbers) (many : count ≡ length values)
        (are_set : AreValuesSet w.escape_policy found values old set)
        (are_out : AreTakenOut (drop count found) set out) where
      same_left : drop count found ≡ drop (length values) numbers
      same_left = ap (λ m. drop m found) many ∙ ap (drop (length values)) is

      set_so : AreValuesSet w.escape_policy numbers values old set
      set_so = subst (λ l. AreValuesSet w.escape_policy l values old set) is are_set

      out_so : AreTakenOut (drop (length values) numbers) set out
      out_so = subst (λ l. AreTakenOut l set out) same_left are_out

      pub all_set_there : AreAdded rule name key w (drop (length found) values) out new
          → new.option ≡ old.option
          → document_in set ≡ values_put found values (document_in old)
          → document_in out ≡ taken_out (drop count found) (document_in set)
          → document_in new ≡ all_added rule name key (drop (length found) values) (document_in out)
          → AreAllSetUnder rule name key w old new values
      all_set_there are_new option put gone added =
          all_set set_so out_so
          (subst (λ (l : List PairNumber). AreAdded rule name key w (drop (length l) values) out new) is
          are_new)
          option
          (put ∙ ap (λ l. values_put l values (document_in old)) is)
          (gone ∙ ap (λ l. taken_out l (document_in set)) same_left)
          (added
          ∙ ap (λ (l : List PairNumber). all_added rule name key (drop (length l) values) (document_in out))
          is)

      pub not_added_there : {e : EditError} → RefusesToAdd rule name key w out (drop (length found) values) e
          → RefusesToSetAll rule name key w old values e
      not_added_there {e} refused =
          RefusesToSetAll.not_added set_so out_so
          (subst (λ (l : List PairNumber). RefusesToAdd rule name key w out (drop (length l) values) e) is
          refused)
