-- What edits under a rule of a text in pieces make, by what edits at an index make.
use Rattle.std.proofs.Common.{◌≡◌, ◌∙◌, ◌<◌, ℕ, Bool, true, false, List, [], ◌∷◌, ◌++◌, None, Option, Some}
use Rattle.std.proofs.Common.{Err, IfErr, IfNone, Ok, Result, ap, arith, get_or, inl, inr, length, map, refl}
use Rattle.std.proofs.Common.{subst, sym}
use Rattle.std.proofs.lemmas.Bool.{cases_Bool, false≢true}
use Rattle.std.proofs.lemmas.List.{length-append, length-map}
use Rattle.std.specs.List.{list_any}
use Rattle.std.specs.Prelude.{is_some}
use Rattle.ini.specs.Documents.{Document}
use Rattle.ini.specs.Edits.{add_in}
use Rattle.ini.specs.Properties.{Pairs}
use Rattle.ini.specs.Texts.{Text, is_name}
use Rattle.ini.proofs.KeepingLemmas.{names_equal}
use Rattle.ini_text.specs.declared.error.Error.TheVariants as text_errors
use Rattle.ini_text.specs.declared.option.ParseOption.{ParseOption}
use Rattle.ini_text.specs.declared.write.option.WriteOption.{WriteOption}
use Rattle.ini_text.specs.declared.write.policy.EscapePolicy.{EscapePolicy}
use Rattle.ini_edit.specs.Edited.{IsValueOrMemory}
use Rattle.ini_edit.specs.Inside.SourceEnds.{IsPairAt}
use Rattle.ini_edit.specs.SourceEditsAdded.{IsAddedIn}
use Rattle.ini_edit.specs.SourceEditsAt.{AddsAtIndex, SetsAtIndex, indexed_pair}
use Rattle.ini_edit.specs.SourcePlaces.{PairPlace, Place}
use Rattle.ini_edit.specs.SourceWritten.{HasForm}
use Rattle.ini_edit.specs.Sources.{Pieces, SectionPiece, document_in, given_pair, given_section}
use Rattle.ini_edit.specs.declared.error.EditError.{EditError}
use Rattle.ini_edit.specs.declared.error.EditError.TheVariants as errors
use Rattle.ini_edit.proofs.SourceIndexLemmas.{indexed_some, pair_some}
use Rattle.ini_edit.proofs.SourcePlaceLemmas.{place_here}
use Rattle.ini_dialect.specs.Lookups.{add_under, is_named, set_under}
use Rattle.ini_dialect.specs.Numbers.{CountsAt, PairCounts}
use Rattle.ini_dialect.specs.SourceLookups.{AddsPair, IsAddedUnder, IsCountingPair, IsPutUnder, LacksName}
use Rattle.ini_dialect.specs.SourceLookups.{RefusesToPutUnder, RefusesUnder, RefusesValue, SetsUnder}
use Rattle.ini_dialect.specs.SourceLookups.{TakesNew}
use Rattle.ini_dialect.specs.declared.rule.Lookup.{Lookup}
use Rattle.ini_dialect.specs.declared.rule.ValueRule.{ValueRule}
use Rattle.ini_dialect.specs.declared.source.PairNumber.{PairNumber}
use Rattle.ini_dialect.proofs.EditLemmas.{same_any}
use Rattle.ini_dialect.proofs.RuleLemmas.{names_equiv}
use Rattle.ini_dialect.proofs.SourceLookupLemmas.{added_set, counts-read, counts-within, pair_added, pair_set}

-- a number that counts is within its list
counts-below : {X : Type 0} {order : ValueRule} {test : X → Bool} {xs : List X} {number : ℕ}
    → CountsAt order test xs number → number < length xs
counts-below counts =
    omega (
      arith,
      counts.place,
      ap length counts.split,
      length-append counts.before (counts.item ∷ counts.after),
    )

module _ (rule : Lookup) (name : Option Text) (key : Text) where
  -- the pair that counts is one of the pieces
  pub pair_there : (ss : List SectionPiece) {i j : ℕ} → PairCounts rule name key (map given_section ss) i j
      → IsPairAt (indexed_pair i j ss) ss i j
  pair_there ss {i} {j} counts =
      let there = counts-within given_section ss counts.in_document in
      let found = indexed_some ss i there in
      let s = found.place.here in
      let read = sym (place_here found.at s) in
      let below = subst (λ (g : Option Text × Pairs). j < length g.1)
      (sym (counts-read given_section ss counts.in_document s read)) (counts-below counts.in_section) in
      pair_some ss there read (omega (arith, below, length-map s.pairs given_pair))

  -- taking it out is done
  pub deletes_there : (ss : List SectionPiece) {i j : ℕ} {P : Type 0} {found : Bool}
      → PairCounts rule name key (map given_section ss) i j → found ≡ is_some (indexed_pair i j ss)
      → (found ≡ true → P) → P
  deletes_there ss counts is then = then (is ∙ ap is_some (pair_there ss counts).is)

  -- setting it
  pub sets_there : (o : ParseOption) (policy : EscapePolicy) (value : Text) (old new : Pieces)
      {at : PairNumber} (found : Bool) → IsCountingPair rule name key (document_in old) at
      → SetsAtIndex o policy old new at.section at.pair value found
      → SetsUnder rule name key o policy old new value found
  sets_there o policy value old new {at} true counts set = record {
    at = at;
    counts = counts;
    is_set = set;
    document = set.document ∙ pair_set rule name key value (document_in old) counts;
  }
  sets_there o policy value old new false counts set =
      let there = pair_there old.sections counts in
      absurd (let no : ◌≡◌ {A = Option PairPlace} None (Some there.place) = sym set.1 ∙ there.is in cc)

  -- adding a pair
  pub adds_there : (o : ParseOption) (w : WriteOption) (value : Text) (old new : Pieces) {section : ℕ}
      (found : Bool) → TakesNew rule name key (document_in old) section
      → AddsAtIndex o w old new section key value found → IsAddedUnder rule name key o w old new value
  adds_there o w value old new true takes added = record {
    adds = AddsPair.in_section takes added;
    document = added.document ∙ pair_added rule name key value (document_in old) takes;
  }
  adds_there o w value old new {section} false takes added =
      let there = indexed_some old.sections section (counts-within given_section old.sections takes) in
      absurd (let no : ◌≡◌ {A = Option (Place SectionPiece)} None (Some there.place)
      = sym added.1 ∙ there.is in cc)

  added_last : (value : Text) (d : Document) → list_any (is_named rule name) d ≡ false
      → add_in name key value d ≡ d ++ (name, (key, value) ∷ []) ∷ []
  added_last value [] none = refl
  added_last value (s ∷ d) none =
      elim (cases_Bool (is_name name s.0)) [
        | inl same ↦
            let fits : is_named rule name s ≡ true =
            subst (λ n. is_named rule name (n, s.1) ≡ true) (names_equal name s.0 same)
            ((names_equiv rule.case).refl name) in
            absurd (false≢true (grind (arith, none, fits)))
        | inr apart ↦ rw apart (ap (λ l. s ∷ l) (added_last value d (grind (arith, none))))
      ]

  pub adds_anew : {o : ParseOption} {w : WriteOption} {value : Text} {old new : Pieces}
      → LacksName rule name key (document_in old) → IsAddedIn o w old new name key value
      → IsAddedUnder rule name key o w old new value
  adds_anew {value = value} {old = old} lacks added =
      let d = document_in old in
      let none : list_any (is_named rule name) d ≡ false = sym (same_any rule name key d d) ∙ lacks in
      record {
        adds = AddsPair.in_new_section lacks added;
        document = added.document ∙ added_last value d none ∙ rw none refl;
      }

-- what setting a value is refused with
pub refuses_so : (o : ParseOption) (policy : EscapePolicy) (value : Text) (r : Result Bool EditError)
    → (r ≡ Err errors.Value → ¬ HasForm o policy value) → IfErr r IsValueOrMemory
    → IfErr r (RefusesValue o policy value)
refuses_so o policy value (Ok x) formless only = tt
refuses_so o policy value (Err e) formless only = by e (λ same. formless (ap Err same)) only
  where
    by : (e : EditError) → (e ≡ errors.Value → ¬ HasForm o policy value) → IsValueOrMemory e
        → RefusesValue o policy value e
    by errors.Value formless only = formless refl
    by (errors.Text (text_errors.Memory x)) formless only = tt
    by (errors.Text (text_errors.Io x)) formless only = absurd only
    by (errors.Text (text_errors.Parse x)) formless only = absurd only
    by (errors.Text text_errors.NotUtf8) formless only = absurd only
    by (errors.Text text_errors.NoProgress) formless only = absurd only
    by errors.NoPlace formless only = absurd only
    by errors.Name formless only = absurd only
    by errors.Key formless only = absurd only
    by errors.Separator formless only = absurd only

-- a value set where no pair was there to set
module _ (rule : Lookup) (name : Option Text) (key : Text) (w : WriteOption) (value : Text)
    (old mid : Pieces) (none : SetsUnder rule name key old.option w.escape_policy old mid value false) where
  pub puts_new : {new : Pieces} → IsAddedUnder rule name key mid.option w mid new value
      → IsPutUnder rule name key old.option w old new value
  puts_new {new} added =
      IsPutUnder.in_new_pair none.1
      (subst (λ (p : Pieces). IsAddedUnder rule name key p.option w p new value) none.0 added)

  pub new_document : {new : Pieces} → IsAddedUnder rule name key mid.option w mid new value
      → document_in new ≡ set_under rule name key value (document_in old)
  new_document added =
      added.document ∙ ap (λ (p : Pieces). add_under rule name key value (document_in p)) none.0
      ∙ added_set rule name key value (document_in old) none.1

  pub refuses_new : {e : EditError} → RefusesUnder rule name key mid.option w mid value e
      → RefusesToPutUnder rule name key old.option w old value e
  refuses_new {e} refused =
      RefusesToPutUnder.in_new_pair none.1
      (subst (λ (p : Pieces). RefusesUnder rule name key p.option w p value e) none.0 refused)

-- the pairs of the section that is read at a number that counts
pub item_read : {order : ValueRule} {test : Option Text × Pairs → Bool} (ss slice : List SectionPiece)
    {number : ℕ} (counts : CountsAt order test (map given_section ss) number) (x : SectionPiece)
    → slice ≡ ss → x ≡ get_or slice number x → map given_pair x.pairs ≡ counts.item.1
item_read ss slice {number} counts x same read =
    ap (λ (g : Option Text × Pairs). g.1)
    (counts-read given_section ss counts x (read ∙ ap (λ l. get_or l number x) same))

-- what is known of no answer, whatever the answer is
pub any_none : {A : Type 0} {P : Type 0} (o : Option A) → P → IfNone o P
any_none None p = p
any_none (Some x) p = tt
