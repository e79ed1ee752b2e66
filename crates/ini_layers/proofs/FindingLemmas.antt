-- The only pair of a key in a text in pieces: each search finds it, and what an edit at its place makes.
use Rattle.std.proofs.Common.{◌≡◌, ◌∙◌, ◌-◌, ◌<◌, ℕ, Bool, true, false, ◌&&◌, List, [], ◌∷◌, ◌++◌, None, Option}
use Rattle.std.proofs.Common.{Some, ap, arith, cond, get_or, length, map, option_and_then, refl, slice_get, subst, sym}
use Rattle.std.proofs.lemmas.List.Sums.{sum_by-append}
use Rattle.std.specs.List.{count_by, list_any, remove}
use Rattle.std.specs.Map.{lookup, remove_entry}
use Rattle.std.specs.Option.{option_map}
use Rattle.std.specs.Prelude.{Err, Ok, OnOk, Result, is_some}
use Rattle.std.specs.Result.{is_ok}
use Rattle.ini_text.specs.declared.option.ParseOption.{ParseOption}
use Rattle.ini_text.specs.declared.write.option.WriteOption.{WriteOption}
use Rattle.ini_text.specs.declared.write.policy.EscapePolicy.{EscapePolicy}
use Rattle.ini_multimap.specs.Pairs.{values_at}
use Rattle.ini_multimap.proofs.PairLemmas.{lookup_is}
use Rattle.ini.specs.Documents.{Document, sections_named, value_in}
use Rattle.ini.specs.Edits.{delete_in, edit_section, set_in}
use Rattle.ini.specs.Properties.{Pairs, first_value, removed, values}
use Rattle.ini.specs.Texts.{Text, is_name, is_text}
use Rattle.ini_edit.specs.Inside.SourceEnds.{IsPlaceAt}
use Rattle.ini_edit.specs.SourceEditsAdded.{IsSetIn}
use Rattle.ini_edit.specs.SourceEditsAt.{IsSetAtIndex, at_section, deleted_at_index, indexed_pair}
use Rattle.ini_edit.specs.SourceEditsDelete.{count_of, deleted_times}
use Rattle.ini_edit.specs.SourceEditsList.{with_sections}
use Rattle.ini_edit.specs.SourceEditsSet.{IsFirstSet, pair_changed_at, with_value_before}
use Rattle.ini_edit.specs.SourcePlaces.{PairPlace, Place, nth_place, pair_place}
use Rattle.ini_edit.specs.SourcePlaces.{section_place}
use Rattle.ini_edit.specs.Sources.{PairPiece, Pieces, SectionPiece, document_in, given_pair, given_section}
use Rattle.ini_edit.specs.declared.source.set.LaterPairs.TheVariants.{TakenOut}
use Rattle.ini_edit.proofs.SetAloneLemmas.{counted}
use Rattle.ini_edit.proofs.SetDocumentLemmas.{first_set_document}
use Rattle.ini_edit.proofs.SourceFoundLemmas.{no_value_found, value_found}
use Rattle.ini_edit.proofs.SourceIndexLemmas.{found_indexed, place_edited, place_seen}
use Rattle.ini_edit.proofs.SourcePlaceLemmas.{index_place, place_at, place_read, place_remove}
use Rattle.ini_edit.proofs.SourceWrittenLemmas.{before_key}
use Rattle.ini_dialect.specs.Lookups.{delete_under, name_fits, value_under}
use Rattle.ini_dialect.specs.Numbers.{NonePasses, PairCounts, passes_key}
use Rattle.ini_dialect.specs.Rules.{default_lookup}
use Rattle.ini_dialect.specs.SourceLookups.{AreDeletedUnder, by_first}
use Rattle.ini_dialect.proofs.DefaultLemmas.{default-answers}
use Rattle.ini_dialect.proofs.DeletedUnderLemmas.{DeletedSoFar, so_far_deleted, so_far_document, so_far_more}
use Rattle.ini_dialect.proofs.DeletedUnderLemmas.{so_far_none}
use Rattle.ini_layers.specs.Inside.Finding.{IsOnlyPair, IsPairThere, PassesAt, is_keyed}
use Rattle.ini_layers.specs.Inside.Finding.{is_named}
use Rattle.ini_layers.proofs.MadeLemmas.{name_kept}

split-one : {V : Type 0} (vs : List V) (w : V) (ws : List V) (v : V) → vs ++ w ∷ ws ≡ v ∷ []
    → (vs ≡ []) × ((w ≡ v) × (ws ≡ []))
split-one [] w ws v is =
    let here : w ≡ v = cc in
    let rest : ws ≡ [] = cc in
    (refl, (here, rest))
split-one (x ∷ []) w ws v is = absurd (let no : w ∷ ws ≡ [] = cc in cc)
split-one (x ∷ y ∷ vs) w ws v is = absurd (let no : y ∷ (vs ++ w ∷ ws) ≡ [] = cc in cc)

-- entries of keys that fit
module _ {K V : Type 0} (fits : K → Bool) where
  values-append : (ps qs : List (K × V))
      → values_at fits (ps ++ qs) ≡ values_at fits ps ++ values_at fits qs
  values-append [] qs = refl
  values-append (p ∷ ps) qs = grind (arith, values-append ps qs)

  values-here : (p : K × V) (ps : List (K × V)) → fits p.0 ≡ true
      → values_at fits (p ∷ ps) ≡ p.1 ∷ values_at fits ps
  values-here p ps passes = grind (arith, passes)

  lacks : (ps : List (K × V)) → values_at fits ps ≡ [] → list_any (λ p. fits p.0) ps ≡ false
  lacks [] none = refl
  lacks (p ∷ ps) none = grind (arith, lacks ps, none)

  -- the only entry that fits
  pub record IsAlone (v : V) (q : Place (K × V)) : Type 0 where
    pub value : v ≡ q.here.1
    pub before : values_at fits q.before ≡ []
    pub after : values_at fits q.after ≡ []

  alone : {ps : List (K × V)} {q : Place (K × V)} {i : ℕ} {v : V} → IsPlaceAt ps q i → fits q.here.0 ≡ true
      → values_at fits ps ≡ v ∷ [] → IsAlone v q
  alone {ps} {q} {i} {v} at passes one =
      let parts = split-one (values_at fits q.before) q.here.1 (values_at fits q.after) v
      (ap (λ l. values_at fits q.before ++ l) (sym (values-here q.here q.after passes))
      ∙ sym (values-append q.before (q.here ∷ q.after)) ∙ ap (values_at fits) (sym at.whole) ∙ one) in
      record { value = sym parts.1.0; before = parts.0; after = parts.1.1 }

  lookup-there : (before : List (K × V)) (p : K × V) (after : List (K × V)) → values_at fits before ≡ []
      → fits p.0 ≡ true → lookup fits (before ++ p ∷ after) ≡ Some p.1
  lookup-there [] p after none passes = grind (arith, passes)
  lookup-there (b ∷ before) p after none passes =
      grind (arith, lookup-there before p after, none, passes)

  removed-there : (before : List (K × V)) (p : K × V) (after : List (K × V)) → values_at fits before ≡ []
      → fits p.0 ≡ true → remove_entry fits (before ++ p ∷ after) ≡ before ++ after
  removed-there [] p after none passes = grind (arith, passes)
  removed-there (b ∷ before) p after none passes =
      grind (arith, removed-there before p after, none, passes)

  lookup-none : (ps : List (K × V)) → values_at fits ps ≡ [] → lookup fits ps ≡ None
  lookup-none ps none = lookup_is fits ps ∙ ap (λ vs. slice_get vs 0) none

  -- in a list that is seen so
  module _ {A : Type 0} (view : A → K × V) where
    nth-first : (before : List A) (x : A) (after : List A) → values_at fits (map view before) ≡ []
        → fits (view x).0 ≡ true → nth_place (λ y. fits (view y).0) 0 (before ++ x ∷ after)
        ≡ Some (record { before = before; here = x; after = after })
    nth-first [] x after none passes = grind (arith, passes)
    nth-first (b ∷ before) x after none passes =
        grind (arith, nth-first before x after, none, passes)

    none-counted : (xs : List A) → values_at fits (map view xs) ≡ []
        → count_by (λ y. fits (view y).0) xs ≡ 0
    none-counted [] none = refl
    none-counted (x ∷ xs) none = grind (arith, none-counted xs, none)

edited-there : (name : Option Text) (f : Pairs → Pairs) (last before : Document) (n : Option Text)
    (ps : Pairs) (after : Document) → values_at (is_name name) before ≡ [] → is_name name n ≡ true
    → edit_section name f last (before ++ (n, ps) ∷ after) ≡ before ++ (n, f ps) ∷ after
edited-there name f last [] n ps after none passes = grind (arith, passes)
edited-there name f last (b ∷ before) n ps after none passes =
    grind (arith, edited-there name f last before n ps after, none, passes)

-- what holds of a value, where there is one
pub from_ok : {A E : Type 0} {P : Type 0} (r : Result A E) → is_ok r ≡ true → OnOk r P → P
from_ok (Ok x) is p = p
from_ok (Err e) is p = absurd (let no : false ≡ true = is in cc)

-- an item that is read at its index
pub passes_at : {A : Type 0} (test : A → Bool) (xs : List A) (i : ℕ) (x : A) → i < length xs
    → x ≡ get_or xs i x → test x ≡ true → PassesAt test xs i
passes_at test xs i x within is passes = record {
  place = place_at xs i x;
  at = index_place xs i x within is;
  passes = passes;
}

-- a pair in a section that is read at its index
pub there : {ss ts : List SectionPiece} {i j : ℕ} {x : SectionPiece} {ps : List PairPiece}
    (name : Option Text) (key : Text) → ts ≡ ss → PassesAt (is_named name) ts i → x ≡ get_or ts i x
    → ps ≡ x.pairs → PassesAt (is_keyed key) ps j → IsPairThere name key ss i j
there {i = i} {j} name key of in_text read same in_section =
    subst (λ ss. IsPairThere name key ss i j) of (record {
      in_text = in_text;
      in_section = subst (λ ps. PassesAt (is_keyed key) ps j)
          (same ∙ ap (λ s. s.pairs) (place_read in_text.at read)) in_section;
    })

-- no value, no pair
unmapped : {A B : Type 0} (f : A → B) (o : Option A) → option_map f o ≡ None → o ≡ None
unmapped f None none = refl
unmapped f (Some x) none = absurd (let no : Some (f x) ≡ None = none in cc)

pub nothing_there : (name : Option Text) (key : Text) (ss : List SectionPiece)
    → value_in name key (map given_section ss) ≡ None → pair_place name key 0 ss ≡ None
nothing_there name key ss none =
    unmapped (λ p. p.pair.here.value) (pair_place name key 0 ss) (sym (value_found name key ss) ∙ none)

pub none_under : (name : Option Text) (key : Text) (ss : List SectionPiece) → pair_place name key 0 ss ≡ None
    → value_under (by_first default_lookup) name key (map given_section ss) ≡ None
none_under name key ss none =
    default-answers.value name key (map given_section ss) ∙ no_value_found name key ss none

-- how many pairs a document has
pub no_section : (name : Option Text) (key : Text) (d : Document) → sections_named name d ≡ []
    → value_in name key d ≡ None
no_section name key d none = ap (option_and_then (first_value key)) (lookup-none (is_name name) d none)

pub no_pair : (name : Option Text) (key : Text) (d : Document) (ps : Pairs)
    → sections_named name d ≡ ps ∷ [] → values key ps ≡ [] → value_in name key d ≡ None
no_pair name key d ps one none =
    ap (option_and_then (first_value key))
    (lookup_is (is_name name) d ∙ ap (λ l. slice_get l 0) one)
    ∙ lookup-none (is_text key) ps none

-- the default rule tests names so
passes_as : (name n : Option Text) → (name_fits default_lookup.case name n && true) ≡ is_name name n
passes_as name n = ap (λ b. b && true) (name_kept name n) ∙ by (is_name name n)
  where
    by : (b : Bool) → (b && true) ≡ b
    by true = refl
    by false = refl

none_passes : (name : Option Text) (d : Document) → values_at (is_name name) d ≡ []
    → NonePasses (passes_key (by_first default_lookup) name None) d
none_passes name [] none = refl
none_passes name (s ∷ d) none = grind (arith, none_passes name d, passes_as name s.0, none)

module _ {name : Option Text} {key : Text} {ss : List SectionPiece} {i j : ℕ}
    (only : IsOnlyPair name key ss i j) where
  abbrev s : Place SectionPiece
  s = only.there.in_text.place

  abbrev p : Place PairPiece
  p = only.there.in_section.place

  abbrev place : PairPlace
  place = record { section = s; pair = p }

  abbrev d : Document
  d = map given_section ss

  abbrev seen_section : Place (Option Text × Pairs)
  seen_section = record {
    before = map given_section s.before;
    here = given_section s.here;
    after = map given_section s.after;
  }

  abbrev seen_pair : Place (Text × Text)
  seen_pair = record {
    before = map given_pair p.before;
    here = given_pair p.here;
    after = map given_pair p.after;
  }

  section_at : IsPlaceAt d seen_section i
  section_at = place_seen only.there.in_text.at given_section

  pair_at : IsPlaceAt (map given_pair s.here.pairs) seen_pair j
  pair_at = place_seen only.there.in_section.at given_pair

  section_alone : IsAlone (is_name name) only.one.pairs seen_section
  section_alone = alone (is_name name) section_at only.there.in_text.passes only.one.in_document

  pair_alone : IsAlone (is_text key) only.one.value seen_pair
  pair_alone =
      alone (is_text key) pair_at only.there.in_section.passes
      (subst (λ ps. values key ps ≡ only.one.value ∷ []) section_alone.value only.one.in_section)

  pair_first : pair_place name key 0 ss ≡ Some place
  pair_first =
      let section : section_place name ss ≡ Some s =
      ap (nth_place (is_named name) 0) only.there.in_text.at.whole
      ∙ nth-first (is_name name) given_section s.before s.here s.after section_alone.before
      only.there.in_text.passes in
      let pair : nth_place (is_keyed key) 0 s.here.pairs ≡ Some p =
      ap (nth_place (is_keyed key) 0) only.there.in_section.at.whole
      ∙ nth-first (is_text key) given_pair p.before p.here p.after pair_alone.before
      only.there.in_section.passes in
      ap (option_and_then (λ t. option_map (λ q. record { section = t; pair = q })
      (nth_place (is_keyed key) 0 t.here.pairs))) section
      ∙ ap (option_map (λ q. record { section = s; pair = q })) pair

  pub is_indexed : indexed_pair i j ss ≡ Some place
  is_indexed = found_indexed (record {
    place = place;
    is = refl;
    section = only.there.in_text.at;
    pair = only.there.in_section.at;
  })

  pub is-there : is_some (indexed_pair i j ss) ≡ true
  is-there = ap is_some is_indexed

  -- set at its place it is set as the first one, and no others follow
  module _ {o : ParseOption} {policy : EscapePolicy} {old new : Pieces} {value : Text}
      (of : old.sections ≡ ss) (set : IsSetAtIndex o policy old new i j value) where
    same : set.place ≡ place
    same =
        let both : Some set.place ≡ Some place =
        sym set.was ∙ ap (indexed_pair i j) of ∙ is_indexed in
        cc

    one_left : count_of name key new.sections ≡ 1
    one_left =
        let here = with_value_before o set.source value p.after p.here in
        let keyed : is_keyed key here ≡ true =
        ap (is_text key) (before_key o set.source value p.after p.here) ∙ only.there.in_section.passes in
        let one : PairPiece → ℕ = λ q. cond (is_keyed key q) 1 0 in
        let there : one here ≡ 1 = ap (λ b. let n : ℕ = cond b 1 0 in n) keyed in
        ap (count_of name key) set.sections
        ∙ ap (λ q. count_of name key (pair_changed_at (with_value_before o set.source value q.pair.after) q)) same
        ∙ counted o name key 0 ss place pair_first set.source value
        ∙ omega (
          arith,
          there,
          none-counted (is_text key) given_pair p.before pair_alone.before,
          none-counted (is_text key) given_pair p.after pair_alone.after,
          sum_by-append one p.before (here ∷ p.after),
          sum_by-append one (here ∷ []) p.after,
        )

    set-first : IsFirstSet o policy TakenOut ss new.sections name key value
    set-first = record {
      set = new.sections;
      is_set = record {
        place = set.place;
        was = pair_first ∙ sym is_indexed ∙ ap (indexed_pair i j) (sym of) ∙ set.was;
        source = set.source;
        is_written = set.is_written;
        is = set.sections;
      };
      is = sym (ap (λ n. deleted_times o name key 1 (n - 1) new.sections) one_left);
    }

  -- it counts under the default rule
  only-counts : PairCounts (by_first default_lookup) name key d i j
  only-counts = record {
    in_document = record {
      before = seen_section.before;
      item = seen_section.here;
      after = seen_section.after;
      split = section_at.whole;
      place = section_at.index;
      passes = passes_as name s.here.name ∙ only.there.in_text.passes;
      counts = none_passes name seen_section.before section_alone.before;
    };
    in_section = record {
      before = seen_pair.before;
      item = seen_pair.here;
      after = seen_pair.after;
      split = pair_at.whole;
      place = pair_at.index;
      passes = only.there.in_section.passes;
      counts = lacks (is_text key) seen_pair.before pair_alone.before;
    };
  }

  -- taken out, it is gone
  abbrev left : Document
  left = seen_section.before ++ (s.here.name, seen_pair.before ++ seen_pair.after) ∷ seen_section.after

  left-is : at_section i (λ ps. remove ps j) d ≡ left
  left-is =
      place_edited section_at (λ t. (t.0, remove t.1 j))
      ∙ ap (λ ps. seen_section.before ++ (s.here.name, ps) ∷ seen_section.after) (place_remove pair_at)

  left-deleted : delete_in name key d ≡ left
  left-deleted =
      ap (delete_in name key) (section_at.whole)
      ∙ edited-there name (removed key) [] seen_section.before s.here.name (map given_pair s.here.pairs)
      seen_section.after section_alone.before only.there.in_text.passes
      ∙ ap (λ ps. seen_section.before ++ (s.here.name, ps) ∷ seen_section.after)
      (ap (removed key) pair_at.whole
      ∙ removed-there (is_text key) seen_pair.before seen_pair.here seen_pair.after pair_alone.before
      only.there.in_section.passes)

  none_left : value_under (by_first default_lookup) name key left ≡ None
  none_left =
      default-answers.value name key left
      ∙ ap (option_and_then (first_value key))
      (lookup-there (is_name name) seen_section.before
      (s.here.name, seen_pair.before ++ seen_pair.after) seen_section.after section_alone.before
      only.there.in_text.passes)
      ∙ lookup-none (is_text key) (seen_pair.before ++ seen_pair.after)
      (values-append (is_text key) seen_pair.before seen_pair.after
      ∙ ap (λ l. l ++ values_at (is_text key) seen_pair.after) pair_alone.before ∙ pair_alone.after)

-- set as `Source::set` sets it
module _ {name : Option Text} {key value : Text} {i j : ℕ} {old new : Pieces} (w : WriteOption)
    (only : IsOnlyPair name key old.sections i j)
    (set : IsSetAtIndex old.option w.escape_policy old new i j value) where
  pub only-set : IsSetIn old.option w TakenOut old new name key value
  only-set = IsSetIn.in_its_place (set.option, set-first only refl set)

  pub only-set-document : document_in new ≡ set_in name key value (document_in old)
  only-set-document = first_set_document (set-first only refl set)

-- taken out, by the default rule too
module _ {name : Option Text} {key : Text} {i j : ℕ} {old new : Pieces}
    (only : IsOnlyPair name key old.sections i j)
    (made : new ≡ with_sections old (deleted_at_index old.option i j old.sections))
    (document : document_in new ≡ at_section i (λ ps. remove ps j) (document_in old)) where
  so_far : DeletedSoFar default_lookup name key old new true
  so_far =
      so_far_more default_lookup name key (so_far_none default_lookup name key old) (only-counts only) made
      document

  none : value_under (by_first default_lookup) name key (document_in new) ≡ None
  none = ap (value_under (by_first default_lookup) name key) (document ∙ left-is only) ∙ none_left only

  pub only-deleted : AreDeletedUnder default_lookup name key old.option old.sections new.sections
  only-deleted = so_far_deleted default_lookup name key so_far none

  pub only-document : document_in new ≡ delete_under default_lookup name key (document_in old)
  only-document = so_far_document default_lookup name key so_far none

  pub only-noted : delete_in name key (document_in old) ≡ document_in new
  only-noted = left-deleted only ∙ sym (document ∙ left-is only)
