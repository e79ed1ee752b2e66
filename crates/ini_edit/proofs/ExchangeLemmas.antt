-- Edits of two pairs that are there change places.
use Rattle.std.proofs.Common.{◌≡◌, ◌∙◌, Bool, true, false, List, [], ◌∷◌, ap, sym, subst, refl, map}
use Rattle.std.proofs.Common.{Option, None, Some, IsSome, option_and_then, arith, inl, inr}
use Rattle.std.proofs.lemmas.Bool.{false≢true}
use Rattle.std.specs.Option.{option_map}
use Rattle.std.specs.Prelude.{is_some}
use Rattle.ini_text.specs.declared.option.ParseOption.{ParseOption}
use Rattle.ini_text.specs.declared.write.policy.EscapePolicy.{EscapePolicy}
use Rattle.ini.specs.Texts.{Text, is_name, is_text}
use Rattle.ini.specs.Properties.{Pairs, all_removed, first_value, inserted, removed}
use Rattle.ini.specs.Documents.{Document, document_of, first_section, value_in}
use Rattle.ini.specs.Edits.{delete_in, edit_section, set_in}
use Rattle.ini.specs.Loading.{IsDocumentOf}
use Rattle.ini.proofs.KeepingLemmas.{name_refl, names_equal, text_refl, texts_equal, there-edited}
use Rattle.ini_edit.specs.Exchanges.{AreApart, EditsChangePlaces, IsPairEdited}
use Rattle.ini_edit.specs.SourcePlaces.{PairPlace, pair_place}
use Rattle.ini_edit.specs.Sources.{SectionPiece, given_section}
use Rattle.ini_edit.specs.WholeTexts.{LoadsEdited}
use Rattle.ini_edit.proofs.SourceFoundLemmas.{value_found}
use Rattle.ini_edit.proofs.StandsLemmas.{derives_one}

-- keys that are different ones in either order
keys_apart : (key other : Text) → is_text key other ≡ false → is_text other key ≡ false
keys_apart key other apart = grind (arith, texts_equal other key, text_refl key, apart)

names_apart : (name other : Option Text) → is_name name other ≡ false → is_name other name ≡ false
names_apart name other apart = grind (arith, names_equal other name, name_refl name, apart)

-- what becomes of the pairs of a section
module _ (key other : Text) (apart : is_text key other ≡ false) where
  out_out : (ps : Pairs) → all_removed key (all_removed other ps) ≡ all_removed other (all_removed key ps)
  out_out [] = refl
  out_out (p ∷ ps) = grind (arith, out_out ps)

  out_inserted : (value : Text) (ps : Pairs)
      → all_removed key (inserted other value ps) ≡ inserted other value (all_removed key ps)
  out_inserted value [] = grind (arith, apart)
  out_inserted value (p ∷ ps) =
      grind (arith, out_inserted value ps, out_out ps, texts_equal key p.0, texts_equal other p.0, apart)

  removed_out : (ps : Pairs) → removed key (all_removed other ps) ≡ all_removed other (removed key ps)
  removed_out [] = refl
  removed_out (p ∷ ps) = grind (arith, removed_out ps, texts_equal key p.0, texts_equal other p.0, apart)

  removed_inserted : (value : Text) (ps : Pairs)
      → removed key (inserted other value ps) ≡ inserted other value (removed key ps)
  removed_inserted value [] = grind (arith, apart)
  removed_inserted value (p ∷ ps) =
      grind (
        arith,
        removed_inserted value ps,
        removed_out ps,
        texts_equal key p.0,
        texts_equal other p.0,
        apart,
      )

  removed_removed : (ps : Pairs) → removed key (removed other ps) ≡ removed other (removed key ps)
  removed_removed [] = refl
  removed_removed (p ∷ ps) =
      grind (arith, removed_removed ps, texts_equal key p.0, texts_equal other p.0, apart)

inserted_inserted : (key other value other_value : Text) → is_text key other ≡ false → (ps : Pairs)
    → IsSome (first_value key ps)
    → inserted key value (inserted other other_value ps) ≡ inserted other other_value (inserted key value ps)
inserted_inserted key other value other_value apart [] there = absurd (false≢true there)
inserted_inserted key other value other_value apart (p ∷ ps) there =
    grind (
      arith,
      inserted_inserted key other value other_value apart ps,
      out_inserted key other apart other_value ps,
      out_inserted other key (keys_apart key other apart) value ps,
      texts_equal key p.0,
      texts_equal other p.0,
      apart,
    )

-- what an edit of a pair that is there makes of the pairs, and of the document
abbrev pairs_with : Text → Option Text → Pairs → Pairs
pairs_with key (Some value) ps = inserted key value ps
pairs_with key None ps = removed key ps

abbrev edit_of : Option Text → Text → Option Text → Document → Document
edit_of name key (Some value) d = set_in name key value d
edit_of name key None d = delete_in name key d

pairs_change : (key other : Text) (value other_value : Option Text) → is_text key other ≡ false
    → (ps : Pairs)
    → IsSome (first_value key ps)
    → pairs_with key value (pairs_with other other_value ps) ≡ pairs_with other other_value
    (pairs_with key value ps)
pairs_change key other (Some v) (Some w) apart ps there = inserted_inserted key other v w apart ps there
pairs_change key other (Some v) None apart ps there =
    sym (removed_inserted other key (keys_apart key other apart) v ps)
pairs_change key other None (Some w) apart ps there = removed_inserted key other apart w ps
pairs_change key other None None apart ps there = removed_removed key other apart ps

-- edits of sections with different names
module _ (f g : Pairs → Pairs) (last more : Document) where
  sections_change : (name other : Option Text) → is_name name other ≡ false → (d : Document)
      → IsSome (first_section name d) → IsSome (first_section other d)
      → edit_section name f last (edit_section other g more d)
      ≡ edit_section other g more (edit_section name f last d)
  sections_change name other apart [] there also = absurd (false≢true there)
  sections_change name other apart (s ∷ d) there also =
      grind (arith, sections_change name other apart d, names_equal name s.0, names_equal other s.0, apart)

  -- edits of one section
  section_changes : (name : Option Text) (d : Document) (pairs : Pairs) → first_section name d ≡ Some pairs
      → f (g pairs) ≡ g (f pairs)
      → edit_section name f last (edit_section name g more d)
      ≡ edit_section name g more (edit_section name f last d)
  section_changes name [] pairs is same = absurd (let no : None ≡ Some pairs = is in cc)
  section_changes name (s ∷ d) pairs is same = grind (arith, section_changes name d pairs, same)

section_there : (name : Option Text) (key : Text) (d : Document) → IsSome (value_in name key d)
    → IsSome (first_section name d)
section_there name key d there = at (first_section name d) there
  where
    at : (found : Option Pairs) → IsSome (option_and_then (first_value key) found) → IsSome found
    at None there = there
    at (Some pairs) there = refl

edit_is : (name : Option Text) (key : Text) (value : Option Text) (last : Document) (d : Document)
    → IsSome (first_section name d)
    → edit_of name key value d ≡ edit_section name (pairs_with key value) last d
edit_is name key (Some value) last [] there = absurd (false≢true there)
edit_is name key None last [] there = absurd (false≢true there)
edit_is name key (Some value) last (s ∷ d) there = grind (arith, edit_is name key (Some value) last d)
edit_is name key None last (s ∷ d) there = grind (arith, edit_is name key None last d)

section_stays : (name other : Option Text) (key : Text) (value : Option Text) (d : Document)
    → IsSome (first_section name d) → IsSome (first_section name (edit_of other key value d))
section_stays name other key (Some value) d there =
    there-edited other (inserted key value) ((other, (key, value) ∷ []) ∷ []) name d there
section_stays name other key None d there = there-edited other (removed key) [] name d there

-- the edits of two pairs of a document that are there change places
module _ (name other : Option Text) (key other_key : Text) (value other_value : Option Text) (d : Document)
    (there : IsSome (value_in name key d)) (also : IsSome (value_in other other_key d)) where
  abbrev one : Document → Document
  one = edit_section name (pairs_with key value) []

  abbrev two : Document → Document
  two = edit_section other (pairs_with other_key other_value) []

  names_change : is_name name other ≡ false → one (two d) ≡ two (one d)
  names_change apart = sections_change (pairs_with key value) (pairs_with other_key other_value) [] []
      name other apart d (section_there name key d there) (section_there other other_key d also)

  document_changes : AreApart name key other other_key → one (two d) ≡ two (one d)
  document_changes (inl apart) = names_change apart
  document_changes (inr apart) = at (is_name name other) refl
    where
      at : (b : Bool) → is_name name other ≡ b → one (two d) ≡ two (one d)
      at false is = names_change is
      at true is = within (first_section name d) refl
        where
          within : (found : Option Pairs) → first_section name d ≡ found → one (two d) ≡ two (one d)
          within None none =
              absurd (false≢true (subst (λ x. IsSome (option_and_then (first_value key) x)) none there))
          within (Some pairs) some =
              subst (λ n. one (edit_section n (pairs_with other_key other_value) [] d)
              ≡ edit_section n (pairs_with other_key other_value) [] (one d)) (names_equal name other is)
              (section_changes (pairs_with key value)
              (pairs_with other_key other_value) [] [] name d pairs some
              (pairs_change key other_key value other_value apart pairs
              (subst (λ x. IsSome (option_and_then (first_value key) x)) some there)))

  edits_commute : AreApart name key other other_key
      → edit_of name key value (edit_of other other_key other_value d)
      ≡ edit_of other other_key other_value (edit_of name key value d)
  edits_commute apart =
      edit_is name key value [] _ (section_stays name other other_key other_value d here)
      ∙ ap one (edit_is other other_key other_value [] d at_other)
      ∙ document_changes apart
      ∙ sym (edit_is other other_key other_value [] _ (section_stays other name key value d at_other)
      ∙ ap two (edit_is name key value [] d here))
    where
      here : IsSome (first_section name d)
      here = section_there name key d there

      at_other : IsSome (first_section other d)
      at_other = section_there other other_key d also

-- a text has one document
one_document : {o : ParseOption} {T : Text} {d e : Document} → IsDocumentOf o T d → IsDocumentOf o T e
    → d ≡ e
one_document is also = is.document ∙ ap document_of (derives_one is.derives also.derives) ∙ sym also.document

-- a pair that stands in the pieces is one of the document
value_there : (name : Option Text) (key : Text) (ss : List SectionPiece) → true ≡ is_some
    (pair_place name key 0 ss)
    → IsSome (value_in name key (map given_section ss))
value_there name key ss there =
    subst IsSome (sym (value_found name key ss)) (at (pair_place name key 0 ss) there)
  where
    at : (found : Option PairPlace) → true ≡ is_some found
        → IsSome (option_map (λ p. p.pair.here.value) found)
    at None there = absurd (false≢true (sym there))
    at (Some p) there = refl

module _ {o : ParseOption} (policy : EscapePolicy) {T : Text} (name : Option Text) (key : Text)
    (U : Text) where
  pair_there : (value : Option Text) (edited : IsPairEdited o policy T name key value U)
      → (ss : List SectionPiece) × ((true ≡ is_some (pair_place name key 0 ss))
      × IsDocumentOf o T (map given_section ss))
  pair_there (Some value) edited =
      (edited.old.sections, (ap is_some (sym edited.made.1.is_set.was), edited.is_read.document))
  pair_there None edited = (edited.old.sections, (edited.made.0, edited.is_read.document))

  edited_there : (value : Option Text) → IsPairEdited o policy T name key value U → (d : Document)
      → IsDocumentOf o T d → IsSome (value_in name key d)
  edited_there value edited d is =
      let there = pair_there value edited in
      subst (λ d. IsSome (value_in name key d)) (one_document there.1.1 is)
      (value_there name key there.0 there.1.0)

  loads : (value : Option Text) → IsPairEdited o policy T name key value U
      → LoadsEdited o T U (edit_of name key value)
  loads (Some value) edited = edited.loads
  loads None edited = edited.loads

  edited_loads : (value : Option Text) → IsPairEdited o policy T name key value U → (d : Document)
      → IsDocumentOf o T d → IsDocumentOf o U (edit_of name key value d)
  edited_loads value edited d is =
      let l = loads value edited in
      subst (λ d. IsDocumentOf o U (edit_of name key value d)) (one_document l.was is) l.is

pub edits_change : (o : ParseOption) (policy : EscapePolicy) (T : Text) → EditsChangePlaces o policy T
edits_change o policy T name key value other other_key other_value apart V Y e =
    let l = loads policy name key e.U value e.first in
    let d = l.document in
    let is = l.was in
    let there = edited_there policy name key e.U value e.first d is in
    let also = edited_there policy other other_key e.X other_value e.other_first d is in
    let one_first = edited_loads policy other other_key V other_value e.then _
    (edited_loads policy name key e.U value e.first d is) in
    let other_first = edited_loads policy name key Y value e.other_then _
    (edited_loads policy other other_key e.X other_value e.other_first d is) in
    record {
      document = edit_of name key value (edit_of other other_key other_value d);
      first = subst (λ x. IsDocumentOf o V x)
          (sym (edits_commute name other key other_key value other_value d there also apart)) one_first;
      second = other_first;
    }
