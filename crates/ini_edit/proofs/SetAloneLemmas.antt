-- The value of a key's first pair set in a text in pieces, with the later pairs of the key out or none
-- there.
use Rattle.std.proofs.Common.{◌≡◌, ◌∙◌, ◌-◌, ℕ, Bool, true, false, cond, List, [], ◌∷◌, ◌++◌, None}
use Rattle.std.proofs.Common.{Option, Some, ap, arith, refl, set, subst, sym}
use Rattle.std.proofs.lemmas.List.Sums.{sum_by-append}
use Rattle.std.specs.List.{count_by}
use Rattle.ini_text.specs.Grammar.CharacterKinds.{line_feed}
use Rattle.ini_text.specs.Grammar.Positions.{last_or}
use Rattle.ini_text.specs.declared.option.ParseOption.{ParseOption}
use Rattle.ini_text.specs.declared.write.policy.EscapePolicy.{EscapePolicy}
use Rattle.ini.specs.Texts.{Text, is_text}
use Rattle.ini_edit.specs.Inside.SourceEnds.{IsPlaceAt, IsSetAlone, IsSetAt, IsWithout, last_before}
use Rattle.ini_edit.specs.Inside.Spans.{AreSections}
use Rattle.ini_edit.specs.SourceEdits.{with_pairs}
use Rattle.ini_edit.specs.SourceEditsDelete.{count_of, deleted_from, deleted_times}
use Rattle.ini_edit.specs.SourceEditsSet.{IsFirstSet, SetsFirst, SetsNth, pair_changed_at, with_value_before}
use Rattle.ini_edit.specs.SourcePlaces.{PairPlace, Place, edited_at, nth_place, pair_place, section_place}
use Rattle.ini_edit.specs.Sources.{PairPiece, Pieces, SectionPiece, sections_text}
use Rattle.ini_edit.specs.declared.source.set.LaterPairs.TheVariants.{Left, TakenOut}
use Rattle.ini_edit.proofs.DeletedSourceLemmas.{IsPlaced, first_again, from_sections, none_above}
use Rattle.ini_edit.proofs.DeletedSourceLemmas.{nth_fits, nth_none, placed, times_there}
use Rattle.ini_edit.proofs.SourcePlaceLemmas.{place_set, place_take}
use Rattle.ini_edit.proofs.SourceWrittenLemmas.{before_key, sections_now, sections_set_at}
use Rattle.ini_edit.proofs.WithoutLemmas.{nth_few}

-- as many fit, with one exchanged for another that fits where it does
count_same : {A : Type 0} (test : A → Bool) (before after : List A) (x y : A) → test x ≡ test y
    → count_by test (before ++ x ∷ after) ≡ count_by test (before ++ y ∷ after)
count_same {A} test before after x y same =
    let one : A → ℕ = λ z. cond (test z) 1 0 in
    let equal : one x ≡ one y = ap (λ b. let n : ℕ = cond b 1 0 in n) same in
    omega (
      arith,
      equal,
      sum_by-append one before (x ∷ after),
      sum_by-append one before (y ∷ after),
      sum_by-append one (x ∷ []) after,
      sum_by-append one (y ∷ []) after,
    )

-- a section in which no other pair of the key follows the one that is set
pub alone_already : {o : ParseOption} {policy : EscapePolicy} {front i : ℕ} {key value : Text}
    {old new : SectionPiece} {p : Place PairPiece}
    → IsPlaceAt old.pairs p i → nth_place (λ p. is_text key p.key) 1 old.pairs ≡ None
    → IsSetAt o policy value old new p → IsSetAlone o policy front key value old new p
alone_already {o = o} {key = key} {value} {old} {new} {p} at none is =
    let keyed : PairPiece → Bool = λ p. is_text key p.key in
    let here = with_value_before o is.source value p.after p.here in
    let few = none_above (nth_none keyed old.pairs 1 none) in
    let was = ap (count_by keyed) at.whole in
    let same = count_same keyed p.before p.after here p.here
    (ap (is_text key) (before_key o is.source value p.after p.here)) in
    let now : count_by keyed new.pairs ≡ count_by keyed (p.before ++ here ∷ p.after) =
    ap (λ s. count_by keyed s.pairs) is.is in
    record {
      set = new;
      is_set = is;
      without = IsWithout.no_more (nth_few keyed new.pairs 1 (omega (arith, few, was, same, now)));
    }

-- the section of the place, once the value of its pair is another
abbrev pub section_with : ParseOption → PairPlace → (source value : Text) → SectionPiece
section_with o p source value =
    with_pairs p.section.here
    (p.pair.before ++ with_value_before o source value p.pair.after p.pair.here ∷ p.pair.after)

abbrev pub place_with : ParseOption → PairPlace → (source value : Text) → Place SectionPiece
place_with o p source value = record {
  before = p.section.before;
  here = section_with o p source value;
  after = p.section.after;
}

module _ (o : ParseOption) (name : Option Text) (key : Text) (n : ℕ) (ss : List SectionPiece)
    (place : PairPlace) (was : pair_place name key n ss ≡ Some place) (source value : Text) where
  there : IsPlaced o name key n ss place
  there = placed o name key n ss place was

  pub again : IsPlaced o name key n ss place
      → section_place name (pair_changed_at (with_value_before o source value place.pair.after) place)
      ≡ Some (place_with o place source value)
  again (IsPlaced.in_section at pair) = first_again (section_with o place source value) at (nth_fits at)

  pub counted : count_of name key (pair_changed_at (with_value_before o source value place.pair.after) place)
      ≡ count_by (λ p. is_text key p.key) (section_with o place source value).pairs
  counted = ap (λ s. edited_at (λ s. count_by (λ p. is_text key p.key) s.here.pairs) s 0) (again there)

  -- those that follow go
  alone_now : {i front : ℕ} {t : SectionPiece} → IsPlaceAt ss place.section i
      → front ≡ last_before ss i
      → IsWithout o front key 1 (section_with o place source value) t
      → set ss i t ≡ deleted_from o name key 1 (pair_changed_at (with_value_before o source value place.pair.after) place)
  alone_now {i} {front} {t} at before out =
      let changed = pair_changed_at (with_value_before o source value place.pair.after) place in
      let last : last_or line_feed (sections_text place.section.before) ≡ front =
      sym (before ∙ ap (λ l. last_or line_feed (sections_text l)) (place_take at)) in
      place_set at t
      ∙ times_there o name key 1 front out changed (place_with o place source value) (again there) refl last
      ∙ ap (λ k. deleted_times o name key 1 (k - 1) changed) (sym counted)

module _ (name : Option Text) (key : Text) {ss : List SectionPiece} {i j : ℕ} (place : PairPlace)
    (was : pair_place name key 0 ss ≡ Some place) (at : IsPlaceAt ss place.section i)
    (within : IsPlaceAt place.section.here.pairs place.pair j) {o : ParseOption} {policy : EscapePolicy}
    {value : Text} {front : ℕ} {t : SectionPiece}
    (is : IsSetAlone o policy front key value place.section.here t place.pair)
    (before : front ≡ last_before ss i) where
  without_later : set ss i t
      ≡ deleted_from o name key 1 (pair_changed_at (with_value_before o is.is_set.source value place.pair.after) place)
  without_later =
      alone_now o name key 0 ss place was is.is_set.source value at before
      (subst (λ s. IsWithout o front key 1 s t) is.is_set.is is.without)

  pub first_alone : IsFirstSet o policy TakenOut ss (set ss i t) name key value
  first_alone = record {
    set = pair_changed_at (with_value_before o is.is_set.source value place.pair.after) place;
    is_set = record {
      place = place;
      was = was;
      source = is.is_set.source;
      is_written = is.is_set.is_written;
      is = refl;
    };
    is = without_later;
  }

  pub sections_alone : AreSections o ss → AreSections o (set ss i t)
  sections_alone are =
      let changed = pair_changed_at (with_value_before o is.is_set.source value place.pair.after) place in
      subst (AreSections o) (sym without_later)
      (from_sections o name key 1 changed
      (subst (AreSections o) (sections_now place at within is.is_set)
      (sections_set_at place at within is.is_set are)))

-- the later pairs as they are
module _ (o : ParseOption) (policy : EscapePolicy) (old new : Pieces) (name : Option Text)
    (key value : Text) where
  pub first_left : (found : Bool) → SetsNth o policy old new name key 0 value found
      → SetsFirst o policy Left old new name key value found
  first_left true h = (h.0, record { set = new.sections; is_set = h.1; is = refl })
  first_left false h = h
