-- The document of a text in pieces in which a key was set: in its first pair, the later ones out, or in a
-- new pair.
use Rattle.std.proofs.Common.{◌≡◌, ◌∙◌, ◌-◌, ◌≤◌, ℕ, Bool, true, false, cond, List, [], ◌∷◌, ◌++◌}
use Rattle.std.proofs.Common.{None, Option, Some, ap, arith, map, not, refl, suc, sym, zero}
use Rattle.std.proofs.lemmas.Bool.{cond-false, cond-true}
use Rattle.std.proofs.lemmas.List.{map-append}
use Rattle.std.specs.List.{count_by}
use Rattle.std.specs.Option.{option_map}
use Rattle.std.specs.Prelude.{option_and_then}
use Rattle.ini_text.specs.declared.option.ParseOption.{ParseOption}
use Rattle.ini_text.specs.declared.write.policy.EscapePolicy.{EscapePolicy}
use Rattle.ini.specs.Documents.{Document}
use Rattle.ini.specs.Edits.{add_in, edit_section, set_in}
use Rattle.ini.specs.Properties.{Pairs, all_removed, first_value, inserted}
use Rattle.ini.specs.Texts.{Text, is_name, is_text}
use Rattle.ini_edit.specs.SourceEditsDelete.{count_of, deleted_at, deleted_nth, deleted_times, pair_taken_out}
use Rattle.ini_edit.specs.SourceEditsSet.{IsFirstSet, pair_changed_at, with_value_before}
use Rattle.ini_edit.specs.SourcePlaces.{PairPlace, Place, edited_at, last_before_section, nth_place}
use Rattle.ini_edit.specs.SourcePlaces.{pair_place, section_place}
use Rattle.ini_edit.specs.Sources.{PairPiece, SectionPiece, given_pair, given_section}
use Rattle.ini_edit.specs.declared.source.set.LaterPairs.TheVariants.{TakenOut}
use Rattle.ini_edit.proofs.DeletedSourceLemmas.{IsPlaced, NthIs, NthNone, count_more, first_again}
use Rattle.ini_edit.proofs.DeletedSourceLemmas.{keyed_count, none_above, nth_fits, nth_is, nth_none}
use Rattle.ini_edit.proofs.DeletedSourceLemmas.{nth_whole, pair_within, placed, placed_in, taken_count}
use Rattle.ini_edit.proofs.DeletedSourceLemmas.{taken_given, unmapped}
use Rattle.ini_edit.proofs.TakenLemmas.{taken_name}
use Rattle.ini_edit.proofs.SetAloneLemmas.{again, counted, place_with}
use Rattle.ini_edit.proofs.SourceWrittenLemmas.{before_given}

module _ (key : Text) where
  abbrev fits : PairPiece → Bool
  fits p = is_text key p.key

  -- one of the pairs of the key out of those that go anyway
  removed_one : {n : ℕ} {ps : List PairPiece} {p : Place PairPiece} → NthIs fits n ps p
      → all_removed key (map given_pair (p.before ++ p.after)) ≡ all_removed key (map given_pair ps)
  removed_one (NthIs.found {x = x} is) = sym (cond-false (not (is_text key x.key)) _ _ (ap not is))
  removed_one (NthIs.fits {x = x} is more) =
      cond-false (not (is_text key x.key)) _ _ (ap not is) ∙ removed_one more
      ∙ sym (cond-false (not (is_text key x.key)) _ _ (ap not is))
  removed_one (NthIs.apart {x = x} is more) =
      cond-true (not (is_text key x.key)) _ _ (ap not is) ∙ ap (λ l. given_pair x ∷ l) (removed_one more)
      ∙ sym (cond-true (not (is_text key x.key)) _ _ (ap not is))

  -- a later one out: the key set, and its first value, are the same
  module _ (value : Text) where
    set_one : {n : ℕ} {ps : List PairPiece} {p : Place PairPiece} → NthIs fits (suc n) ps p
        → inserted key value (map given_pair (p.before ++ p.after)) ≡ inserted key value (map given_pair ps)
    set_one (NthIs.fits {x = x} is more) =
        cond-true (is_text key x.key) _ _ is ∙ ap (λ l. (x.key, value) ∷ l) (removed_one more)
        ∙ sym (cond-true (is_text key x.key) _ _ is)
    set_one (NthIs.apart {x = x} is more) =
        cond-false (is_text key x.key) _ _ is ∙ ap (λ l. given_pair x ∷ l) (set_one more)
        ∙ sym (cond-false (is_text key x.key) _ _ is)

    -- the first one with another value
    set_first : (new : PairPiece) {ps : List PairPiece} {p : Place PairPiece} → new.key ≡ p.here.key
        → NthIs fits 0 ps p
        → inserted key value (map given_pair (p.before ++ new ∷ p.after))
        ≡ inserted key value (map given_pair ps)
    set_first new same (NthIs.found {x = x} {xs = xs} is) =
        ap (λ k. inserted key value ((k, new.value) ∷ map given_pair xs)) same
        ∙ cond-true (is_text key x.key) _ _ is ∙ sym (cond-true (is_text key x.key) _ _ is)
    set_first new same (NthIs.apart {x = x} is more) =
        cond-false (is_text key x.key) _ _ is ∙ ap (λ l. given_pair x ∷ l) (set_first new same more)
        ∙ sym (cond-false (is_text key x.key) _ _ is)

    -- a key that isn't there goes last
    set_last : {ps : List PairPiece} → NthNone fits 0 ps
        → inserted key value (map given_pair ps) ≡ map given_pair ps ++ (key, value) ∷ []
    set_last NthNone.ends = refl
    set_last (NthNone.apart {x = x} is more) =
        cond-false (is_text key x.key) _ _ is ∙ ap (λ l. given_pair x ∷ l) (set_last more)

    removed_none : (gs : Pairs) → count_by (λ g. is_text key g.0) gs ≤ 0 → all_removed key gs ≡ gs
    removed_none [] none = refl
    removed_none (g ∷ gs) none = at (is_text key g.0) refl (removed_none gs)
      where
        at : (b : Bool) → is_text key g.0 ≡ b
            → (count_by (λ g. is_text key g.0) gs ≤ 0 → all_removed key gs ≡ gs)
            → all_removed key (g ∷ gs) ≡ g ∷ gs
        at true is more =
            let one : cond {A = ℕ} (is_text key g.0) 1 0 ≡ 1 = cond-true (is_text key g.0) 1 0 is in
            absurd (omega (arith, none, one, count_more (λ g. is_text key g.0) g gs))
        at false is more =
            let few : count_by (λ g. is_text key g.0) gs ≤ 0 =
            omega (arith, none, count_more (λ g. is_text key g.0) g gs) in
            cond-true (not (is_text key g.0)) _ _ (ap not is) ∙ ap (λ l. g ∷ l) (more few)

    -- a key that has the value, and no later pair
    set_already : (gs : Pairs) → first_value key gs ≡ Some value → count_by (λ g. is_text key g.0) gs ≤ 1
        → inserted key value gs ≡ gs
    set_already [] has one = absurd (let no : None ≡ Some value = has in cc)
    set_already (g ∷ gs) has one = at (is_text key g.0) refl (set_already gs)
      where
        at : (b : Bool) → is_text key g.0 ≡ b
            → (first_value key gs ≡ Some value → count_by (λ g. is_text key g.0) gs ≤ 1
            → inserted key value gs ≡ gs)
            → inserted key value (g ∷ gs) ≡ g ∷ gs
        at true is more =
            let here : Some g.1 ≡ Some value = sym (cond-true (is_text key g.0) _ _ is) ∙ has in
            let same : value ≡ g.1 = cc in
            let first : cond {A = ℕ} (is_text key g.0) 1 0 ≡ 1 = cond-true (is_text key g.0) 1 0 is in
            let few : count_by (λ g. is_text key g.0) gs ≤ 0 =
            omega (arith, one, first, count_more (λ g. is_text key g.0) g gs) in
            cond-true (is_text key g.0) _ _ is ∙ ap (λ v. (g.0, v) ∷ all_removed key gs) same
            ∙ ap (λ l. g ∷ l) (removed_none gs few)
        at false is more =
            let few : count_by (λ g. is_text key g.0) gs ≤ 1 =
            omega (arith, one, count_more (λ g. is_text key g.0) g gs) in
            cond-false (is_text key g.0) _ _ is
            ∙ ap (λ l. g ∷ l) (more (sym (cond-false (is_text key g.0) _ _ is) ∙ has) few)

  first_one : {n : ℕ} {ps : List PairPiece} {p : Place PairPiece} → NthIs fits (suc n) ps p
      → first_value key (map given_pair (p.before ++ p.after)) ≡ first_value key (map given_pair ps)
  first_one (NthIs.fits {x = x} is more) =
      cond-true (is_text key x.key) _ _ is ∙ sym (cond-true (is_text key x.key) _ _ is)
  first_one (NthIs.apart {x = x} is more) =
      cond-false (is_text key x.key) _ _ is ∙ first_one more ∙ sym (cond-false (is_text key x.key) _ _ is)

  first_has : (new : PairPiece) (value : Text) {ps : List PairPiece} {p : Place PairPiece}
      → given_pair new ≡ (p.here.key, value) → NthIs fits 0 ps p
      → first_value key (map given_pair (p.before ++ new ∷ p.after)) ≡ Some value
  first_has new value given (NthIs.found {x = x} {xs = xs} is) =
      ap (λ g. first_value key (g ∷ map given_pair xs)) given ∙ cond-true (is_text key x.key) _ _ is
  first_has new value given (NthIs.apart {x = x} is more) =
      cond-false (is_text key x.key) _ _ is ∙ first_has new value given more

-- a section that lost later pairs of the key
record IsLess (key : Text) (s t : SectionPiece) : Type 0 where
  name : t.name ≡ s.name
  set : (value : Text)
      → inserted key value (map given_pair t.pairs) ≡ inserted key value (map given_pair s.pairs)
  first : first_value key (map given_pair t.pairs) ≡ first_value key (map given_pair s.pairs)

less_same : (key : Text) (s : SectionPiece) → IsLess key s s
less_same key s = record { name = refl; set = λ v. refl; first = refl }

less_more : {key : Text} {s t u : SectionPiece} → IsLess key s t → IsLess key t u → IsLess key s u
less_more one more = record {
  name = more.name ∙ one.name;
  set = λ v. more.set v ∙ one.set v;
  first = more.first ∙ one.first;
}

-- the place of a pair in a section's, if there is one
abbrev pair_of : Place SectionPiece → Option (Place PairPiece) → Option PairPlace
pair_of s q = option_map (placed_in s) q

module _ (o : ParseOption) (name : Option Text) (key : Text) where
  less_one : (front : ℕ) (s : SectionPiece) (p : Place PairPiece) → NthIs (fits key) 1 s.pairs p
      → IsLess key s (pair_taken_out o front s p)
  less_one front s p is =
      let given = ap (λ g. g.1) (taken_given o front s p) in
      record {
        name = taken_name o front s p;
        set = λ v. ap (inserted key v) given ∙ set_one key v {n = 0} is;
        first = ap (first_value key) given ∙ first_one key {n = 0} is;
      }

  -- the sections once so many later pairs are out, of which there are no more
  record AreLess (p : Place SectionPiece) (k : ℕ) (new : List SectionPiece) : Type 0 where
    section : SectionPiece
    whole : new ≡ p.before ++ section ∷ p.after
    less : IsLess key p.here section
    few : count_by (fits key) p.here.pairs ≤ suc k → count_by (fits key) section.pairs ≤ 1

  times_less : (k : ℕ) (ss : List SectionPiece) (p : Place SectionPiece) → section_place name ss ≡ Some p
      → AreLess p k (deleted_times o name key 1 k ss)
  times_less zero ss p is = record {
    section = p.here;
    whole = nth_whole (nth_is (λ s. is_name name s.name) ss 0 p is);
    less = less_same key p.here;
    few = λ few. few;
  }
  times_less (suc k) ss p is = at (nth_place (fits key) 1 p.here.pairs) refl (times_less k)
    where
      section : NthIs (λ s. is_name name s.name) 0 ss p
      section = nth_is (λ s. is_name name s.name) ss 0 p is

      place : (q : Option (Place PairPiece)) → nth_place (fits key) 1 p.here.pairs ≡ q
          → deleted_nth o name key 1 ss ≡ edited_at (deleted_at o) (pair_of p q) ss
      place q there = ap (λ s. edited_at (deleted_at o) (option_and_then (pair_within key 1) s) ss) is
          ∙ ap (λ q. edited_at (deleted_at o) (pair_of p q) ss) there

      at : (q : Option (Place PairPiece)) → nth_place (fits key) 1 p.here.pairs ≡ q
          → ((ss : List SectionPiece) (p : Place SectionPiece) → section_place name ss ≡ Some p
          → AreLess p k (deleted_times o name key 1 k ss))
          → AreLess p (suc k) (deleted_times o name key 1 (suc k) ss)
      at None there goes_on =
          let above = none_above (nth_none (fits key) p.here.pairs 1 there) in
          let more = goes_on ss p is in
          record {
            section = more.section;
            whole = ap (deleted_times o name key 1 k) (place None there) ∙ more.whole;
            less = more.less;
            few = λ few. more.few (omega (arith, above));
          }
      at (Some q) there goes_on =
          let pair = nth_is (fits key) p.here.pairs 1 q there in
          let front = last_before_section p in
          let new = pair_taken_out o front p.here q in
          let named : is_name name new.name ≡ true =
          ap (is_name name) (taken_name o front p.here q) ∙ nth_fits section in
          let fewer = taken_count o name key front p.here 1 q pair in
          let more = goes_on (p.before ++ new ∷ p.after)
          (record { before = p.before; here = new; after = p.after }) (first_again new section named) in
          record {
            section = more.section;
            whole = ap (deleted_times o name key 1 k) (place (Some q) there) ∙ more.whole;
            less = less_more (less_one front p.here q pair) more.less;
            few = λ few. more.few (omega (arith, few, fewer));
          }

-- an edit of the first section of the name
pub edit_at : (name : Option Text) (f : Pairs → Pairs) (last : Document) {ss : List SectionPiece}
    {s : Place SectionPiece} → NthIs (λ s. is_name name s.name) 0 ss s
    → edit_section name f last (map given_section ss)
    ≡ map given_section s.before
    ++ ((s.here.name, f (map given_pair s.here.pairs)) ∷ map given_section s.after)
edit_at name f last (NthIs.found {x = x} is) = cond-true (is_name name x.name) _ _ is
edit_at name f last (NthIs.apart {x = x} is more) =
    cond-false (is_name name x.name) _ _ is ∙ ap (λ l. given_section x ∷ l) (edit_at name f last more)

pub edit_nowhere : (name : Option Text) (f : Pairs → Pairs) (last : Document) {ss : List SectionPiece}
    → NthNone (λ s. is_name name s.name) 0 ss
    → edit_section name f last (map given_section ss) ≡ map given_section ss ++ last
edit_nowhere name f last NthNone.ends = refl
edit_nowhere name f last (NthNone.apart {x = x} is more) =
    cond-false (is_name name x.name) _ _ is ∙ ap (λ l. given_section x ∷ l) (edit_nowhere name f last more)

-- set in its place
pub first_set_document : {o : ParseOption} {policy : EscapePolicy} {old new : List SectionPiece}
    {name : Option Text} {key value : Text} → IsFirstSet o policy TakenOut old new name key value
    → map given_section new ≡ set_in name key value (map given_section old)
first_set_document {o} {old = old} {new} {name} {key} {value} h =
    at (placed o name key 0 old h.is_set.place h.is_set.was)
  where
    at : IsPlaced o name key 0 old h.is_set.place
        → map given_section new ≡ set_in name key value (map given_section old)
    at (IsPlaced.in_section section pair) =
        let place = h.is_set.place in
        let s = place.section in
        let source = h.is_set.source in
        let changed = pair_changed_at (with_value_before o source value place.pair.after) place in
        let here = with_value_before o source value place.pair.after place.pair.here in
        let here_given = before_given o source value place.pair.after place.pair.here in
        let there = again o name key 0 old place h.is_set.was source value
        (IsPlaced.in_section section pair) in
        let k = count_of name key changed - 1 in
        let less = times_less o name key k changed (place_with o place source value) there in
        let is : new ≡ s.before ++ less.section ∷ s.after =
        h.is ∙ ap (λ ss. deleted_times o name key 1 (count_of name key ss - 1) ss) h.is_set.is ∙ less.whole in
        let few : count_by (fits key) less.section.pairs ≤ 1 =
        less.few (omega (arith, counted o name key 0 old place h.is_set.was source value)) in
        let given = map given_pair less.section.pairs in
        let pairs : given ≡ inserted key value (map given_pair s.here.pairs) =
        sym (set_already key value given (less.less.first ∙ first_has key here value here_given pair)
        (omega (arith, few, keyed_count o name key less.section.pairs)))
        ∙ less.less.set value ∙ set_first key value here (ap (λ g. g.0) here_given) pair in
        ap (map given_section) is ∙ map-append given_section s.before (less.section ∷ s.after)
        ∙ ap (λ n. map given_section s.before ++ ((n, given) ∷ map given_section s.after)) less.less.name
        ∙ ap (λ g. map given_section s.before ++ ((s.here.name, g) ∷ map given_section s.after)) pairs
        ∙ sym (edit_at name (inserted key value) ((name, (key, value) ∷ []) ∷ []) section)

-- in a new pair
pub set_as_added : (name : Option Text) (key value : Text) (ss : List SectionPiece)
    → pair_place name key 0 ss ≡ None
    → add_in name key value (map given_section ss) ≡ set_in name key value (map given_section ss)
set_as_added name key value ss none = at (section_place name ss) refl none
  where
    at : (s : Option (Place SectionPiece)) → section_place name ss ≡ s
        → option_and_then (pair_within key 0) s ≡ None
        → edit_section name (λ pairs. pairs ++ (key, value) ∷ []) ((name, (key, value) ∷ []) ∷ [])
        (map given_section ss) ≡ set_in name key value (map given_section ss)
    at None is gone =
        let nowhere = nth_none (λ s. is_name name s.name) ss 0 is in
        edit_nowhere name (λ pairs. pairs ++ (key, value) ∷ []) ((name, (key, value) ∷ []) ∷ []) nowhere
        ∙ sym (edit_nowhere name (inserted key value) ((name, (key, value) ∷ []) ∷ []) nowhere)
    at (Some s) is gone =
        let section = nth_is (λ s. is_name name s.name) ss 0 s is in
        let lacks = nth_none (fits key) s.here.pairs 0
        (unmapped (placed_in s) (nth_place (fits key) 0 s.here.pairs) gone) in
        edit_at name (λ pairs. pairs ++ (key, value) ∷ []) ((name, (key, value) ∷ []) ∷ []) section
        ∙ ap (λ g. map given_section s.before ++ ((s.here.name, g) ∷ map given_section s.after))
        (sym (set_last key value lacks))
        ∙ sym (edit_at name (inserted key value) ((name, (key, value) ∷ []) ∷ []) section)
