-- Keys under a rule of a text in pieces: where their pairs stand, and these with another key.
use Rattle.std.proofs.Common.{◌≡◌, ◌∙◌, ◌<◌, ◌≤◌, ◌+◌, ◌==◌, ℕ, suc, zero, Bool, true, false, cond, List}
use Rattle.std.proofs.Common.{[], ◌∷◌, ◌++◌, None, Option, Some, ap, append_assoc, arith, drop, get_or, inl}
use Rattle.std.proofs.Common.{inr, length, length-append, map, not, refl, subst, sym}
use Rattle.std.proofs.lemmas.Bool.{cases_Bool}
use Rattle.std.proofs.lemmas.List.{drop_all, get_or_default}
use Rattle.std.specs.Option.{option_and_then, option_map}
use Rattle.std.specs.Prelude.{is_some}
use Rattle.ini_multimap.specs.Pairs.{values_at}
use Rattle.ini_text.specs.declared.write.policy.EscapePolicy.{EscapePolicy}
use Rattle.ini.specs.Documents.{Document}
use Rattle.ini.specs.Properties.{Pairs}
use Rattle.ini.specs.Texts.{Text}
use Rattle.ini_edit.specs.SourceEditsAt.{CommentsOutAtIndex, RenamesAtIndex}
use Rattle.ini_edit.specs.SourceEditsAt.{at_index, at_section, indexed_pair, indexed_place}
use Rattle.ini_edit.specs.SourcePlaces.{PairPlace, Place, one_on}
use Rattle.ini_edit.specs.Sources.{PairPiece, Pieces, SectionPiece, document_in, given_pair, given_section}
use Rattle.ini_edit.proofs.FirstLemmas.{rest_here}
use Rattle.ini_dialect.specs.Inside.{renamed_at}
use Rattle.ini_dialect.specs.KeyEdits.{AreKeysRenamed, CommentsOutUnder, keys_renamed}
use Rattle.ini_dialect.specs.KeyEdits.{keys_renamed_by, numbers_by, numbers_in, numbers_under, with_other_key}
use Rattle.ini_dialect.specs.Lookups.{all_values, counting, name_fits, text_fits, value_under}
use Rattle.ini_dialect.specs.SourceLookups.{IsCountingPair}
use Rattle.ini_dialect.specs.declared.rule.CaseRule.{CaseRule}
use Rattle.ini_dialect.specs.declared.rule.Lookup.{Lookup}
use Rattle.ini_dialect.specs.declared.rule.SectionRule.{SectionRule}
use Rattle.ini_dialect.specs.declared.rule.SectionRule.TheVariants.{First as FirstSection, Joined}
use Rattle.ini_dialect.specs.declared.source.PairNumber.{PairNumber}
use Rattle.ini_dialect.proofs.EditLemmas.{number-here}
use Rattle.ini_dialect.proofs.PutUnderLemmas.{pair_there}
use Rattle.ini_dialect.proofs.SectionLemmas.{all_values-gathered, gathered}
use Rattle.ini_dialect.proofs.SourceLookupLemmas.{counting-nil, counting-none}

-- one item more before a place
pub moved : {X : Type 0} (xs : List X) (y : X) (ys : List X) → (xs ++ y ∷ []) ++ ys ≡ xs ++ y ∷ ys
moved xs y ys = append_assoc xs (y ∷ []) ys

pub one-longer : {X : Type 0} (xs : List X) (y : X) → length (xs ++ y ∷ []) ≡ suc (length xs)
one-longer [] y = refl
one-longer (x ∷ xs) y = ap suc (one-longer xs y)

renamed-append : (other : Text) (ms ns : List PairNumber) (d : Document)
    → renamed_at other (ms ++ ns) d ≡ renamed_at other ns (renamed_at other ms d)
renamed-append other [] ns d = refl
renamed-append other (at ∷ ms) ns d = renamed-append other ms ns _

module _ (rule : Lookup) (name : Option Text) (key other : Text) where
  abbrev key_put : Text × Text → Text × Text
  key_put p = cond (text_fits rule.case key p.0) (other, p.1) p

  -- the pairs of a section from one on
  module _ (before : Document) (n : Option Text) (after : Document) where
    abbrev around : Pairs → Document
    around ps = before ++ (n, ps) ∷ after

    abbrev from_pair : ℕ → Pairs → List PairNumber
    from_pair j ps = numbers_in rule.case key (length before) j ps

    step : (front : Pairs) (p : Text × Text) (ps : Pairs)
        → at_section (length before) (at_index (length front) (λ q. (other, q.1))) (around (front ++ p ∷ ps))
        ≡ around (front ++ (other, p.1) ∷ ps)
    step front p ps =
        number-here (λ s. (s.0, at_index (length front) (λ q. (other, q.1)) s.1)) before
        (n, front ++ p ∷ ps) after
        ∙ ap around (number-here (λ q. (other, q.1)) front p ps)

    -- behind one that stays, or that changed
    next : (front : Pairs) (q : Text × Text) (ps : Pairs)
        → renamed_at other (from_pair (length (front ++ q ∷ [])) ps) (around ((front ++ q ∷ []) ++ ps))
        ≡ around ((front ++ q ∷ []) ++ map key_put ps)
        → renamed_at other (from_pair (suc (length front)) ps) (around (front ++ q ∷ ps))
        ≡ around (front ++ q ∷ map key_put ps)
    next front q ps more =
        ap (λ j. renamed_at other (from_pair j ps) (around (front ++ q ∷ ps))) (sym (one-longer front q))
        ∙ ap (λ l. renamed_at other (from_pair (length (front ++ q ∷ [])) ps) (around l))
        (sym (moved front q ps))
        ∙ more ∙ ap around (moved front q (map key_put ps))

    renamed-pairs : (front ps : Pairs)
        → renamed_at other (from_pair (length front) ps) (around (front ++ ps))
        ≡ around (front ++ map key_put ps)
    renamed-pairs front [] = refl
    renamed-pairs front (p ∷ ps) =
        elim (cases_Bool (text_fits rule.case key p.0)) [
          | inl there ↦ rw there (
              ap (renamed_at other (from_pair (suc (length front)) ps)) (step front p ps)
              ∙ next front (other, p.1) ps (renamed-pairs (front ++ (other, p.1) ∷ []) ps))
          | inr apart ↦ rw apart (next front p ps (renamed-pairs (front ++ p ∷ []) ps))
        ]

  -- the sections from one on
  abbrev put : Option Text × Pairs → Option Text × Pairs
  put s = with_other_key rule name key other s

  next-section : (sections : SectionRule) (before : Document) (s : Option Text × Pairs) (d : Document)
      → renamed_at other (numbers_by rule name key sections (length (before ++ s ∷ [])) d)
      ((before ++ s ∷ []) ++ d)
      ≡ (before ++ s ∷ []) ++ keys_renamed_by rule name key sections other d
      → renamed_at other (numbers_by rule name key sections (suc (length before)) d) (before ++ s ∷ d)
      ≡ before ++ s ∷ keys_renamed_by rule name key sections other d
  next-section sections before s d more =
      ap (λ i. renamed_at other (numbers_by rule name key sections i d) (before ++ s ∷ d))
      (sym (one-longer before s))
      ∙ ap (renamed_at other (numbers_by rule name key sections (length (before ++ s ∷ [])) d))
      (sym (moved before s d))
      ∙ more ∙ moved before s (keys_renamed_by rule name key sections other d)

  renamed-sections : (sections : SectionRule) (before d : Document)
      → renamed_at other (numbers_by rule name key sections (length before) d) (before ++ d)
      ≡ before ++ keys_renamed_by rule name key sections other d
  renamed-sections FirstSection before [] = refl
  renamed-sections Joined before [] = refl
  renamed-sections FirstSection before (s ∷ d) =
      elim (cases_Bool (name_fits rule.case name s.0)) [
        | inl there ↦ rw there (renamed-pairs before s.0 d [] s.1)
        | inr apart ↦
            rw apart (next-section FirstSection before s d
            (renamed-sections FirstSection (before ++ s ∷ []) d))
      ]
  renamed-sections Joined before (s ∷ d) =
      elim (cases_Bool (name_fits rule.case name s.0)) [
        | inl there ↦ rw there (
            renamed-append other (numbers_in rule.case key (length before) 0 s.1)
            (numbers_by rule name key Joined (suc (length before)) d) (before ++ s ∷ d)
            ∙ ap (renamed_at other (numbers_by rule name key Joined (suc (length before)) d))
            (renamed-pairs before s.0 d [] s.1)
            ∙ next-section Joined before (put s) d (renamed-sections Joined (before ++ put s ∷ []) d))
        | inr apart ↦
            rw apart (next-section Joined before s d (renamed-sections Joined (before ++ s ∷ []) d))
      ]

  -- the pairs at these numbers are all of the key that are looked at
  pub renamed_whole : (d : Document)
      → renamed_at other (numbers_under rule name key d) d ≡ keys_renamed rule name key other d
  renamed_whole d = renamed-sections rule.sections [] d

-- as many as there are values
module _ (rule : Lookup) (name : Option Text) (key : Text) where
  count_in : (i j : ℕ) (ps : Pairs)
      → length (numbers_in rule.case key i j ps) ≡ length (values_at (text_fits rule.case key) ps)
  count_in i j [] = refl
  count_in i j (p ∷ ps) =
      elim (cases_Bool (text_fits rule.case key p.0)) [
        | inl there ↦ rw there (ap suc (count_in i (suc j) ps))
        | inr apart ↦ rw apart (count_in i (suc j) ps)
      ]

  count_by : (sections : SectionRule) (i : ℕ) (d : Document)
      → length (numbers_by rule name key sections i d)
      ≡ length (gathered sections (name_fits rule.case name) (text_fits rule.case key) d)
  count_by sections i [] = refl
  count_by FirstSection i (s ∷ d) =
      elim (cases_Bool (name_fits rule.case name s.0)) [
        | inl there ↦ rw there (count_in i 0 s.1)
        | inr apart ↦ rw apart (count_by FirstSection (suc i) d)
      ]
  count_by Joined i (s ∷ d) =
      elim (cases_Bool (name_fits rule.case name s.0)) [
        | inl there ↦ rw there (
            length-append (numbers_in rule.case key i 0 s.1) (numbers_by rule name key Joined (suc i) d)
            ∙ ap (λ n. n + length (numbers_by rule name key Joined (suc i) d)) (count_in i 0 s.1)
            ∙ ap (λ n. length (values_at (text_fits rule.case key) s.1) + n) (count_by Joined (suc i) d)
            ∙ sym (length-append (values_at (text_fits rule.case key) s.1)
            (gathered Joined (name_fits rule.case name) (text_fits rule.case key) d)))
        | inr apart ↦ rw apart (count_by Joined (suc i) d)
      ]

  pub count_under : (d : Document)
      → length (numbers_under rule name key d) ≡ length (all_values rule name key d)
  count_under d = count_by rule.sections 0 d ∙ ap length (sym (all_values-gathered rule name key d))

  -- and one where there is a value
  pub found_under : (d : Document)
      → not (length (numbers_under rule name key d) == 0) ≡ is_some (value_under rule name key d)
  found_under d = ap (λ n. not (n == 0)) (count_under d) ∙ by (all_values rule name key d)
    where
      some : (v : Text) (vs : List Text) (o : Option Text) → counting rule.values (v ∷ vs) ≡ o
          → true ≡ is_some o
      some v vs (Some x) is = refl
      some v vs None is =
          absurd (let no : v ∷ vs ≡ [] = counting-none rule.values (v ∷ vs) is in cc)

      by : (vs : List Text) → not (length vs == 0) ≡ is_some (counting rule.values vs)
      by [] = sym (ap is_some (counting-nil rule.values))
      by (v ∷ vs) =
          let more : not (length (v ∷ vs) == 0) ≡ true = grind arith in
          more ∙ some v vs (counting rule.values (v ∷ vs)) refl

-- where the pairs of a key stand that are left on a walk
abbrev pub pairs_left : CaseRule → Text → ℕ → List PairPiece → ℕ → List PairNumber
pairs_left case key section ps j = numbers_in case key section j (map given_pair (drop j ps))

abbrev pub sections_left : Lookup → Option Text → Text → List SectionPiece → ℕ → List PairNumber
sections_left rule name key ss i = numbers_by rule name key rule.sections i (map given_section (drop i ss))

-- an edit where nothing stands
pub none_behind : {X : Type 0} (x : X) (o : Option (Place X)) → option_map (one_on x) o ≡ None → o ≡ None
none_behind x None h = refl
none_behind {X} x (Some p) h = absurd (let no : ◌≡◌ {A = Option (Place X)} (Some (one_on x p)) None = h in cc)

pub unchanged_there : {X Y : Type 0} (view : X → Y) (f : Y → Y) (xs : List X) (i : ℕ)
    → indexed_place i xs ≡ None → at_index i f (map view xs) ≡ map view xs
unchanged_there view f [] i none = refl
unchanged_there {X} view f (x ∷ xs) zero none = absurd cc
unchanged_there {X} view f (x ∷ xs) (suc i) none =
    ap (λ l. view x ∷ l) (unchanged_there view f xs i (none_behind x (indexed_place i xs) none))

abbrev placed : Place SectionPiece → Place PairPiece → PairPlace
placed s p = record { section = s; pair = p }

abbrev pairs_of : ℕ → Place SectionPiece → Option PairPlace
pairs_of j s = option_map (placed s) (indexed_place j s.here.pairs)

none_placed : (s t : Place SectionPiece) (o : Option (Place PairPiece)) → option_map (placed s) o ≡ None
    → option_map (placed t) o ≡ None
none_placed s t None h = refl
none_placed s t (Some p) h = absurd (let no : ◌≡◌ {A = Option PairPlace} (Some (placed s p)) None = h in cc)

none_there : (s : Place SectionPiece) (o : Option (Place PairPiece)) → option_map (placed s) o ≡ None
    → o ≡ None
none_there s None h = refl
none_there s (Some p) h = absurd (let no : ◌≡◌ {A = Option PairPlace} (Some (placed s p)) None = h in cc)

none_later : (j : ℕ) (s : SectionPiece) (o : Option (Place SectionPiece))
    → option_and_then (pairs_of j) (option_map (one_on s) o) ≡ None → option_and_then (pairs_of j) o ≡ None
none_later j s None h = refl
none_later j s (Some p) h = none_placed (one_on s p) p (indexed_place j p.here.pairs) h

pub nothing_there : (f : Pairs → Pairs) (j : ℕ)
    → ((ps : List PairPiece) → indexed_place j ps ≡ None → f (map given_pair ps) ≡ map given_pair ps)
    → (ss : List SectionPiece) (i : ℕ) → indexed_pair i j ss ≡ None
    → at_section i f (map given_section ss) ≡ map given_section ss
nothing_there f j same [] i none = refl
nothing_there f j same (s ∷ ss) zero none =
    ap (λ ps. (s.name, ps) ∷ map given_section ss)
    (same s.pairs
    (none_there (record { before = []; here = s; after = ss }) (indexed_place j s.pairs) none))
nothing_there f j same (s ∷ ss) (suc i) none =
    ap (λ l. given_section s ∷ l)
    (nothing_there f j same ss i (none_later j s (indexed_place i ss) none))

-- keys renamed up to this one of the numbers
pub record KeysSoFar (policy : EscapePolicy) (other : Text) (numbers : List PairNumber) (old now : Pieces)
    (n : ℕ) : Type 0 where
  pub goes_on : (q : Pieces) → AreKeysRenamed policy other (drop n numbers) now q
      → AreKeysRenamed policy other numbers old q
  pub option : now.option ≡ old.option
  pub document : renamed_at other (drop n numbers) (document_in now)
      ≡ renamed_at other numbers (document_in old)

module _ (policy : EscapePolicy) (other : Text) (numbers : List PairNumber) where
  pub keys_start : (old : Pieces) → KeysSoFar policy other numbers old old 0
  keys_start old = record { goes_on = λ q more. more; option = refl; document = refl }

  module _ {old now : Pieces} {n : ℕ} (so_far : KeysSoFar policy other numbers old now n) where
    pub keys_more : {next : Pieces} (d : PairNumber) (made : Bool) → n < length numbers
        → RenamesAtIndex now.option policy now next (get_or numbers n d).section (get_or numbers n d).pair
        other made
        → KeysSoFar policy other numbers old next (n + 1)
    keys_more {next} d made within renames =
        let at = get_or numbers n d in
        let rest = rest_here numbers n at within (get_or_default numbers n d at within) in
        record {
          goes_on = λ q more. so_far.goes_on q
              (subst (λ l. AreKeysRenamed policy other l now q) (sym rest)
              (AreKeysRenamed.first_of made renames more));
          option = (step made renames).0 ∙ so_far.option;
          document = ap (renamed_at other (drop (n + 1) numbers)) (step made renames).1
              ∙ ap (λ l. renamed_at other l (document_in now)) (sym rest) ∙ so_far.document;
        }
      where
        step : (b : Bool)
            → RenamesAtIndex now.option policy now next (get_or numbers n d).section
            (get_or numbers n d).pair other b
            → (next.option ≡ now.option) × (document_in next
            ≡ at_section (get_or numbers n d).section
            (at_index (get_or numbers n d).pair (λ p. (other, p.1))) (document_in now))
        step true renamed = (renamed.option, renamed.document)
        step false same = (
          ap (λ (p : Pieces). p.option) same.0,
          ap document_in same.0
              ∙ sym (nothing_there (at_index (get_or numbers n d).pair (λ p. (other, p.1)))
              (get_or numbers n d).pair
              (λ ps none. unchanged_there given_pair (λ p. (other, p.1)) ps (get_or numbers n d).pair none)
              now.sections (get_or numbers n d).section same.1),
        )

    module _ (all : length numbers ≤ n) where
      pub keys_done : AreKeysRenamed policy other numbers old now
      keys_done =
          so_far.goes_on now
          (subst (λ l. AreKeysRenamed policy other l now now) (sym (drop_all n numbers all))
          AreKeysRenamed.none_left)

      pub keys_document : document_in now ≡ renamed_at other numbers (document_in old)
      keys_document =
          ap (λ l. renamed_at other l (document_in now)) (sym (drop_all n numbers all)) ∙ so_far.document

-- the pair that counts made a comment
module _ (rule : Lookup) (name : Option Text) (key : Text) where
  pub comments_there : (old new : Pieces) {at : PairNumber} (found : Bool)
      → IsCountingPair rule name key (document_in old) at
      → CommentsOutAtIndex old.option old new at.section at.pair found
      → CommentsOutUnder rule name key old new found
  comments_there old new {at} true counts commented =
      record { at = at; counts = counts; commented = commented }
  comments_there old new false counts none =
      let there = pair_there rule name key old.sections counts in
      absurd (let no : ◌≡◌ {A = Option PairPlace} None (Some there.place) = sym none.1 ∙ there.is in cc)
