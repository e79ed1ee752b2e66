-- Sections under a rule taken out of a text in pieces, or renamed, one after another.
use Rattle.std.proofs.Common.{◌≡◌, ◌∙◌, ◌<◌, ℕ, Bool, true, false, ◌||◌, cond, List, [], ◌∷◌, None}
use Rattle.std.proofs.Common.{Err, IfOk, Ok, Option, Result, Some, String, ap, arith, inl, inr, length}
use Rattle.std.proofs.Common.{map, refl, subst, sym}
use Rattle.std.proofs.lemmas.Bool.{cases_Bool, false≢true}
use Rattle.std.specs.List.{list_any}
use Rattle.std.specs.Map.{remove_entry}
use Rattle.std.specs.Option.{option_map}
use Rattle.std.specs.declared.alloc.AllocError.{AllocError}
use Rattle.std.specs.declared.alloc.Global.{Global}
use Rattle.ini_multimap.specs.Pairs.{without}
use Rattle.ini_text.specs.declared.error.Error.TheVariants.{Io, Memory, NoProgress, NotUtf8, Parse}
use Rattle.ini_text.specs.declared.write.policy.EscapePolicy.{EscapePolicy}
use Rattle.ini.specs.Documents.{Document, first_section, section_removed}
use Rattle.ini.specs.Edits.{first_renamed, section_renamed}
use Rattle.ini.specs.Properties.{Pairs}
use Rattle.ini.specs.Texts.{Text, is_name, name_of}
use Rattle.ini.proofs.KeepingLemmas.{name_refl, names_equal, texts_equal}
use Rattle.ini_edit.specs.Edited.{IsNameOrMemory}
use Rattle.ini_edit.specs.SourceEdits.{IsNameRenamed, RenamesNameIn, first_fitting}
use Rattle.ini_edit.specs.SourceEditsList.{with_sections}
use Rattle.ini_edit.specs.SourceEditsSections.{section_deleted}
use Rattle.ini_edit.specs.SourceEditsSet.{IsMemoryRefusal}
use Rattle.ini_edit.specs.Sources.{Pieces, SectionPiece, document_in, given_section}
use Rattle.ini_edit.specs.declared.error.EditError.{EditError}
use Rattle.ini_edit.specs.declared.error.EditError.TheVariants.{Key, Name, NoPlace, Separator, Value}
use Rattle.ini_edit.specs.declared.error.EditError.TheVariants.{Text as TextError}
use Rattle.ini_dialect.specs.Inside.{IsFirstName}
use Rattle.ini_dialect.specs.Lookups.{name_fits}
use Rattle.ini_dialect.specs.SectionEdits.{AreEachMade, IsFirstNamed, IsSectionDeleted, has_fitting}
use Rattle.ini_dialect.specs.SectionEdits.{is_sought, renamed_by}
use Rattle.ini_dialect.specs.declared.rule.CaseRule.{CaseRule}
use Rattle.ini_dialect.specs.declared.rule.CaseRule.TheVariants.{Kept}
use Rattle.ini_dialect.specs.declared.rule.SectionRule.TheVariants.{Joined}
use Rattle.ini_dialect.proofs.RuleLemmas.{names_equiv}

-- names that fit, of the same case, are equal
kept_equal : (m n : Option Text) → name_fits Kept m n ≡ true → m ≡ n
kept_equal None None h = refl
kept_equal None (Some t) h = absurd cc
kept_equal (Some s) None h = absurd cc
kept_equal (Some s) (Some t) h = ap Some (texts_equal s t h)

-- the name of the first section that passes
abbrev pub first_key : (Option Text → Bool) → Document → Option (Option Text)
first_key test [] = None
first_key test (s ∷ d) = cond (test s.0) (Some s.0) (first_key test d)

-- so many pass
abbrev pub passing_count : (Option Text → Bool) → Document → ℕ
passing_count test [] = 0
passing_count test (s ∷ d) = cond (test s.0) (ℕ.suc (passing_count test d)) (passing_count test d)

module _ (test : Option Text → Bool) where
  pub any_key : (d : Document) (name : Option Text) → first_key test d ≡ Some name
      → list_any (λ s. test s.0) d ≡ true
  any_key [] name h = absurd cc
  any_key (s ∷ d) name h =
      elim (cases_Bool (test s.0)) [
        | inl fits ↦ rw fits refl
        | inr apart ↦ rw apart (any_key d name (rw apart at h))
      ]

  pub no_key : (d : Document) → first_key test d ≡ None → list_any (λ s. test s.0) d ≡ false
  no_key [] h = refl
  no_key (s ∷ d) h =
      elim (cases_Bool (test s.0)) [
        | inl fits ↦ absurd (let no : ◌≡◌ {A = Option (Option Text)} (Some s.0) None = rw fits at h in cc)
        | inr apart ↦ rw apart (no_key d (rw apart at h))
      ]

  pub key_fits : (d : Document) (name : Option Text) → first_key test d ≡ Some name → test name ≡ true
  key_fits [] name h = absurd cc
  key_fits (s ∷ d) name h =
      elim (cases_Bool (test s.0)) [
        | inl fits ↦
            let is : ◌≡◌ {A = Option (Option Text)} (Some s.0) (Some name) = rw fits at h in
            let same : s.0 ≡ name = cc in
            sym (ap test same) ∙ fits
        | inr apart ↦ key_fits d name (rw apart at h)
      ]

  -- without the first that passes
  pub without_first : (d : Document) → without test (remove_entry test d) ≡ without test d
  without_first [] = refl
  without_first (s ∷ d) = grind (arith, without_first d)

  pub without_none : (d : Document) → list_any (λ s. test s.0) d ≡ false → without test d ≡ d
  without_none [] none = refl
  without_none (s ∷ d) none = grind (arith, none, without_none d)

  pub removed_none : (d : Document) → list_any (λ s. test s.0) d ≡ false → remove_entry test d ≡ d
  removed_none [] none = refl
  removed_none (s ∷ d) none = grind (arith, none, removed_none d)

  pub first_none : (other : Option Text) (d : Document) → list_any (λ s. test s.0) d ≡ false
      → first_renamed test other d ≡ d
  first_none other [] none = refl
  first_none other (s ∷ d) none = grind (arith, none, first_none other d)

  pub fewer_left : (d : Document) → list_any (λ s. test s.0) d ≡ true
      → length (remove_entry test d) < length d
  fewer_left [] some = absurd (false≢true some)
  fewer_left (s ∷ d) some =
      elim (cases_Bool (test s.0)) [
        | inl fits ↦ rw fits (omega arith)
        | inr apart ↦ rw apart (let less = fewer_left d (rw apart at some) in omega (arith, less))
      ]

  module _ (name : Text) (fits : test (Some name) ≡ true) where
    apart_from : (n : Option Text) → test n ≡ false → is_name (Some name) n ≡ false
    apart_from n apart =
        elim (cases_Bool (is_name (Some name) n)) [
          | inl same ↦
              absurd (false≢true (sym apart ∙ ap test (sym (names_equal (Some name) n same)) ∙ fits))
          | inr other ↦ other
        ]

    -- the first section of the name is the first one that passes
    pub removed_first : (d : Document) → first_key test d ≡ Some (Some name)
        → section_removed (Some name) d ≡ remove_entry test d
    removed_first [] h = absurd cc
    removed_first (s ∷ d) h =
        elim (cases_Bool (test s.0)) [
          | inl there ↦
              let is : ◌≡◌ {A = Option (Option Text)} (Some s.0) (Some (Some name)) = rw there at h in
              let same : s.0 ≡ Some name = cc in
              let named : is_name (Some name) s.0 ≡ true =
              ap (is_name (Some name)) same ∙ name_refl (Some name) in
              rw (there, named) refl
          | inr apart ↦
              let other = apart_from s.0 apart in
              rw (apart, other) (ap (λ l. s ∷ l) (removed_first d (rw apart at h)))
        ]

    pub renamed_first : (other : Option Text) (d : Document) → first_key test d ≡ Some (Some name)
        → section_renamed (Some name) other d ≡ first_renamed test other d
    renamed_first other [] h = absurd cc
    renamed_first other (s ∷ d) h =
        elim (cases_Bool (test s.0)) [
          | inl there ↦
              let is : ◌≡◌ {A = Option (Option Text)} (Some s.0) (Some (Some name)) = rw there at h in
              let same : s.0 ≡ Some name = cc in
              let named : is_name (Some name) s.0 ≡ true =
              ap (is_name (Some name)) same ∙ name_refl (Some name) in
              rw (there, named) refl
          | inr apart ↦
              let different = apart_from s.0 apart in
              rw (apart, different) (ap (λ l. s ∷ l) (renamed_first other d (rw apart at h)))
        ]

-- each section that passes is renamed, where those that pass have not the other name
module _ (fit test : Option Text → Bool) (other : Text)
    (either : (n : Option Text) → fit n ≡ true → test n ≡ false → n ≡ Some other)
    (fitting : (n : Option Text) → test n ≡ true → fit n ≡ true) (left : test (Some other) ≡ false) where
  abbrev given_name : Option Text × Pairs → Option Text × Pairs
  given_name s = cond (fit s.0) (Some other, s.1) s

  abbrev named_pairs : Option Text → Pairs → Option Text × Pairs
  named_pairs n ps = (n, ps)

  abbrev called : Pairs → Option Text × Pairs
  called ps = named_pairs (Some other) ps

  same_name : (ps : Pairs) → given_name (called ps) ≡ called ps
  same_name ps = by (fit (Some other))
    where
      by : (b : Bool) → cond b (called ps) (called ps) ≡ called ps
      by true = refl
      by false = refl

  pub renamed_alike : (d : Document)
      → map given_name (first_renamed test (Some other) d) ≡ map given_name d
  renamed_alike [] = refl
  renamed_alike (s ∷ d) =
      elim (cases_Bool (test s.0)) [
        | inl there ↦
            let fits = fitting s.0 there in
            rw (there, fits) (ap (λ x. x ∷ map given_name d) (same_name s.1))
        | inr apart ↦ rw apart (ap (λ l. given_name s ∷ l) (renamed_alike d))
      ]

  pub renamed_none : (d : Document) → list_any (λ s. test s.0) d ≡ false → map given_name d ≡ d
  renamed_none [] none = refl
  renamed_none (s ∷ d) none =
      elim (cases_Bool (test s.0)) [
        | inl there ↦ absurd (false≢true (grind (arith, none, there)))
        | inr apart ↦ ap (λ l. given_name s ∷ l) (renamed_none d (rw apart at none))
            ∙ ap (λ x. x ∷ d) (stays apart)
      ]
    where
      stays : test s.0 ≡ false → given_name s ≡ s
      stays apart =
          elim (cases_Bool (fit s.0)) [
            | inl fits ↦ rw fits (let it : called s.1 ≡ s = ap (λ n. named_pairs n s.1) (sym (either s.0 fits apart)) in it)
            | inr unfit ↦ rw unfit refl
          ]

  pub fewer_sought : (d : Document) → list_any (λ s. test s.0) d ≡ true
      → passing_count test (first_renamed test (Some other) d) < passing_count test d
  fewer_sought [] some = absurd (false≢true some)
  fewer_sought (s ∷ d) some =
      elim (cases_Bool (test s.0)) [
        | inl there ↦ rw (there, left) (omega arith)
        | inr apart ↦ rw apart (rw apart (fewer_sought d (rw apart at some)))
      ]

-- the general section isn't sought
pub general_stays : (case : CaseRule) (name : Text) (but : Option Text) → is_sought case name but None ≡ false
general_stays case name None = refl
general_stays case name (Some but) = refl

-- in pieces
module _ (test : Option Text → Bool) where
  seen_key : (ss : List SectionPiece)
      → first_key test (map given_section ss) ≡ option_map (λ s. s.name) (first_fitting (λ s. test s.name) ss)
  seen_key [] = refl
  seen_key (s ∷ ss) =
      elim (cases_Bool (test s.name)) [
        | inl fits ↦ rw fits refl
        | inr apart ↦ rw apart (seen_key ss)
      ]

  pub first_seen : (ss : List SectionPiece) {name : Text} → IsFirstNamed test ss name
      → first_key test (map given_section ss) ≡ Some (Some name)
  first_seen ss first =
      seen_key ss ∙ ap (option_map (λ s. s.name)) first.first ∙ ap Some first.is_called

  pub none_seen : (ss : List SectionPiece) → first_fitting (λ s. test s.name) ss ≡ None
      → list_any (λ s. test s.0) (map given_section ss) ≡ false
  none_seen ss none =
      no_key test (map given_section ss) (seen_key ss ∙ ap (option_map (λ s. s.name)) none)

  pub some_seen : (ss : List SectionPiece) {name : Text} → IsFirstNamed test ss name
      → list_any (λ s. test s.0) (map given_section ss) ≡ true
  some_seen ss {name} first = any_key test (map given_section ss) (Some name) (first_seen ss first)

  named_fits : (ss : List SectionPiece) {name : Text} → IsFirstNamed test ss name → test (Some name) ≡ true
  named_fits ss {name} first = key_fits test (map given_section ss) (Some name) (first_seen ss first)

  -- a copy of the name of the first section that passes
  pub first_copied : (ss : List SectionPiece) (s : SectionPiece) (copy : Option Text)
      → test None ≡ false → first_fitting (λ s. test s.name) ss ≡ Some s → test s.name ≡ true
      → copy ≡ s.name → IsFirstName test ss copy
  first_copied ss s None general first fits same =
      absurd (false≢true (sym general ∙ ap test same ∙ fits))
  first_copied ss s (Some name) general first fits same =
      record { section = s; first = first; is_called = sym same }

  pub first_answered : (ss : List SectionPiece) (s : SectionPiece) (r : Result (Option (String Global)) AllocError)
      → test None ≡ false → first_fitting (λ s. test s.name) ss ≡ Some s → test s.name ≡ true
      → IfOk r (λ copy. name_of copy ≡ s.name) → IfOk r (λ copy. IsFirstName test ss (name_of copy))
  first_answered ss s (Ok copy) general first fits same =
      first_copied ss s (name_of copy) general first fits same
  first_answered ss s (Err e) general first fits same = tt

  -- the section of this very name
  pub removed_seen : (ss : List SectionPiece) {name : Text} → IsFirstNamed test ss name
      → section_removed (Some name) (map given_section ss) ≡ remove_entry test (map given_section ss)
  removed_seen ss {name} first =
      removed_first test name (named_fits ss first) (map given_section ss) (first_seen ss first)

  pub renamed_seen : (ss : List SectionPiece) {name : Text} (other : Text) → IsFirstNamed test ss name
      → section_renamed (Some name) (Some other) (map given_section ss)
      ≡ first_renamed test (Some other) (map given_section ss)
  renamed_seen ss {name} other first =
      renamed_first test name (named_fits ss first) (Some other) (map given_section ss) (first_seen ss first)

  -- it is there to rename
  found_so : (d : Document) (name : Text) → test (Some name) ≡ true → first_key test d ≡ Some (Some name)
      → first_section (Some name) d ≡ None → ⊥
  found_so [] name fits h none = cc
  found_so (s ∷ d) name fits h none =
      elim (cases_Bool (test s.0)) [
        | inl there ↦
            let is : ◌≡◌ {A = Option (Option Text)} (Some s.0) (Some (Some name)) = rw there at h in
            let same : s.0 ≡ Some name = cc in
            let named : is_name (Some name) s.0 ≡ true =
            ap (is_name (Some name)) same ∙ name_refl (Some name) in
            let no : ◌≡◌ {A = Option Pairs} (Some s.1) None = rw named at none in cc
        | inr apart ↦
            let other = apart_from test name fits s.0 apart in
            found_so d name fits (rw apart at h) (rw other at none)
      ]

  pub renames_there : {policy : EscapePolicy} {p q : Pieces} {name other : Text} (found : Bool)
      → IsFirstNamed test p.sections name → RenamesNameIn policy p q name other found
      → IsNameRenamed policy p q name other
  renames_there true first renamed = renamed
  renames_there {p = p} {name = name} false first renamed =
      absurd (found_so (document_in p) name (named_fits p.sections first) (first_seen p.sections first)
      renamed.1)

-- sections taken out up to here, each that fits
pub record DeletedSoFar (case : CaseRule) (name : Text) (old now : Pieces) (found : Bool) : Type 0 where
  pub goes_on : (q : Pieces) → AreEachMade (λ n. is_sought case name None n) IsSectionDeleted Joined now q
      → AreEachMade (λ n. is_sought case name None n) IsSectionDeleted Joined old q
  pub option : now.option ≡ old.option
  pub document : without (λ n. name_fits case (Some name) n) (document_in now)
      ≡ without (λ n. name_fits case (Some name) n) (document_in old)
  pub some : has_fitting case name (document_in old) ≡ (found || has_fitting case name (document_in now))

module _ (case : CaseRule) (name : Text) where
  abbrev fits : Option Text → Bool
  fits n = name_fits case (Some name) n

  pub deleted_none : (old : Pieces) → DeletedSoFar case name old old false
  deleted_none old = record { goes_on = λ q more. more; option = refl; document = refl; some = refl }

  module _ {old now : Pieces} {found : Bool} (so_far : DeletedSoFar case name old now found) where
    pub deleted_more : {next : Pieces} {exact : Text}
        → IsFirstNamed (λ n. is_sought case name None n) now.sections exact
        → next ≡ with_sections now (section_deleted now.option exact now.sections)
        → document_in next ≡ section_removed (Some exact) (document_in now)
        → DeletedSoFar case name old next true
    deleted_more {next} {exact} first made document = record {
      goes_on = λ q more. so_far.goes_on q (AreEachMade.first_of first made more);
      option = ap (λ (p : Pieces). p.option) made ∙ so_far.option;
      document = ap (without fits) (document ∙ removed_seen fits now.sections first)
          ∙ without_first fits (document_in now) ∙ so_far.document;
      some = so_far.some ∙ ap (λ b. found || b) (some_seen fits now.sections first) ∙ or_true found;
    }
      where
        or_true : (b : Bool) → (b || true) ≡ true
        or_true true = refl
        or_true false = refl

    module _ (none : first_fitting (λ s. is_sought case name None s.name) now.sections ≡ None) where
      pub deleted_found : found ≡ has_fitting case name (document_in old)
      deleted_found =
          sym (so_far.some ∙ ap (λ b. found || b) (none_seen fits now.sections none) ∙ or_false found)
        where
          or_false : (b : Bool) → (b || false) ≡ b
          or_false true = refl
          or_false false = refl

      pub deleted_each : AreEachMade (λ n. is_sought case name None n) IsSectionDeleted Joined old now
      deleted_each = so_far.goes_on now (AreEachMade.none_left none)

      pub deleted_document : document_in now ≡ without fits (document_in old)
      deleted_document =
          sym (without_none fits (document_in now) (none_seen fits now.sections none)) ∙ so_far.document

  pub deleted_fewer : (now next : Pieces) {exact : Text}
      → IsFirstNamed (λ n. is_sought case name None n) now.sections exact
      → document_in next ≡ section_removed (Some exact) (document_in now)
      → length (document_in next) < length (document_in now)
  deleted_fewer now next first document =
      subst (λ d. length d < length (document_in now))
      (sym (document ∙ removed_seen fits now.sections first))
      (fewer_left fits (document_in now) (some_seen fits now.sections first))

-- sections renamed up to here, each that fits
pub record RenamedSoFar (case : CaseRule) (policy : EscapePolicy) (name other : Text) (old now : Pieces)
    : Type 0 where
  pub goes_on : (q : Pieces)
      → AreEachMade (λ n. is_sought case name (Some other) n) (λ p q n. IsNameRenamed policy p q n other)
      Joined now q
      → AreEachMade (λ n. is_sought case name (Some other) n) (λ p q n. IsNameRenamed policy p q n other)
      Joined old q
  pub option : now.option ≡ old.option
  pub document : renamed_by Joined (λ n. name_fits case (Some name) n) other (document_in now)
      ≡ renamed_by Joined (λ n. name_fits case (Some name) n) other (document_in old)

module _ (case : CaseRule) (policy : EscapePolicy) (name other : Text) where
  abbrev sought : Option Text → Bool
  sought n = is_sought case name (Some other) n

  abbrev to_rename : Option Text → Bool
  to_rename n = name_fits case (Some name) n

  either_way : (n : Option Text) → to_rename n ≡ true → sought n ≡ false → n ≡ Some other
  either_way n fits left = sym (kept_equal (Some other) n (grind (arith, fits, left)))

  fitting : (n : Option Text) → sought n ≡ true → to_rename n ≡ true
  fitting n there = grind (arith, there)

  left_over : sought (Some other) ≡ false
  left_over =
      let same : name_fits Kept (Some other) (Some other) ≡ true = (names_equiv Kept).refl (Some other) in
      grind (arith, same)

  pub renamed_start : (old : Pieces) → RenamedSoFar case policy name other old old
  renamed_start old = record { goes_on = λ q more. more; option = refl; document = refl }

  module _ {old now : Pieces} (so_far : RenamedSoFar case policy name other old now) where
    pub renamed_more : {next : Pieces} {exact : Text} → IsFirstNamed sought now.sections exact
        → IsNameRenamed policy now next exact other → RenamedSoFar case policy name other old next
    renamed_more {next} first renamed = record {
      goes_on = λ q more. so_far.goes_on q (AreEachMade.first_of first renamed more);
      option = renamed.option ∙ so_far.option;
      document =
          ap (renamed_by Joined to_rename other)
          (renamed.document ∙ renamed_seen sought now.sections other first)
          ∙ renamed_alike to_rename sought other either_way fitting left_over (document_in now)
          ∙ so_far.document;
    }

    module _ (none : first_fitting (λ s. sought s.name) now.sections ≡ None) where
      pub renamed_each : AreEachMade (λ n. sought n) (λ p q n. IsNameRenamed policy p q n other) Joined old now
      renamed_each = so_far.goes_on now (AreEachMade.none_left none)

      pub renamed_document : document_in now ≡ renamed_by Joined to_rename other (document_in old)
      renamed_document =
          sym (renamed_none to_rename sought other either_way fitting left_over (document_in now)
          (none_seen sought now.sections none)) ∙ so_far.document

  pub renamed_fewer : (now next : Pieces) {exact : Text} → IsFirstNamed sought now.sections exact
      → IsNameRenamed policy now next exact other
      → passing_count sought (document_in next) < passing_count sought (document_in now)
  renamed_fewer now next first renamed =
      subst (λ d. passing_count sought d < passing_count sought (document_in now))
      (sym (renamed.document ∙ renamed_seen sought now.sections other first))
      (fewer_sought to_rename sought other either_way fitting left_over (document_in now)
      (some_seen sought now.sections first))

-- a name that can be written isn't refused
pub plain_refused : (e : EditError) → IsNameOrMemory e → (e ≡ Name → ⊥) → IsMemoryRefusal e
plain_refused Name only plain = absurd (plain refl)
plain_refused (TextError (Memory m)) only plain = tt
plain_refused (TextError (Io e)) only plain = absurd only
plain_refused (TextError (Parse e)) only plain = absurd only
plain_refused (TextError NotUtf8) only plain = absurd only
plain_refused (TextError NoProgress) only plain = absurd only
plain_refused Key only plain = absurd only
plain_refused Value only plain = absurd only
plain_refused Separator only plain = absurd only
plain_refused NoPlace only plain = absurd only
