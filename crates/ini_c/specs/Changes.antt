-- Changes of settings and conflicts, as C gets them and gives them, and what is made of them.
use Rattle.std.specs.Prelude.{ℕ, Bool, true, false, List, [], ◌∷◌, fold, Option, Some, None, ⊤}
use Rattle.ini.specs.Documents.{Document}
use Rattle.ini.specs.Texts.{Text}
use Rattle.ini_dialect.specs.Rules.{default_lookup, is_own}
use Rattle.ini_dialect.specs.declared.rule.Lookup.{Lookup}
use Rattle.ini_edit.specs.Sources.{Pieces, document_in}
use Rattle.ini_edit.specs.declared.error.EditError.{EditError}
use Rattle.ini_layers.specs.Differences.{SettingChange, difference}
use Rattle.ini_layers.specs.Merging.{SettingConflict, conflicts_by, taken_by}
use Rattle.ini_layers.specs.Settings.{flat_by}
use Rattle.ini_layers.specs.SourceChanges.{RefusesOneBy}
use Rattle.ini_layers.specs.declared.change.SettingValue.{SettingValue}
use Rattle.ini_layers.specs.declared.change.SettingValue.TheVariants.{Counting, List as WholeList}
use Rattle.ini_layers.specs.declared.merging.Side.{Side}
use Rattle.ini_layers.specs.declared.merging.Side.TheVariants.{Ours, Theirs}
use Rattle.ini_c.specs.Given.{AreTextsGiven, texts_given}
use Rattle.ini_c.specs.Listings.{Listed, nothing, with_name, with_text}
use Rattle.ini_c.specs.Texts.{Asks}
use Rattle.ini_c.specs.declared.options.WriteChoice.{WriteChoice}

-- a change goes last in a listing: the name of its section, its key, its value before and after
abbrev pub with_change : Listed → SettingChange → Listed
with_change l c = with_name (with_name (with_text (with_name l c.name) c.key) c.old) c.new

abbrev pub changes_listed : List SettingChange → Listed
changes_listed changes = fold with_change nothing changes

-- a conflict goes last: the change of ours, and the value of theirs
abbrev pub with_conflict : Listed → SettingConflict → Listed
with_conflict l c = with_name (with_change l c.change) c.theirs

abbrev pub conflicts_listed : List SettingConflict → Listed
conflicts_listed conflicts = fold with_conflict nothing conflicts

-- texts are changes: four each, of which the key isn't missing
abbrev pub AreChanges : List (Option Text) → Type 0
AreChanges [] = ⊤
AreChanges (name ∷ Some key ∷ old ∷ new ∷ texts) = AreChanges texts
AreChanges _ = ⊥

abbrev pub changes_of : List (Option Text) → List SettingChange
changes_of (name ∷ Some key ∷ old ∷ new ∷ texts) =
    record { name = name; key = key; old = old; new = new } ∷ changes_of texts
changes_of _ = []

-- so C gives them, as they are listed
abbrev pub AreChangesGiven : List ℕ → List ℕ → Type 0
AreChangesGiven bytes counts = AreTextsGiven bytes counts × AreChanges (texts_given bytes counts)

abbrev pub changes_given : List ℕ → List ℕ → List SettingChange
changes_given bytes counts = changes_of (texts_given bytes counts)

-- whether the value that counts by the default rule is a setting's: the one that a document answers itself
abbrev pub is_own_setting : SettingValue → Lookup → Bool
is_own_setting Counting rule = is_own rule
is_own_setting WholeList rule = false

-- what a document answers under a rule, by what a setting's value is
module _ (which : SettingValue) (rule : Lookup) where
  abbrev pub answers_by : Bool → Document → Document
  answers_by true d = d
  answers_by false d = flat_by which rule d

  abbrev pub answers_under : Document → Document
  answers_under d = answers_by (is_own_setting which rule) d

-- the difference of two documents under a rule, and the conflicts of two with their base, where all are there
module _ (which : SettingValue) (rule : Lookup) where
  abbrev pub difference_in_under : Option Document → Option Document → Option (List SettingChange)
  difference_in_under (Some from) (Some to) =
      Some (difference (answers_under which rule from) (answers_under which rule to))
  difference_in_under _ _ = None

  abbrev pub conflicts_in_under : (base ours theirs : Option Document) → Option (List SettingConflict)
  conflicts_in_under (Some base) (Some ours) (Some theirs) = Some (conflicts_by which rule base ours theirs)
  conflicts_in_under _ _ _ = None

-- the same where a setting has its first value in the first section
abbrev pub difference_in : Option Document → Option Document → Option (List SettingChange)
difference_in from to = difference_in_under Counting default_lookup from to

abbrev pub conflicts_in : (base ours theirs : Option Document) → Option (List SettingConflict)
conflicts_in base ours theirs = conflicts_in_under Counting default_lookup base ours theirs

abbrev pub side_if : Bool → Side
side_if true = Ours
side_if false = Theirs

-- two documents are there, and the pieces change, and so P holds of the four
abbrev pub Merges : (Document → Document → Pieces → Pieces → Type 0)
    → (base ours : Option Document) → (old new : Option Pieces) → Type 0
Merges P (Some base) (Some ours) (Some old) (Some new) = P base ours old new
Merges P _ _ _ _ = ⊥

module _ (which : SettingValue) (rule : Lookup) where
  -- making the changes in the pieces, by an option that the choice asks for, is refused at this index so
  abbrev pub RefusesUnder : WriteChoice → Pieces → List SettingChange → ℕ → EditError → Type 0
  RefusesUnder choice p changes index e =
      Asks choice (λ w. RefusesOneBy which rule w p changes (record { index = index; refusal = e }))

  -- so it is of the changes that a merge makes, where all are there
  abbrev pub RefusesToMergeUnder : WriteChoice → Side → (base ours : Option Document) → Option Pieces → ℕ
      → EditError → Type 0
  RefusesToMergeUnder choice side (Some base) (Some ours) (Some theirs) index e =
      RefusesUnder choice theirs (taken_by which rule side base ours (document_in theirs)) index e
  RefusesToMergeUnder choice side _ _ _ index e = ⊥

-- the same by the default rule
abbrev pub RefusesAt : WriteChoice → Pieces → List SettingChange → ℕ → EditError → Type 0
RefusesAt choice p changes index e = RefusesUnder Counting default_lookup choice p changes index e

abbrev pub RefusesToMerge : WriteChoice → Side → (base ours : Option Document) → Option Pieces → ℕ → EditError
    → Type 0
RefusesToMerge choice side base ours theirs index e =
    RefusesToMergeUnder Counting default_lookup choice side base ours theirs index e
