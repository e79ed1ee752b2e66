-- The laws of edits, edit by edit.
use Rattle.std.proofs.Common.{◌≡◌, [], ◌∷◌, ◌++◌, Option, None, arith, refl}
use Rattle.std.specs.Map.{set_value}
use Rattle.ini.specs.Texts.{Text, is_text}
use Rattle.ini.specs.Properties.{Pairs, inserted, removed}
use Rattle.ini.specs.Documents.{Document, first_section}
use Rattle.ini.specs.Edits.{add_in, delete_in, delete_in_all, replace_in, section_put, set_in}
use Rattle.ini.specs.EditLaws.{KeepsLaterSections, KeepsNames, KeepsOtherKeysIn, KeepsOtherNames}
use Rattle.ini.specs.EditLaws.{KeepsOtherSections, KeepsRest}
use Rattle.ini.proofs.EditLemmas.{edit_section-last}
use Rattle.ini.proofs.KeepingLemmas.{deleted-last, deleted_from-last, entry-there, first-all_removed}
use Rattle.ini.proofs.KeepingLemmas.{first-all_sections_removed, first-appended, first-deleted, first-edited}
use Rattle.ini.proofs.KeepingLemmas.{first-inserted, first-removed, first-replaced, first-section_removed}
use Rattle.ini.proofs.KeepingLemmas.{first-section_set, inserted-there, later-edited, lent-there, name_refl}
use Rattle.ini.proofs.KeepingLemmas.{named-all_sections_removed, named-deleted, named-edited}
use Rattle.ini.proofs.KeepingLemmas.{named-section_removed, named-section_set, others-appended}
use Rattle.ini.proofs.KeepingLemmas.{others-inserted, others-removed, others-replaced, replace-there}
use Rattle.ini.proofs.KeepingLemmas.{rest-deleted, rest-edited, set-there, there-deleted, there-edited}
use Rattle.ini.proofs.KeepingLemmas.{there-section_set, value-deleted, value-edited, values-all_removed}
use Rattle.ini.proofs.KeepingLemmas.{values-appended, values-inserted, values-removed}

-- the first value of the key is another one
abbrev pub replaced : Text → Text → Pairs → Pairs
replaced key value pairs = set_value (is_text key) pairs value

-- a pair is put last
abbrev pub push : Text → Text → Pairs → Pairs
push key value pairs = pairs ++ (key, value) ∷ []

module _ (name : Option Text) (key value : Text) where
  -- what is opened where the name has no section
  abbrev pub one : Document
  one = (name, (key, value) ∷ []) ∷ []

  pub set-names : KeepsOtherNames name (set_in name key value)
  set-names other d apart = first-edited name (inserted key value) one other (grind (arith, apart)) apart d

  pub add-names : KeepsOtherNames name (add_in name key value)
  add-names other d apart = first-edited name (push key value) one other (grind (arith, apart)) apart d

  pub set-sections : KeepsOtherSections name (set_in name key value)
  set-sections other d apart =
      named-edited name (inserted key value) one other (grind (arith, apart)) apart d

  pub add-sections : KeepsOtherSections name (add_in name key value)
  add-sections other d apart = named-edited name (push key value) one other (grind (arith, apart)) apart d

  pub set-keys : KeepsOtherKeysIn name key (set_in name key value)
  set-keys other d apart =
      value-edited name (inserted key value) one other (grind (arith, apart))
      (first-inserted key other apart value) d

  pub add-keys : KeepsOtherKeysIn name key (add_in name key value)
  add-keys other d apart =
      value-edited name (push key value) one other (grind (arith, apart))
      (first-appended key other apart value) d

  pub set-there_still : KeepsNames (set_in name key value)
  set-there_still = there-edited name (inserted key value) one

  pub add-there_still : KeepsNames (add_in name key value)
  add-there_still = there-edited name (push key value) one

  pub set-rest : KeepsRest name key (set_in name key value)
  set-rest = rest-edited name (inserted key value) one key (others-inserted key value)

  pub add-rest : KeepsRest name key (add_in name key value)
  add-rest = rest-edited name (push key value) one key (others-appended key value)

  pub set-later : KeepsLaterSections name (set_in name key value)
  set-later d = later-edited name (inserted key value) one d (grind (arith, name_refl name))

  pub add-later : KeepsLaterSections name (add_in name key value)
  add-later d = later-edited name (push key value) one d (grind (arith, name_refl name))

  pub set-last : (d : Document) → first_section name d ≡ None → set_in name key value d ≡ d ++ one
  set-last = edit_section-last name (inserted key value) one

  pub add-last : (d : Document) → first_section name d ≡ None → add_in name key value d ≡ d ++ one
  add-last = edit_section-last name (push key value) one

  pub replace-names : KeepsOtherNames name (replace_in name key value)
  replace-names other d apart = first-edited name (replaced key value) [] other refl apart d

  pub replace-sections : KeepsOtherSections name (replace_in name key value)
  replace-sections other d apart = named-edited name (replaced key value) [] other refl apart d

  pub replace-keys : KeepsOtherKeysIn name key (replace_in name key value)
  replace-keys other d apart = value-edited name (replaced key value) [] other refl
      (first-replaced key other apart value) d

  pub replace-there_still : KeepsNames (replace_in name key value)
  replace-there_still = there-edited name (replaced key value) []

  pub replace-rest : KeepsRest name key (replace_in name key value)
  replace-rest = rest-edited name (replaced key value) [] key (others-replaced key value)

  pub replace-later : KeepsLaterSections name (replace_in name key value)
  replace-later d = later-edited name (replaced key value) [] d refl

module _ (name : Option Text) (key : Text) where
  pub delete_from-names : KeepsOtherNames name (delete_in name key)
  delete_from-names other d apart = first-edited name (removed key) [] other refl apart d

  pub delete_from-sections : KeepsOtherSections name (delete_in name key)
  delete_from-sections other d apart = named-edited name (removed key) [] other refl apart d

  pub delete_from-keys : KeepsOtherKeysIn name key (delete_in name key)
  delete_from-keys other d apart =
      value-edited name (removed key) [] other refl (first-removed key other apart) d

  pub delete_from-there_still : KeepsNames (delete_in name key)
  delete_from-there_still = there-edited name (removed key) []

  pub delete_from-rest : KeepsRest name key (delete_in name key)
  delete_from-rest = rest-edited name (removed key) [] key (others-removed key)

  pub delete_from-later : KeepsLaterSections name (delete_in name key)
  delete_from-later d = later-edited name (removed key) [] d refl

  pub delete-rest : KeepsRest name key (delete_in_all name key)
  delete-rest d there = rest-deleted name key d

module _ (name : Option Text) (pairs : Pairs) where
  pub entry-names : KeepsOtherNames name (section_put name pairs)
  entry-names other d apart =
      first-edited name (λ _. pairs) ((name, pairs) ∷ []) other (grind (arith, apart)) apart d

  pub entry-sections : KeepsOtherSections name (section_put name pairs)
  entry-sections other d apart =
      named-edited name (λ _. pairs) ((name, pairs) ∷ []) other (grind (arith, apart)) apart d

  pub entry-there_still : KeepsNames (section_put name pairs)
  entry-there_still = there-edited name (λ _. pairs) ((name, pairs) ∷ [])

  pub entry-last : (d : Document) → first_section name d ≡ None
      → section_put name pairs d ≡ d ++ (name, pairs) ∷ []
  entry-last = edit_section-last name (λ _. pairs) ((name, pairs) ∷ [])

pub ruleset there = (inserted-there, set-there, lent-there, entry-there, replace-there)

pub ruleset gone = (deleted-last, deleted_from-last)

pub ruleset keys = (first-inserted, first-appended, first-removed, first-all_removed)

pub ruleset values = (values-inserted, values-appended, values-removed, values-all_removed)

pub ruleset pairs = (others-inserted, others-appended, others-removed)

pub ruleset names = (
  set-names,
  add-names,
  first-deleted,
  delete_from-names,
  replace-names,
  first-section_removed,
  first-all_sections_removed,
  first-section_set,
  entry-names,
)

pub ruleset sections = (
  set-sections,
  add-sections,
  named-deleted,
  delete_from-sections,
  replace-sections,
  named-section_removed,
  named-all_sections_removed,
  named-section_set,
  entry-sections,
)

pub ruleset keys_in = (set-keys, add-keys, value-deleted, delete_from-keys, replace-keys)

pub ruleset names_there = (
  set-there_still,
  add-there_still,
  there-deleted,
  delete_from-there_still,
  replace-there_still,
  there-section_set,
  entry-there_still,
)

pub ruleset rest = (set-rest, add-rest, delete-rest, delete_from-rest, replace-rest)

pub ruleset later = (set-later, add-later, delete_from-later, replace-later)

pub ruleset opened = (set-last, add-last, entry-last)
