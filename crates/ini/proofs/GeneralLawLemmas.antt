-- What keeps a general section, edit by edit.
use Rattle.std.proofs.Common.{[], ◌∷◌, ◌++◌, Option, None, Some, IsSome, refl, subst, sym}
use Rattle.ini.specs.Texts.{Text}
use Rattle.ini.specs.Properties.{Pairs}
use Rattle.ini.specs.Documents.{all_sections_removed, section_removed}
use Rattle.ini.specs.Edits.{add_in, delete_in, delete_in_all, rename_key_in, replace_in, section_put}
use Rattle.ini.specs.Edits.{section_set, set_in}
use Rattle.ini.specs.EditLaws.{KeepsGeneral}
use Rattle.ini.proofs.EditLawLemmas.{add-there_still, delete_from-there_still, entry-there_still}
use Rattle.ini.proofs.EditLawLemmas.{replace-there_still, set-there_still}
use Rattle.ini.proofs.EditLemmas.{first_section-append}
use Rattle.ini.proofs.KeepingLemmas.{first-all_sections_removed, first-section_removed, there-deleted}
use Rattle.ini.proofs.KeepingLemmas.{there-section_set}
use Rattle.ini.proofs.RenameLawLemmas.{general-renamed, rename_key-there_still}

module _ (name : Option Text) (key value : Text) where
  pub set-general : KeepsGeneral (set_in name key value)
  set-general = set-there_still name key value None

  pub add-general : KeepsGeneral (add_in name key value)
  add-general = add-there_still name key value None

  pub replace-general : KeepsGeneral (replace_in name key value)
  replace-general = replace-there_still name key value None

  pub rename_key-general : KeepsGeneral (rename_key_in name key value)
  rename_key-general = rename_key-there_still name key value None

module _ (name : Option Text) (key : Text) where
  pub delete-general : KeepsGeneral (delete_in_all name key)
  delete-general = there-deleted name key None

  pub delete_from-general : KeepsGeneral (delete_in name key)
  delete_from-general = delete_from-there_still name key None

module _ (name : Option Text) (pairs : Pairs) where
  pub lent-general : KeepsGeneral (section_set name pairs)
  lent-general = there-section_set name None pairs

  pub entry-general : KeepsGeneral (section_put name pairs)
  entry-general = entry-there_still name pairs None

  pub append-general : KeepsGeneral (λ d. d ++ (name, pairs) ∷ [])
  append-general d = first_section-append None d ((name, pairs) ∷ [])

module _ (name : Text) where
  pub delete_section-general : KeepsGeneral (section_removed (Some name))
  delete_section-general d there = subst IsSome (sym (first-section_removed (Some name) None refl d)) there

  pub delete_sections-general : KeepsGeneral (all_sections_removed (Some name))
  delete_sections-general d there = subst IsSome (sym (first-all_sections_removed
      (Some name) None refl d)) there

pub ruleset general = (
  set-general,
  add-general,
  replace-general,
  rename_key-general,
  delete-general,
  delete_from-general,
  lent-general,
  entry-general,
  append-general,
  delete_section-general,
  delete_sections-general,
  general-renamed,
)
