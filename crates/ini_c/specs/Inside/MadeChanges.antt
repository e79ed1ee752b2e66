-- What changes and a merge make of the pieces of a text, under a rule and by what a setting's value is.
use Rattle.std.specs.Prelude.{◌≡◌, List}
use Rattle.ini.specs.Documents.{Document}
use Rattle.ini_dialect.specs.declared.rule.Lookup.{Lookup}
use Rattle.ini_edit.specs.Sources.{Pieces, document_in}
use Rattle.ini_layers.specs.Applying.{HasChangedBy, LeadsToBy}
use Rattle.ini_layers.specs.Differences.{SettingChange}
use Rattle.ini_layers.specs.Merging.{IsMergedBy, taken_by}
use Rattle.ini_layers.specs.Settings.{AlikeBy}
use Rattle.ini_layers.specs.SourceChanges.{AreMadeBy}
use Rattle.ini_layers.specs.declared.change.SettingValue.{SettingValue}
use Rattle.ini_layers.specs.declared.merging.Side.{Side}
use Rattle.ini_c.specs.Texts.{Asks}
use Rattle.ini_c.specs.declared.options.WriteChoice.{WriteChoice}

module _ (which : SettingValue) (rule : Lookup) (choice : WriteChoice) where
  -- the changes that C gives
  pub record AreMadeOf (given : List SettingChange) (old new : Pieces) : Type 0 where
    pub made : Asks choice (λ w. AreMadeBy which rule w old given new)
    pub values : HasChangedBy which rule given (document_in old) (document_in new)
    pub leads : LeadsToBy which rule given (document_in old) (document_in new)

  -- the merge of two documents with theirs
  pub record IsMergeOf (side : Side) (base ours : Document) (old new : Pieces) : Type 0 where
    pub merged : IsMergedBy which rule side base ours (document_in old) (document_in new)
    pub made : Asks choice
        (λ w. AreMadeBy which rule w old (taken_by which rule side base ours (document_in old)) new)
    pub ours_is_base : AlikeBy which rule base ours → new ≡ old
    pub theirs_is_base : AlikeBy which rule base (document_in old)
        → AlikeBy which rule ours (document_in new)
    pub both_alike : AlikeBy which rule ours (document_in old) → new ≡ old
