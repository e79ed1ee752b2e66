use Rattle.std.proofs.Common.{◌≡◌, drop, fold, map}
use Rattle.ini_edit.specs.Editings.{editing_of}
use Rattle.ini_dialect.specs.RuledLayers.{all_set, with_setting}
use Rattle.ini_dialect.proofs.rule.Lookup.all_set.Given as goal

-- what is left makes the whole of it
abbrev pub invariant-loop-edit : goal.invariant-loop-edit
invariant-loop-edit l =
    fold (with_setting l.self) l.document (map editing_of (drop l.edit-index l.edits))
    ≡ all_set l.self (map editing_of l.edits)
